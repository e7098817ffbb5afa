-- A line and the note that it tells are one.
use Rattle.std.proofs.Common.{◌≡◌, ℕ, ◌==◌, List, [], ◌∷◌, refl, sym, ap, ◌∙◌, arith, decimal}
use Rattle.std.proofs.lemmas.List.Splits.{slice_split_none, slice_split_at, join_with_byte-slice_split}
use Rattle.text_words.specs.Words.{words}
use Rattle.text_journal.specs.Laws.{LineTellsNote, NoteHasOneLine}
use Rattle.text_journal.proofs.NoteReads.{note_read}
use Rattle.text_journal.proofs.NoteTells.{note_tells}
use Rattle.text_journal.proofs.NoteTexts.{note_words}
use Rattle.text_journal.proofs.JoinedTexts.{joined, line_joined}
use Rattle.text_journal.proofs.WholeWords.{HaveNo, number_word, note_whole}

-- the words of a line are those that were joined
pub words_joined : (w : List ℕ) (ws : List (List ℕ)) → HaveNo 32 (w ∷ ws) → words (joined (w ∷ ws)) ≡ w ∷ ws
words_joined w [] are = slice_split_none (λ byte. byte == 32) w are.0
words_joined w (v ∷ ws) are =
    slice_split_at (λ byte. byte == 32) w 32 (joined (v ∷ ws)) are.0 refl ∙ ap (λ rest. w ∷ rest) (words_joined v ws are.1)

-- the line of a note tells it
pub line_tells : LineTellsNote
line_tells terms written actor spelled times =
    let few = actor.1 in
    let here = actor.2 in (
      note_words written,
      ap words (line_joined terms.actor written) ∙ words_joined (decimal terms.actor) (note_words written) (number_word 32 (omega arith) terms.actor (omega arith), note_whole 32 (omega arith) terms written few spelled times),
      note_tells terms written few spelled times,
    )

-- a line whose words are these
pub one_line : NoteHasOneLine
one_line terms written line actor told =
    let read = note_read terms told.0 written actor.0 actor.1 told.2 in (
      sym (join_with_byte-slice_split 32 line)
          ∙ ap joined (told.1 ∙ ap (λ ws. decimal terms.actor ∷ ws) read.0)
          ∙ sym (line_joined terms.actor written),
      read.1,
    )
