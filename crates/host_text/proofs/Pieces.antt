-- The pieces of the notes that a journal keeps, one behind another.
use Rattle.std.proofs.Common.{◌≡◌, ℕ, ◌+◌, ◌-◌, ◌<◌, ◌≤◌, List, ◌++◌, sym, ap, ◌∙◌, length, take, drop, map, min, arith, take-add, take_all}
use Rattle.std.specs.Prelude.{reverse}
use Rattle.std.proofs.lemmas.List.{append_cancel_right, length-reverse, map-append}
use Rattle.base_words.specs.Journal.{Journal}
use Rattle.base_words.specs.declared.note.Note.{Note}
use Rattle.text_words.specs.Notes.{note_line}
use Rattle.note_journal.specs.Journals.{JournalView}
use Rattle.text_journal.specs.Texts.{text_of}
use Rattle.text_journal.proofs.LineLemmas.{front_text, text_of-append}
use Rattle.host_text.specs.declared.part.Form.TheVariants.{Text}
use Rattle.host_text.specs.Laws.{IsFront, PiecesAreJoined}
use Rattle.host_text.specs.Parts.{IsPart}
use Rattle.host_text.specs.Pieces.{IsPiece}

-- so many notes more
front_longer : (actor from count : ℕ) (notes : List (Note ℕ)) → front_text actor notes from ++ text_of (map (note_line actor) (take count (drop from notes))) ≡ front_text actor notes (from + count)
front_longer actor from count notes =
    sym (text_of-append (map (note_line actor) (take from notes)) (map (note_line actor) (take count (drop from notes)))) ∙
    (ap text_of (sym (map-append (note_line actor) (take from notes) (take count (drop from notes)))) ∙ ap (λ notes. text_of (map (note_line actor) notes)) (sym (take-add from count notes)))

module _ (actor from most notes : ℕ) (journal : JournalView ℕ) (joined text : List ℕ) (front : IsFront actor from journal joined) (piece : IsPiece actor Text from most journal notes text) where
  -- both are of the same notes
  same : piece.kept ≡ front.kept
  same = append_cancel_right piece.kept front.kept journal.passed (piece.whole ∙ sym front.whole)

  longer : IsFront actor (from + notes) journal (joined ++ text)
  longer = record {
    kept = front.kept;
    whole = front.whole;
    lines =
        ap (λ text. joined ++ text) (piece.is ∙ ap (λ (kept : Journal ℕ). text_of (map (note_line actor) (take notes (drop from (reverse kept))))) same) ∙
        (ap (λ joined. joined ++ text_of (map (note_line actor) (take notes (drop from (reverse front.kept))))) front.lines ∙ front_longer actor from notes (reverse front.kept));
  }

  -- none stands behind them
  over : 0 < most → notes ≡ 0 → length (reverse front.kept) ≤ from
  over some none =
      let count : notes ≡ min most (length front.kept - from) = piece.count ∙ ap (λ (kept : Journal ℕ). min most (length kept - from)) same in
      omega (arith, count, some, none, length-reverse front.kept)

  ended : 0 < most → notes ≡ 0 → IsPart actor journal joined
  ended some none = record {
    kept = front.kept;
    whole = front.whole;
    lines = front.lines ∙ ap (λ notes. text_of (map (note_line actor) notes)) (take_all from (reverse front.kept) (over some none));
  }

pub joined : PiecesAreJoined
joined actor from most notes journal text more front piece = (longer actor from most notes journal text more front piece, ended actor from most notes journal text more front piece)
