-- What no piece in bytes may be, each refused by the definition that judges it.
use Rattle.std.proofs.Common.{ap, sym, ◌∙◌, append-nil}
use Rattle.std.specs.Prelude.{◌≡◌, ℕ, List, [], ◌∷◌, drop, reverse, take}
use Rattle.base_words.specs.Journal.{Journal}
use Rattle.base_words.specs.declared.note.Note.{Note}
use Rattle.base_words.specs.declared.note.Note.TheVariants.{CoreClosed}
use Rattle.base_words.specs.declared.order.Mode.TheVariants.{Finish, Return}
use Rattle.note_journal.specs.Journals.{JournalView}
use Rattle.text_parts.specs.NoteBytes.{wide}
use Rattle.text_parts.specs.Parts.{part_bytes}
use Rattle.host_text.specs.declared.part.Form.TheVariants.{Bytes}
use Rattle.host_text.specs.Pieces.{IsPiece}

-- a core closed, and then more strictly: the newest note first
abbrev pub two_closes : JournalView ℕ
two_closes = record { notes = CoreClosed Return ∷ CoreClosed Finish ∷ []; passed = []; room = 4 }

-- the bytes of so many of these notes, the oldest first
abbrev pub part_with : ℕ → List (Note ℕ) → List ℕ
part_with before notes = part_bytes (record { actor = 0; before = before; notes = notes })

-- such a piece has both
pub both_are_kept : (written : List ℕ) → IsPiece 0 (Bytes 5) 0 2 two_closes 2 written → written ≡ part_with 5 (CoreClosed Finish ∷ CoreClosed Return ∷ [])
both_are_kept written piece = piece.is ∙ ap (λ (kept : Journal ℕ). part_with 5 (take 2 (drop 0 (reverse kept)))) (sym (append-nil piece.kept) ∙ piece.whole)

-- a part says that another number of notes came before it
pub before_of_another : IsPiece 0 (Bytes 5) 0 2 two_closes 2 (part_with 4 (CoreClosed Finish ∷ CoreClosed Return ∷ [])) → ⊥
unfolding wide
before_of_another piece = cc (ap (λ bytes. take 1 (drop 5 bytes)) (both_are_kept _ piece))

-- a part lacks its last note
pub last_note_is_lost : IsPiece 0 (Bytes 5) 0 2 two_closes 2 (part_with 5 (CoreClosed Finish ∷ [])) → ⊥
unfolding wide
last_note_is_lost piece = cc (ap (λ bytes. take 1 (drop 13 bytes)) (both_are_kept _ piece))

-- a part has a note twice, in place of another
pub note_is_twice : IsPiece 0 (Bytes 5) 0 2 two_closes 2 (part_with 5 (CoreClosed Finish ∷ CoreClosed Finish ∷ [])) → ⊥
unfolding wide
note_is_twice piece = cc (ap (λ bytes. take 1 (drop 32 bytes)) (both_are_kept _ piece))
