-- What no piece and no count may be, each refused by the definition that judges it.
use Rattle.std.proofs.Common.{arith, ap, length-append}
use Rattle.std.specs.Prelude.{ℕ, List, [], ◌∷◌, length}
use Rattle.base_words.specs.declared.note.Note.{Note}
use Rattle.note_journal.specs.Journals.{JournalView}
use Rattle.host_text.specs.declared.part.Form.TheVariants.{Text}
use Rattle.host_text.specs.Pieces.{AreCounts, ForgetsKept, IsPiece}

-- a journal that keeps this note alone, and may keep three more
abbrev pub one_note : Note ℕ → JournalView ℕ
one_note note = record { notes = note ∷ []; passed = []; room = 4 }

-- a piece has more notes than were asked for
pub piece_is_too_long : (journal : JournalView ℕ) (text : List ℕ) → IsPiece 0 Text 0 2 journal 3 text → ⊥
piece_is_too_long journal text piece = omega (arith, piece.count)

-- a piece ends before the notes do
pub piece_is_too_short : (note : Note ℕ) (text : List ℕ) → IsPiece 0 Text 0 2 (one_note note) 0 text → ⊥
piece_is_too_short note text piece = omega (arith, piece.count, ap (λ notes. length notes) piece.whole, length-append piece.kept [])

-- a note is forgotten that isn't counted
pub note_is_not_counted : (note : Note ℕ) (new : JournalView ℕ) → ForgetsKept (one_note note) 0 new → ⊥
note_is_not_counted note new forgets = omega (arith, forgets.count_is)

-- the places of what was forgotten stay used
pub forgotten_places_stay_used : (note : Note ℕ) → ForgetsKept (one_note note) 1 (record { notes = note ∷ []; passed = note ∷ []; room = 4 }) → ⊥
forgotten_places_stay_used note forgets = omega (arith, ap (λ (journal : JournalView ℕ). journal.room) forgets.journal)

-- what is kept and what is free changed places
pub counts_change_places : (note : Note ℕ) → AreCounts (one_note note) 3 1 → ⊥
counts_change_places note counts = omega (arith, counts.kept_is)
