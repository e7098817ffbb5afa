-- The notes of one actor, as a caller sees them.
use Rattle.std.specs.Prelude.{ℕ, ◌+◌, ◌-◌, ◌≤◌, List, [], ◌∷◌, ◌++◌, length, reverse}
use Rattle.std.proofs.Common.{arith}
use Rattle.base_words.specs.declared.note.Note.{Note}
use Rattle.base_words.specs.Journal.{Journal}

-- the notes, the newest first; those of them that were passed on; and how many there may be in all, until more are passed on
pub record JournalView (T : Type 0) : Type 0 where
  pub notes : Journal T
  pub passed : Journal T
  pub room : ℕ

module _ {T : Type 0} where
  -- how many more notes there may be
  abbrev pub free_notes : JournalView T → ℕ
  free_notes journal = journal.room - length journal.notes

  -- no more notes stand in it than there may be
  abbrev pub IsWithinRoom : JournalView T → Type 0
  IsWithinRoom journal = length journal.notes ≤ journal.room

  -- the journal of these notes, the oldest first, of which none was passed on
  abbrev pub journal_of_notes : ℕ → List (Note T) → JournalView T
  journal_of_notes room notes = record { notes = reverse notes; passed = []; room = room }

  -- the journal of these notes behind those that were passed on, the oldest first; so many of them may be kept
  abbrev pub journal_behind : List (Note T) → ℕ → Journal T → JournalView T
  journal_behind passed places notes = record { notes = notes ++ reverse passed; passed = reverse passed; room = length passed + places }

  -- how many notes may be kept
  abbrev pub places_of : JournalView T → ℕ
  places_of journal = journal.room - length journal.passed

  -- all notes are passed on, and there may be as many more as were kept
  abbrev pub passed_all : JournalView T → JournalView T
  passed_all journal = record { notes = journal.notes; passed = journal.notes; room = length journal.notes + places_of journal }

  -- all notes have room, and the room has its memory
  pub record IsReserved (room reserved capacity : ℕ) (notes : List (Note T)) : Type 0 where
    pub within_room : length notes ≤ room
    pub within_reserved : room ≤ reserved
    pub within_capacity : reserved ≤ capacity

-- a note stands where there is room for none
pub beyond_its_room : (note : Note ℕ) → IsWithinRoom (record { notes = note ∷ []; passed = []; room = 0 }) → ⊥
beyond_its_room note within = absurd (omega (arith, within))
