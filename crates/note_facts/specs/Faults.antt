-- Which note of a journal is the first at fault.
use Rattle.std.specs.Prelude.{◌≡◌, ℕ, ◌≤◌, ◌∷◌, length}
use Rattle.base_words.specs.declared.note.Note.{Note}
use Rattle.base_words.specs.Journal.{Journal, EachNote, at_place}

-- at this line, counted from 1, stands the first note that doesn't have this property
pub record IsFirstFault {T : Type 0} (P : Note T → Journal T → Type 0) (journal : Journal T) (line : ℕ) : Type 0 where
  pub note : Note T
  pub before : Journal T
  pub within : line ≤ length journal
  pub there : at_place line journal ≡ note ∷ before
  pub kept : EachNote P before
  pub broken : P note before → ⊥
