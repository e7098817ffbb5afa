-- What a caller sees of a sink that keeps all notes.
use Rattle.std.specs.Prelude.{◌≡◌, ℕ, ◌+◌, ◌-◌, ◌^◌, ◌≤◌, List, [], Contains, length, min}
use Rattle.std.proofs.Common.{arith}
use Rattle.base_words.specs.Journal.{Journal}
use Rattle.base_words.specs.Limits.{most_notes}
use Rattle.note_journal.specs.Journals.{JournalView}

-- the notes that it took, the newest first; how many it may take until it asks for memory; how often it took none; and how many it had each time,
-- the first time first
pub record KeepView : Type 0 where
  pub has : Journal ℕ
  pub room : ℕ
  pub refusals : ℕ
  pub refused : List ℕ

-- it refused when it had so many notes
abbrev pub HasRefused : KeepView → ℕ → Type 0
HasRefused keep count = Contains keep.refused count

-- the room is one that a journal may have, and refusals are counted as long as the count goes
pub record IsKept (places refusals : ℕ) (refused : List ℕ) : Type 0 where
  pub few : places ≤ most_notes
  pub counted : refusals ≡ min (length refused) (2 ^ 64 - 1)

-- there is room for so many more notes, and nothing else changes
pub record MakesRoom (count : ℕ) (old new : JournalView ℕ) : Type 0 where
  pub rest : new ≡ record old { room = new.room }
  pub free : length old.notes + count ≤ new.room
  pub grows : old.room ≤ new.room
  pub limit : new.room ≤ most_notes

-- a sink that refused nothing has refused at its first note
pub refused_unasked : HasRefused (record { has = []; room = 1; refusals = 0; refused = [] }) 0 → ⊥
refused_unasked refused = absurd (omega (arith, refused.1))
