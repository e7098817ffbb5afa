-- What a journal passes on, and what becomes of it.
use Rattle.std.specs.Prelude.{◌≡◌, ℕ, ◌+◌, length, Option, None, Some, Result, Ok, Err}
use Rattle.base_words.specs.Journal.{Journal}
use Rattle.note_journal.specs.Journals.{JournalView, passed_all}
use Rattle.note_journal.specs.declared.sink.Refused.{Refused}

module _ {T S : Type 0} (has : S → Journal T) (refused : S → ℕ → Type 0) where
  -- the sink takes all notes that are kept, and then it has them all; or it refuses, and nothing changes but that it refused
  abbrev pub PassesOn : JournalView T → S → Result (Unit {0}) Refused → JournalView T → S → Type 0
  PassesOn old before (Ok done) new after = (new ≡ passed_all old) × (has after ≡ new.notes)
  PassesOn old before (Err why) new after = (new ≡ old) × (has after ≡ has before) × refused after (length old.passed)

-- where the sink refused before, it refused
abbrev pub KeepsRefusals : {S : Type 0} → (S → ℕ → Type 0) → S → S → Type 0
KeepsRefusals refused before after = (count : ℕ) → refused before count → refused after count

-- the sink was asked once, if it counts how often it is
abbrev pub IsAsked : Option ℕ → Option ℕ → Type 0
IsAsked None new = Unit {0}
IsAsked (Some old) new = new ≡ Some (old + 1)
