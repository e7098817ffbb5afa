-- What holds of a journal behind a passing.
use Rattle.std.proofs.Common.{ℕ, Result, Ok, Err, sym, subst}
use Rattle.base_words.specs.Journal.{Journal}
use Rattle.note_journal.specs.Journals.{JournalView, passed_all}
use Rattle.note_journal.specs.Passing.{PassesOn}
use Rattle.note_journal.specs.declared.sink.Refused.{Refused}

module _ {T S : Type 0} (has : S → Journal T) (refused : S → ℕ → Type 0) where
  -- what holds of the journal as it was, and of it with all notes passed on, holds behind a try
  pub passed_holds : (P : JournalView T → Type 0) (old : JournalView T) (before : S) (answer : Result (Unit {0}) Refused) (new : JournalView T) (after : S) →
      P old → P (passed_all old) → PassesOn has refused old before answer new after → P new
  passed_holds P old before (Ok done) new after was all did = subst P (sym did.0) all
  passed_holds P old before (Err why) new after was all did = subst P (sym did.0) was
