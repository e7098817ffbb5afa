-- A core beside its journal stays recorded behind a try to pass its notes on.
use Rattle.actor_core.proofs.Names.{◌≡◌, ℕ, ◌∙◌, Journal, Meaning, CoreView, DeskView, Envelope, IsRecorded, List, RecordedView, Result, ap, desk_of, subst, sym}
use Rattle.actor_desk.proofs.Passed.{passed_holds}
use Rattle.note_journal.specs.Journals.{passed_all}
use Rattle.note_journal.specs.Passing.{PassesOn}
use Rattle.note_journal.specs.declared.sink.Refused.{Refused}
use Rattle.actor_core.proofs.QuietSteps.{desk_is, view_of}

module _ {J T : Type 0} {meaning : Meaning J T} where
  -- the same notes, of which more were passed on
  recorded_passed : (old : RecordedView J T) → IsRecorded meaning old → IsRecorded meaning (record old { journal = passed_all old.journal })
  recorded_passed old is = assumption (is, is.tasks)

  module _ {S : Type 0} (has : S → Journal T) (refused : S → ℕ → Type 0) (inside : CoreView J) (took : List (Envelope J)) (said : DeskView J T)
      (invariant : IsRecorded meaning (view_of inside took said) × (said ≡ desk_of (view_of inside took said))) {now : DeskView J T} (rest : now ≡ record said { journal = now.journal }) where
    -- nothing of the core but its journal has changed
    pub passed_is : view_of inside took now ≡ record (view_of inside took said) { journal = now.journal }
    passed_is = λ i. record { cap = (rest i).cap; core = inside; journal = now.journal; took = took; lanes = (rest i).lanes }

    -- and the desk is its own
    pub passed_invariant : (before after : S) (answer : Result (Unit {0}) Refused) → PassesOn has refused said.journal before answer now.journal after →
        IsRecorded meaning (view_of inside took now) × (now ≡ desk_of (view_of inside took now))
    passed_invariant before after answer passes = (
      subst (IsRecorded meaning) (sym passed_is)
          (passed_holds has refused (λ journal. IsRecorded meaning (record (view_of inside took said) { journal = journal })) said.journal before answer now.journal after
          invariant.0 (recorded_passed (view_of inside took said) invariant.0) passes),
      desk_is now inside took (ap (λ desk. desk.actor) rest ∙ ap (λ desk. desk.actor) invariant.1) (ap (λ desk. desk.cores) rest ∙ ap (λ desk. desk.cores) invariant.1) (ap (λ desk. desk.burst) rest ∙ ap (λ desk. desk.burst) invariant.1),
    )
