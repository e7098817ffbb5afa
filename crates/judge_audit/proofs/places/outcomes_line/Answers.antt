use Rattle.judge_audit.proofs.Names.{both_ways, EachNote, inl, inr, IsFirstFault, IsHistory, Journal, OutcomesRight, refl, subst, sym, ℕ}
use Rattle.judge_audit.proofs.NoFaults.{if_found}
use Rattle.judge_audit.proofs.places.outcomes_line.Goals as goal

pub outcomes_fault-requires : goal.outcomes_fault-requires
outcomes_fault-requires c =
    subst (λ (journal : Journal ℕ). IsHistory c.args.history.now journal) (sym c.journal-journal.ensures) c.requires.history

pub returns-then-is_lost-clause-named : goal.returns-then-is_lost-clause-named
returns-then-is_lost-clause-named c =
    inl (refl, λ keeps. both_ways c.is_lost.result (c.is_lost.ensures.only keeps) c.if-is_lost.true)

pub returns-clause-kept : goal.returns-clause-kept
returns-clause-kept c =
    λ none.
    record {
      notes =
          subst (λ (journal : Journal ℕ). EachNote (OutcomesRight c.args.assembly.now) journal) c.journal-journal.ensures
          (c.outcomes_fault.ensures.kept none c.args.assembly.now c.requires.orders c.requires.outcomes);
      all_ended = c.is_lost.ensures.kept c.if-is_lost.false;
    }

pub returns-clause-named : goal.returns-clause-named
returns-clause-named c =
    if_found c.outcomes_fault.result _ _
    (
    λ at found.
    inr (
      c.is_lost.ensures.kept c.if-is_lost.false,
      subst (λ (journal : Journal ℕ). IsFirstFault (OutcomesRight c.args.assembly.now) journal at) c.journal-journal.ensures
          (found c.args.assembly.now c.requires.orders c.requires.outcomes),
    )
    )
    c.outcomes_fault.ensures.named
