use Rattle.judge_audit.proofs.Names.{Assembly, at_place, EachNote, KnowsOrders, KnowsOutcomes, OutcomesRight, ℕ}
use Rattle.judge_audit.proofs.outcomes.outcomes_fault.Given as goal

abbrev pub invariant-loop-place : goal.invariant-loop-place
invariant-loop-place l =
    (assembly : Assembly ℕ) → KnowsOrders l.orders assembly → KnowsOutcomes l.outcomes assembly →
    EachNote (OutcomesRight assembly) (at_place l.place l.journal.notes)
