use Rattle.judge_audit.proofs.Names.{Assembly, at_place, EachNote, KnowsOrders, StartsRight, ℕ}
use Rattle.judge_audit.proofs.starts.starts_fault.Given as goal

abbrev pub invariant-loop-place : goal.invariant-loop-place
invariant-loop-place l =
    (assembly : Assembly ℕ) → KnowsOrders l.orders assembly → EachNote (StartsRight assembly) (at_place l.place l.journal.notes)
