use Rattle.judge_audit.proofs.Names.{all_rows, AreReached, Assembly, at_place, EachNote, KnowsOrders, length, OrderSoFar, StartsRight, ℕ, ◌≡◌}
use Rattle.judge_audit.proofs.order.order_fault.Given as goal

abbrev pub invariant-loop-place : goal.invariant-loop-place
invariant-loop-place l = record {
  so_far : (assembly : Assembly ℕ) → KnowsOrders l.orders assembly → EachNote (StartsRight assembly) l.journal.notes →
      OrderSoFar assembly l.numbers (at_place l.place l.journal.notes);
  reached : (assembly : Assembly ℕ) → KnowsOrders l.orders assembly → AreReached assembly l.numbers (at_place l.place l.journal.notes);
  rows : length l.numbers.started ≡ all_rows;
}
