use Rattle.judge_audit.proofs.Names.{Assembly, at_place, EachNote, EndedIfSent, IsHistory, Journal, KnowsOrders, ℕ}
use Rattle.judge_audit.proofs.lost.all_ended.Given as goal

abbrev pub invariant-loop-place : goal.invariant-loop-place
invariant-loop-place l =
    (assembly : Assembly ℕ) (journal : Journal ℕ) → KnowsOrders l.orders assembly → IsHistory l.history journal →
    EachNote (EndedIfSent journal assembly l.core) (at_place l.place l.sent.notes)
