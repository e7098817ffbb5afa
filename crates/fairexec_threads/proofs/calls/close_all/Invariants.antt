-- The cores before this one are closed.
use Rattle.fairexec_threads.specs.Counting.{AreClosedBelow}
use Rattle.fairexec_threads.specs.Offers.{OffersAll, closings}
use Rattle.fairexec_threads.proofs.calls.close_all.Given as goal

abbrev pub invariant-loop-core : goal.invariant-loop-core
invariant-loop-core l = record {
  offers : OffersAll (closings l.core) l.initial.house l.house;
  closed : AreClosedBelow l.core l.house;
}
