-- The orders so far are sent.
use Rattle.fairexec_threads.specs.Offers.{OffersAll}
use Rattle.fairexec_threads.proofs.calls.offer_all.Given as goal

abbrev pub invariant-loop-told : goal.invariant-loop-told
invariant-loop-told l = OffersAll l.yielded l.initial.house l.house
