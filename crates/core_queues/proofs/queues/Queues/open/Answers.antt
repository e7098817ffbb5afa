use Rattle.core_queues.proofs.Words.{ap, arith, no_seat, None, Queue, replicate, ◌∙◌}
use Rattle.core_queues.proofs.Changes.{IsKept-opened}
use Rattle.core_queues.proofs.OwnSlips.{HasOwnSlips-one}
use Rattle.core_queues.proofs.Rests.{AreAtRest-opened}
use Rattle.core_queues.proofs.Finds.{AreFound-opened}
use Rattle.core_queues.proofs.queues.Queues.open.Goals as goal

pub invariant_of-result : goal.invariant_of-result
invariant_of-result g c =
    rw (c.sealed.ensures, c.sealed-2.ensures.items, c.sealed-2.ensures.capacity, c.push_reserved.ensures.items, c.push_reserved.ensures.capacity, c.in_ok-lines.ensures.items, c.in_ok-add.ensures.added, c.add.ensures.capacity, c.in_ok-slips.ensures.empty) (
      IsKept-opened _ _ c.in_ok-jobs.jobs c.empty.result c.in_ok-jobs.ensures.empty (ap (λ (q : Queue). q.waiting.count) c.empty.ensures) (ap (λ (q : Queue). q.parked.count) c.empty.ensures)
          (omega (arith, c.in_ok-jobs.ensures.capacity)) (omega (arith, c.in_ok-lines.ensures.capacity)),
      HasOwnSlips-one _ (omega (arith, c.in_ok-slips.ensures.room)),
      AreAtRest-opened c.in_ok-jobs.jobs c.empty.result (ap (λ (q : Queue). q.parked.count) c.empty.ensures),
      AreFound-opened c.in_ok-jobs.jobs c.empty.result c.in_ok-names.names c.in_ok-seats.seats.items c.in_ok-jobs.ensures.empty (ap (λ (q : Queue). q.parked.count) c.empty.ensures)
          (c.in_ok-names.ensures ∙ ap (λ n. replicate n None) c.capacity-places.ensures.value) (c.in_ok-seats.ensures ∙ ap (λ n. replicate n no_seat) c.capacity-places.ensures.value),
    )
