use Rattle.core_queues.proofs.Words.{ap, arith, HasOwnSlips, length-set, Queue, queues_alone, refl, subst, sym}
use Rattle.std.specs.Prelude.{Some}
use Rattle.core_queues.proofs.Changes.{lines-weighed, says-weighed, IsKept-weighed, ChangesMode-closed}
use Rattle.core_queues.proofs.Rests.{AreAtRest-same}
use Rattle.core_queues.proofs.Parked.{SameParks-lines}
use Rattle.core_queues.proofs.Finds.{AreFound-same}
use Rattle.core_queues.proofs.Spots.{queue_read}
use Rattle.core_queues.proofs.Views.{exists-view, IsWithinLimits-view}
use Rattle.core_queues.proofs.queues.Queues.close.Goals as goal

pub index_mut-requires : goal.index_mut-requires
index_mut-requires g c =
    let inside = c.self.inside in
    let exists = exists-view inside.room inside.jobs inside.lines.items (ap queues_alone c.self.view_is) c.requires.exists in
    omega (arith, exists, c.queue.view_is)

pub invariant_of-self : goal.invariant_of-self
invariant_of-self g c =
    let inside = c.self.inside in
    let lines = inside.lines.items in
    let was = c.index_mut.result.now in
    let now : Queue = record was { mode = Some c.args.mode } in
    let exists = exists-view inside.room inside.jobs lines (ap queues_alone c.self.view_is) c.requires.exists in
    let here = queue_read lines c.queue.inside.0 c.args.queue was (omega (arith, exists, c.queue.view_is)) c.index_mut.ensures.value c.queue.view_is in
    let waiting = ap (λ (q : Queue). q.waiting) (sym here) in
    let parked = ap (λ (q : Queue). q.parked) (sym here) in
    rw c.queue.view_is (
      IsKept-weighed c.args.queue now c.self.invariant.0 exists waiting parked,
      subst (λ places. HasOwnSlips places inside.slips.at.cap inside.slips.at.items) (sym (length-set lines c.args.queue now)) c.self.invariant.1,
      AreAtRest-same inside.jobs inside.jobs lines _ (says-weighed inside.jobs lines c.args.queue now exists waiting parked) c.self.invariant.2,
      AreFound-same inside.jobs inside.jobs lines _ inside.names inside.seats.items (SameParks-lines inside.jobs lines _ (lines-weighed lines c.args.queue now exists waiting parked)) (λ key. refl) refl c.self.invariant.3,
    )

pub returns-then-does-clause-closed : goal.returns-then-does-clause-closed
returns-then-does-clause-closed g c =
    let inside = c.self.inside in
    let lines = inside.lines.items in
    let was = c.index_mut.result.now in
    let now : Queue = record was { mode = Some c.args.mode } in
    let exists = exists-view inside.room inside.jobs lines (ap queues_alone c.self.view_is) c.requires.exists in
    let here = queue_read lines c.queue.inside.0 c.args.queue was (omega (arith, exists, c.queue.view_is)) c.index_mut.ensures.value c.queue.view_is in
    let waiting = ap (λ (q : Queue). q.waiting) (sym here) in
    let parked = ap (λ (q : Queue). q.parked) (sym here) in
    let weight = ap (λ (q : Queue). q.shares) (sym here) in
    rw (← c.self.view_is, c.queue.view_is)
    (λ did. record { queues = ChangesMode-closed c.args.queue now c.args.mode c.self.invariant.0 exists waiting parked weight refl; slips = refl })

pub returns-then-does-clause-limits : goal.returns-then-does-clause-limits
returns-then-does-clause-limits g c =
    let inside = c.self.inside in
    let lines = inside.lines.items in
    let was = c.index_mut.result.now in
    let now : Queue = record was { mode = Some c.args.mode } in
    let exists = exists-view inside.room inside.jobs lines (ap queues_alone c.self.view_is) c.requires.exists in
    let here = queue_read lines c.queue.inside.0 c.args.queue was (omega (arith, exists, c.queue.view_is)) c.index_mut.ensures.value c.queue.view_is in
    let waiting = ap (λ (q : Queue). q.waiting) (sym here) in
    let parked = ap (λ (q : Queue). q.parked) (sym here) in
    rw c.queue.view_is (IsWithinLimits-view (IsKept-weighed c.args.queue now c.self.invariant.0 exists waiting parked))

pub returns-else-does-clause-limits : goal.returns-else-does-clause-limits
returns-else-does-clause-limits g c = rw (← c.self.view_is) (IsWithinLimits-view c.self.invariant.0)
