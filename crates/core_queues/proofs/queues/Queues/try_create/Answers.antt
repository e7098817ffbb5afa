use Rattle.core_queues.proofs.Words.{AddsQueue, ap, arith, HasOwnSlips, length, length_push, Queue, refl, Some, subst, sym, [], ◌++◌, ◌∙◌, ◌∷◌}
use Rattle.core_queues.proofs.Views.{alone, IsWithinLimits-view, queue_count-view}
use Rattle.core_queues.proofs.Changes.{IsKept-created, AddsQueue-created, lines-created, says-created}
use Rattle.core_queues.proofs.Rests.{AreAtRest-same}
use Rattle.core_queues.proofs.Parked.{SameParks-lines}
use Rattle.core_queues.proofs.Finds.{AreFound-same}
use Rattle.core_queues.proofs.OwnSlips.{HasOwnSlips-push, map_is_some-push}
use Rattle.core_queues.proofs.queues.Queues.try_create.Goals as goal

pub returns-then-count-eq-MOST_QUEUES-clause-too_many : goal.returns-then-count-eq-MOST_QUEUES-clause-too_many
returns-then-count-eq-MOST_QUEUES-clause-too_many g c =
    rw (← c.self.view_is) (λ _. omega (arith, queue_count-view c.self.inside.room c.self.inside.jobs c.self.inside.lines.items, c.len-count.ensures), λ _. refl)

pub returns-then-count-eq-MOST_QUEUES-clause-limits : goal.returns-then-count-eq-MOST_QUEUES-clause-limits
returns-then-count-eq-MOST_QUEUES-clause-limits g c = rw (← c.self.view_is) (IsWithinLimits-view c.self.invariant.0)

pub add-requires : goal.add-requires
add-requires g c =
    omega (arith, c.self.invariant.1.counted, c.self.invariant.1.reserved, c.self.invariant.0.few_queues, c.len-count.ensures, c.if-count-eq-MOST_QUEUES.false)

pub invariant_of-self : goal.invariant_of-self
invariant_of-self g c =
    let waiting = ap (λ (q : Queue). q.waiting) c.empty.ensures in
    let parked = ap (λ (q : Queue). q.parked) c.empty.ensures in
    let lines = c.self.inside.lines.items in
    let slips = c.self.inside.slips.at.items in
    let of_number : HasOwnSlips (length (lines ++ c.empty.result ∷ [])) c.self.inside.slips.at.cap (slips ++ Some c.len-count.result ∷ []) =
    rw (length_push, c.len-count.ensures) (HasOwnSlips-push (length lines) c.self.inside.slips.at.cap slips c.self.invariant.1) in
    rw (c.push_reserved.ensures.items, c.push_reserved.ensures.capacity, c.in-Ok.ensures.added, c.add.ensures.capacity) (
      IsKept-created c.empty.result c.self.invariant.0 (λ e. c.if-count-eq-MOST_QUEUES.false (c.len-count.ensures ∙ e)) waiting parked,
      of_number,
      AreAtRest-same c.self.inside.jobs c.self.inside.jobs lines _ (says-created c.self.inside.jobs lines c.empty.result waiting parked) c.self.invariant.2,
      AreFound-same c.self.inside.jobs c.self.inside.jobs lines _ c.self.inside.names c.self.inside.seats.items (SameParks-lines c.self.inside.jobs lines _ (lines-created lines c.empty.result waiting parked)) (λ key. refl) refl c.self.invariant.3,
    )

pub invariant_of-self-in-Err : goal.invariant_of-self-in-Err
invariant_of-self-in-Err g c = rw c.in-Err.ensures.refused c.self.invariant

pub returns-in-Ok-clause-created : goal.returns-in-Ok-clause-created
returns-in-Ok-clause-created g c =
    let inside = c.self.inside in
    let lines = inside.lines.items in
    let weight = ap (λ (q : Queue). q.shares) c.empty.ensures in
    let waiting = ap (λ (q : Queue). q.waiting) c.empty.ensures in
    let parked = ap (λ (q : Queue). q.parked) c.empty.ensures in
    let never = ap (λ (q : Queue). q.mode) c.empty.ensures in
    rw (c.push_reserved.ensures.items, c.in-Ok.ensures.added, ← c.self.view_is, c.len-count.ensures) (record {
      queues = subst (λ shares. AddsQueue (alone inside.room inside.jobs lines) (alone inside.room inside.jobs (lines ++ c.empty.result ∷ [])) (length lines) shares) weight
          (AddsQueue-created c.empty.result c.self.invariant.0 (λ e. c.if-count-eq-MOST_QUEUES.false (c.len-count.ensures ∙ e)) waiting parked never);
      slips = map_is_some-push inside.slips.at.items (length lines);
    })

pub returns-in-Ok-clause-too_many : goal.returns-in-Ok-clause-too_many
returns-in-Ok-clause-too_many g c =
    rw (← c.self.view_is) (λ e. cc, λ e. absurd (c.if-count-eq-MOST_QUEUES.false (c.len-count.ensures ∙ sym (queue_count-view c.self.inside.room c.self.inside.jobs c.self.inside.lines.items) ∙ e)))

pub returns-in-Ok-clause-limits : goal.returns-in-Ok-clause-limits
returns-in-Ok-clause-limits g c =
    let waiting = ap (λ (q : Queue). q.waiting) c.empty.ensures in
    let parked = ap (λ (q : Queue). q.parked) c.empty.ensures in
    rw c.push_reserved.ensures.items (IsWithinLimits-view (IsKept-created c.empty.result c.self.invariant.0 (λ e. c.if-count-eq-MOST_QUEUES.false (c.len-count.ensures ∙ e)) waiting parked))

pub returns-in-Err-clause-too_many : goal.returns-in-Err-clause-too_many
returns-in-Err-clause-too_many g c =
    rw (← c.self.view_is) (λ e. cc, λ e. absurd (c.if-count-eq-MOST_QUEUES.false (c.len-count.ensures ∙ sym (queue_count-view c.self.inside.room c.self.inside.jobs c.self.inside.lines.items) ∙ e)))

pub returns-in-Err-clause-limits : goal.returns-in-Err-clause-limits
returns-in-Err-clause-limits g c = IsWithinLimits-view c.self.invariant.0
