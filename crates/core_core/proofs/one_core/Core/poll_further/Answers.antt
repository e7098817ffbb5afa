use Rattle.core_core.proofs.Names.{ap, core_view, CoreView, GoesOn, IfSome, is_done_step, job_out, longer, min, number_if, OpenTurn, Option, polled_again, queues_alone, shares_of, slice_set, Some}
use Rattle.core_core.proofs.Names.{subst, sym, tally_of, waiting_of, ◌+◌, ◌-◌, ◌^◌, ◌∙◌}
use Rattle.core_core.proofs.FurtherTurn.{goes_on_has, HasFollowed, IsCore-further_as, IsBounded-further, TurnsFurther-polled}
use Rattle.core_core.proofs.HeldQueue.{KnowsHeld, knows_turn}
use Rattle.core_core.proofs.InTurn.{counted_in_turn}
use Rattle.core_core.proofs.Whole.{front_ready}
use Rattle.core_core.proofs.one_core.Core.poll_further.Given.{Over}
use Rattle.core_core.proofs.one_core.Core.poll_further.Goals as goal
use Rattle.core_core.proofs.one_core.Core.poll_further.Goals.{In-Some}

-- the core before
abbrev old_of : (g : Over) (c : In-Some g) → CoreView g.row.J.Denot
old_of g c =
    let inside = c.self.inside in
    core_view inside.core inside.cores (queues_alone inside.queues) inside.tallies.items inside.floor inside.turns (job_out inside.out) inside.senders inside.mode inside.bursts

-- its turn goes on
goes : (g : Over) (c : In-Some g) → GoesOn (old_of g c) c.in-Some.turn
goes g c =
    let goes = subst (λ (view : CoreView g.row.J.Denot). IfSome view.bursts.open (λ (turn : OpenTurn). GoesOn view turn)) (sym c.self.view_is) c.requires.goes in
    subst (λ (found : Option OpenTurn). IfSome found (λ (turn : OpenTurn). GoesOn (old_of g c) turn)) c.in-Some.is goes

-- what is known of its queue
known : (g : Over) (c : In-Some g) → KnowsHeld (old_of g c) c.self.inside.queues.slips c.self.inside.ready.keys c.in-Some.turn.queue
known g c = knows_turn g.J.Task.meaning (old_of g c) _ _ _ _ _ c.in-Some.turn c.self.invariant (goes g c).free c.in-Some.is

pub turn_front-step-requires-clause-ready : goal.turn_front-step-requires-clause-ready
turn_front-step-requires-clause-ready g c =
    let at = (goal.at.turn_front-step-requires-clause-ready g c).In-Some in
    let queue = c.in-Some.turn.queue in
    front_ready g.J.Task.meaning (waiting_of queue (queues_alone c.self.inside.queues)) (goes_on_has (old_of g at) c.in-Some.turn (goes g at)).1 (c.self.invariant.pollable.at queue)

pub invariant_of-self : goal.invariant_of-self
invariant_of-self g c =
    let at = (goal.at.invariant_of-self g c).In-Some in
    let inside = c.self.inside in
    let turn = c.in-Some.turn in
    let step = c.turn_front-step.result.0 in
    let queues = queues_alone c.turn_front-step.new.self in
    let was = (known g at).read c.place.result c.place.ensures c.index.result.now c.index.ensures in
    let poll : HasFollowed g.J.Task.meaning (old_of g at) inside.queues.slips inside.ready.keys inside.inside inside.room inside.tallies.cap turn c.turn_front-step.ensures.turns.0 step c.turn_front-step.result.1
    c.unwrap_or-time.result c.finishing-tally.result queues = record {
      core = c.self.invariant;
      goes = goes g at;
      turned = c.turn_front-step.ensures.turns.2;
      limits = c.turn_front-step.ensures.limits;
      counted = c.finishing-tally.ensures ∙ (λ i. record (was i) { finished = min ((was i).finished + c.ended-done.ensures i) (2 ^ 64 - 1) })
          ∙ counted_in_turn (polled_again turn) c.unwrap_or-time.result (shares_of turn.queue queues) (number_if (is_done_step step)) (tally_of turn.queue (old_of g at));
    } in
    let after = ap Some (c.longer-after.ensures ∙ ap (longer c.unwrap_or-time.result) c.polled_again-again.ensures) in
    IsCore-further_as g.J.Task.meaning (old_of g at) inside.queues.slips inside.ready.keys inside.inside inside.room inside.tallies.cap turn c.turn_front-step.ensures.turns.0 step c.turn_front-step.result.1
    c.unwrap_or-time.result c.finishing-tally.result queues poll _ _ _
    (λ i. core_view inside.core inside.cores queues (slice_set inside.tallies.items (c.place-2.ensures i) c.finishing-tally.result) inside.floor inside.turns (job_out inside.out) inside.senders inside.mode (record (inside.bursts) { «open» = after i }))
    c.turn_front-step.ensures.slips (ap (λ count. inside.inside - count) c.ended-done.ensures)

pub returns : goal.returns
returns g c =
    let at = (goal.at.returns g c).In-Some in
    let inside = c.self.inside in
    let turn = c.in-Some.turn in
    let step = c.turn_front-step.result.0 in
    let turns = c.turn_front-step.ensures.turns in
    let queues = queues_alone c.turn_front-step.new.self in
    let was = (known g at).read c.place.result c.place.ensures c.index.result.now c.index.ensures in
    let poll : HasFollowed g.J.Task.meaning (old_of g at) inside.queues.slips inside.ready.keys inside.inside inside.room inside.tallies.cap turn turns.0 step c.turn_front-step.result.1
    c.unwrap_or-time.result c.finishing-tally.result queues = record {
      core = c.self.invariant;
      goes = goes g at;
      turned = turns.2;
      limits = c.turn_front-step.ensures.limits;
      counted = c.finishing-tally.ensures ∙ (λ i. record (was i) { finished = min ((was i).finished + c.ended-done.ensures i) (2 ^ 64 - 1) })
          ∙ counted_in_turn (polled_again turn) c.unwrap_or-time.result (shares_of turn.queue queues) (number_if (is_done_step step)) (tally_of turn.queue (old_of g at));
    } in
    let polled = TurnsFurther-polled g.J.Task.meaning (old_of g at) inside.queues.slips inside.ready.keys inside.inside inside.room inside.tallies.cap turn turns.0 step c.turn_front-step.result.1
    c.unwrap_or-time.result c.finishing-tally.result queues poll c.turn_front-step.result.2 c.unwrap_or-time.ensures in
    let bounded = IsBounded-further g.J.Task.meaning (old_of g at) inside.queues.slips inside.ready.keys inside.inside inside.room inside.tallies.cap turn turns.0 step c.turn_front-step.result.1
    c.unwrap_or-time.result c.finishing-tally.result queues poll in
    rw (← c.self.view_is, c.place-2.ensures, c.longer-after.ensures, c.polled_again-again.ensures) (record {
      turns = (turns.0, turns.1, (c.turn_front-step.result.2, c.turn_front-step.ensures.tells, polled));
      bounded = bounded;
    })
