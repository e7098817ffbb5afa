use Rattle.core_core.proofs.Names.{ap, arith, Bool, Bursts, core_view, CoreView, false, FitsTurns, has_bursts, is_done_step, job_out, KeepsSlips, lasted, length, List, min, None, number_if, OpenTurn, queue_count, queue_held, queues_alone}
use Rattle.core_core.proofs.Names.{refl, settled_tally, shares_of, slice_index_or, slice_set, subst, sym, Tally, tally_of, true, waiting_of, ℕ, ◌+◌, ◌-◌, ◌<◌, ◌^◌, ◌∙◌, ◌≡◌}
use Rattle.core_core.proofs.Charging.{tally_read}
use Rattle.core_core.proofs.Held.{held_none}
use Rattle.core_core.proofs.InTurn.{counted_in_turn}
use Rattle.core_core.proofs.Picking.{first_waits}
use Rattle.core_core.proofs.SlipsKept.{slip_out}
use Rattle.core_core.proofs.Turning.{begun_open}
use Rattle.core_core.proofs.Whole.{front_ready, turned_count}
use Rattle.core_core.proofs.WholeTurn.{picked_tally, bursts_after, first_exists, first_fits, HasTurned, IsCore-opened_as, IsBounded-opened, TurnsFirst-turned}
use Rattle.core_core.proofs.one_core.Core.turn_opening.Given.{Over}
use Rattle.core_core.proofs.one_core.Core.turn_opening.Goals as goal
use Rattle.core_core.proofs.one_core.Core.turn_opening.Goals.{In-Some}

-- the core before
abbrev old_of : (g : Over) (c : In-Some g) → CoreView g.row.J.Denot
old_of g c =
    let inside = c.self.inside in
    core_view inside.core inside.cores (queues_alone inside.queues) inside.tallies.items inside.floor inside.turns (job_out inside.out) inside.senders inside.mode inside.bursts

-- none is out, no turn is open, a turn is left, and a note of its own ends it
free : (g : Over) (c : In-Some g) → job_out c.self.inside.out ≡ None
free g c = subst (λ (view : CoreView g.row.J.Denot). view.out ≡ None) (sym c.self.view_is) c.requires.free

no_turn : (g : Over) (c : In-Some g) → c.self.inside.bursts.open ≡ None
no_turn g c = subst (λ (view : CoreView g.row.J.Denot). view.bursts.open ≡ None) (sym c.self.view_is) c.requires.no_turn

has : (g : Over) (c : In-Some g) → has_bursts c.self.inside.bursts.burst ≡ true
has g c = subst (λ (view : CoreView g.row.J.Denot). has_bursts view.bursts.burst ≡ true) (sym c.self.view_is) c.requires.bursts

none_held : (g : Over) (c : In-Some g) → queue_held (old_of g c) ≡ None
none_held g c = held_none (old_of g c) (free g c) (no_turn g c)

left : (g : Over) (c : In-Some g) → c.self.inside.turns < 2 ^ 64 - 1
left g c = subst (λ (view : CoreView g.row.J.Denot). view.turns < 2 ^ 64 - 1) (sym c.self.view_is) c.requires.turns

-- the queue of the first key exists
exists : (g : Over) (c : In-Some g) → c.in-Some.key.queue < queue_count (queues_alone c.self.inside.queues)
exists g c = first_exists (old_of g c) c.self.inside.ready.keys c.in-Some.key c.take_least.new.self.keys c.in-Some.ensures.least c.self.invariant.listed (none_held g c)

-- what is read at its place
read : (g : Over) (c : In-Some g) (place : ℕ) → place ≡ c.in-Some.key.queue → (was : Tally) → was ≡ slice_index_or c.self.inside.tallies.items place was → was ≡ tally_of c.in-Some.key.queue (old_of g c)
read g c place at was found =
    let there : place < length c.self.inside.tallies.items = omega (arith, at, c.self.invariant.counted.tallies, exists g c) in
    tally_read c.self.inside.tallies.items place c.in-Some.key.queue was at there found

-- its tally fits the turns
fits : (g : Over) (c : In-Some g) → FitsTurns c.self.inside.turns 0 (tally_of c.in-Some.key.queue (old_of g c))
fits g c =
    let inside = c.self.inside in
    first_fits g.J.Task.meaning (old_of g c) inside.queues.slips inside.ready.keys inside.inside inside.room inside.tallies.cap c.in-Some.key.queue c.self.invariant (none_held g c)

pub turn_front-step-requires : goal.turn_front-step-requires
turn_front-step-requires g c =
    let at = (goal.at.turn_front-step-requires g c).In-Some in
    let core = c.self.invariant in
    let queue = c.in-Some.key.queue in
    record {
      exists = exists g at;
      ready = front_ready g.J.Task.meaning (waiting_of queue (queues_alone c.self.inside.queues))
          (first_waits (old_of g at) c.self.inside.ready.keys c.in-Some.key c.take_least.new.self.keys c.in-Some.ensures.least core.listed (none_held g at)) (core.pollable.at queue);
    }

pub put_slip-requires : goal.put_slip-requires
put_slip-requires g c =
    let at = (goal.at.put_slip-requires g c).In-Some in
    let key = c.in-Some.key in
    let later = c.take_least.new.self.keys in
    let turned = c.turn_front-step.ensures.turns.2 in
    let count = turned_count c.turn_front-step.result.0 turned.between (queues_alone c.turn_front-step.new.self) key.queue turned.name turned.marks turned.job turned.joins in
    record {
      exists = omega (arith, exists g at, count, turned.leaves.same_count, c.in-Some.ensures.slip);
      out = ap (λ queue. slice_index_or c.turn_front-step.new.self.slips queue false) c.in-Some.ensures.slip
          ∙ ap (λ (slips : List Bool). slice_index_or slips key.queue false) c.turn_front-step.ensures.slips ∙ slip_out _ _ key later (exists g at) (subst (KeepsSlips _ _) c.in-Some.ensures.least c.self.invariant.slipped);
    }

pub picked-tally-requires : goal.picked-tally-requires
picked-tally-requires g c =
    let at = (goal.at.picked-tally-requires g c).In-Some in
    let known = read g at c.place.result c.place.ensures c.index.result.now c.index.ensures in
    omega (arith, left g at, (fits g at).selected, ap (λ (one : Tally). one.selected) known)

pub invariant_of-self : goal.invariant_of-self
invariant_of-self g c =
    let at = (goal.at.invariant_of-self g c).In-Some in
    let inside = c.self.inside in
    let key = c.in-Some.key in
    let step = c.turn_front-step.result.0 in
    let time = c.unwrap_or-time.result in
    let tally = c.picked-tally.result in
    let ended = number_if (is_done_step step) in
    let queues = queues_alone c.turn_front-step.new.self in
    let known = read g at c.place.result c.place.ensures c.index.result.now c.index.ensures in
    let was : OpenTurn = record { queue = key.queue; polls = 1; time = 0 } in
    let turn : HasTurned g.J.Task.meaning (old_of g at) inside.queues.slips inside.ready.keys inside.inside inside.room inside.tallies.cap key c.turn_front-step.ensures.turns.0 step c.turn_front-step.result.1 time tally queues = record {
      core = c.self.invariant;
      later = c.take_least.new.self.keys;
      are = c.in-Some.ensures.least;
      absent = c.in-Some.ensures.absent;
      rising = c.take_least.ensures.rising;
      free = free g at;
      no_turn = no_turn g at;
      turned = c.turn_front-step.ensures.turns.2;
      limits = c.turn_front-step.ensures.limits;
      charged = c.picked-tally.ensures ∙ (λ i. record (known i) { selected = (known i).selected + 1; finished = min ((known i).finished + c.ended-done.ensures i) (2 ^ 64 - 1) })
          ∙ counted_in_turn was time (shares_of key.queue queues) ended (picked_tally (old_of g at) key.queue)
          ∙ ap (λ found. settled_tally found time (shares_of key.queue queues) ended (picked_tally (old_of g at) key.queue)) (sym (begun_open key.queue inside.bursts (has g at)));
    } in
    let slip = c.in-Some.ensures.slip in
    let bursts : c.lasted-bursts.result ≡ bursts_after (old_of g at) key.queue time = c.lasted-bursts.ensures ∙ ap (λ (one : Bursts). record one { «open» = lasted time one.open }) c.begin.ensures in
    IsCore-opened_as g.J.Task.meaning (old_of g at) inside.queues.slips inside.ready.keys inside.inside inside.room inside.tallies.cap key c.turn_front-step.ensures.turns.0 step c.turn_front-step.result.1 time tally queues turn (has g at) _ _ _ _
    (λ i. core_view inside.core inside.cores (queues_alone (c.put_slip.ensures i)) (slice_set inside.tallies.items (c.place-2.ensures i) tally) (c.max-self-inside.ensures i) (inside.turns + 1) (job_out inside.out) inside.senders inside.mode (bursts i))
    (ap (λ lines. lines.slips) c.put_slip.ensures ∙ (λ i. slice_set (c.turn_front-step.ensures.slips i) (slip i) true)) refl (ap (λ count. inside.inside - count) c.ended-done.ensures)

pub returns : goal.returns
returns g c =
    let at = (goal.at.returns g c).In-Some in
    let inside = c.self.inside in
    let key = c.in-Some.key in
    let step = c.turn_front-step.result.0 in
    let time = c.unwrap_or-time.result in
    let tally = c.picked-tally.result in
    let turns = c.turn_front-step.ensures.turns in
    let ended = number_if (is_done_step step) in
    let queues = queues_alone c.turn_front-step.new.self in
    let known = read g at c.place.result c.place.ensures c.index.result.now c.index.ensures in
    let was : OpenTurn = record { queue = key.queue; polls = 1; time = 0 } in
    let turn : HasTurned g.J.Task.meaning (old_of g at) inside.queues.slips inside.ready.keys inside.inside inside.room inside.tallies.cap key turns.0 step c.turn_front-step.result.1 time tally queues = record {
      core = c.self.invariant;
      later = c.take_least.new.self.keys;
      are = c.in-Some.ensures.least;
      absent = c.in-Some.ensures.absent;
      rising = c.take_least.ensures.rising;
      free = free g at;
      no_turn = no_turn g at;
      turned = turns.2;
      limits = c.turn_front-step.ensures.limits;
      charged = c.picked-tally.ensures ∙ (λ i. record (known i) { selected = (known i).selected + 1; finished = min ((known i).finished + c.ended-done.ensures i) (2 ^ 64 - 1) })
          ∙ counted_in_turn was time (shares_of key.queue queues) ended (picked_tally (old_of g at) key.queue)
          ∙ ap (λ found. settled_tally found time (shares_of key.queue queues) ended (picked_tally (old_of g at) key.queue)) (sym (begun_open key.queue inside.bursts (has g at)));
    } in
    let bounded = IsBounded-opened g.J.Task.meaning (old_of g at) inside.queues.slips inside.ready.keys inside.inside inside.room inside.tallies.cap key turns.0 step c.turn_front-step.result.1 time tally queues turn (has g at) in
    let first = TurnsFirst-turned g.J.Task.meaning (old_of g at) inside.queues.slips inside.ready.keys inside.inside inside.room inside.tallies.cap key turns.0 step c.turn_front-step.result.1 time tally queues turn
    c.turn_front-step.result.2 c.unwrap_or-time.ensures in
    rw (← c.self.view_is, c.put_slip.ensures, c.place-2.ensures, c.max-self-inside.ensures, c.lasted-bursts.ensures, c.begin.ensures) (record {
      turns = (turns.0, turns.1, (c.turn_front-step.result.2, c.turn_front-step.ensures.tells, first));
      bounded = bounded;
    })
