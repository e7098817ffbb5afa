use Rattle.core_core.proofs.Names.{ap, arith, begun, Bool, core_view, CoreView, false, first_key, FitsTurns, has_bursts, IfSome, is_any, is_done_step, IsAhead, IsBounded, job_out, KeepsSlips, Key, length, List, None, number_if}
use Rattle.core_core.proofs.Names.{queue_count, queue_held, queues_alone, refl, shares_of, slice_index_or, slice_set, slips_after, subst, sym, Tally, tally_of, true, waiting_of, ◌+◌, ◌-◌, ◌<◌, ◌∙◌, ◌≡◌}
use Rattle.core_core.proofs.Charging.{after_poll, tally_read, charged_single}
use Rattle.core_core.proofs.Held.{held_none}
use Rattle.core_core.proofs.Turning.{begun_single}
use Rattle.core_core.proofs.Picking.{first_waits}
use Rattle.core_core.proofs.SlipsKept.{slip_out}
use Rattle.core_core.proofs.Whole.{front_ready}
use Rattle.core_core.proofs.WholeTurn.{picked_tally, after_turn, bursts_after, same_bursts, first_exists, first_fits, HasFirst, HasFirst-ahead, HasTurned, IsCore-turned_as, IsBounded-turned, TurnsFirst-turned}
use Rattle.core_core.proofs.one_core.Core.turn_first.Given.{Over}
use Rattle.core_core.proofs.one_core.Core.turn_first.Goals as goal
use Rattle.core_core.proofs.one_core.Core.turn_first.Goals.{After-len-count, After-relist_least}

-- the core before, and the key of the queue that has its turn
abbrev old_of : (g : Over) (c : After-len-count g) → CoreView g.row.J.Denot
old_of g c =
    let inside = c.self.inside in
    core_view inside.core inside.cores (queues_alone inside.queues) inside.tallies.items inside.floor inside.turns (job_out inside.out) inside.senders inside.mode inside.bursts

abbrev key_of : (g : Over) (c : After-len-count g) → Key
key_of g c = record { vr = c.args.next.now.vr; queue = c.args.next.now.queue }

-- it is the first, none is out, no turn is open, and each poll ends its turn
ahead_of : (g : Over) (c : After-len-count g) → IsAhead (old_of g c) c.args.next.now.queue c.args.next.now.vr c.args.next.now.name c.args.next.now.started c.args.next.now.woken
ahead_of g c =
    let next = c.args.next.now in
    subst (λ (view : CoreView g.row.J.Denot). IsAhead view next.queue next.vr next.name next.started next.woken) (sym c.self.view_is) c.requires.ahead

first_of : (g : Over) (c : After-len-count g) → HasFirst c.self.inside.ready.keys (key_of g c)
first_of g c =
    let next = c.args.next.now in
    HasFirst-ahead (old_of g c) c.self.inside.ready.keys next.queue next.vr next.name next.started next.woken c.self.invariant.listed c.len-count.ensures.rising c.len-count.ensures.distinct (ahead_of g c)

none_held : (g : Over) (c : After-len-count g) → queue_held (old_of g c) ≡ None
none_held g c = held_none (old_of g c) (ahead_of g c).next.free (ahead_of g c).next.no_turn

single : (g : Over) (c : After-len-count g) → has_bursts c.self.inside.bursts.burst ≡ false
single g c = subst (λ (view : CoreView g.row.J.Denot). has_bursts view.bursts.burst ≡ false) (sym c.self.view_is) c.requires.single

-- its queue exists
exists : (g : Over) (c : After-len-count g) → c.args.next.now.queue < queue_count (queues_alone c.self.inside.queues)
exists g c = first_exists (old_of g c) c.self.inside.ready.keys (key_of g c) (first_of g c).later (first_of g c).are c.self.invariant.listed (none_held g c)

pub turn_front-step-requires-clause-ready : goal.turn_front-step-requires-clause-ready
turn_front-step-requires-clause-ready g c =
    let at = (goal.at.turn_front-step-requires-clause-ready g c).After-len-count in
    let queue = c.args.next.now.queue in
    front_ready g.J.Task.meaning (waiting_of queue (queues_alone c.self.inside.queues))
    (first_waits (old_of g at) c.self.inside.ready.keys (key_of g at) (first_of g at).later (first_of g at).are c.self.invariant.listed (none_held g at)) (c.self.invariant.pollable.at queue)

pub relist_least-requires-clause-out : goal.relist_least-requires-clause-out
relist_least-requires-clause-out g c =
    let at = (goal.at.relist_least-requires-clause-out g c).After-len-count in
    let first = first_of g at in
    ap (λ (slips : List Bool). slice_index_or slips c.args.next.now.queue false) c.turn_front-step.ensures.slips
    ∙ slip_out _ _ (key_of g at) first.later (exists g at) (subst (KeepsSlips _ _) first.are c.self.invariant.slipped)

pub relist_least-requires-clause-least : goal.relist_least-requires-clause-least
relist_least-requires-clause-least g c =
    let first = first_of g (goal.at.relist_least-requires-clause-least g c).After-len-count in
    subst (λ (keys : List Key). IfSome (first_key keys) (λ one. one.queue ≡ c.args.next.now.queue)) (sym first.are) refl

-- behind it: what was known before, and what is read of its tally
abbrev start : (g : Over) (c : After-relist_least g) → After-len-count g
start g c = (goal.at.After-relist_least g c).After-len-count

known : (g : Over) (c : After-relist_least g) → c.index.result.now ≡ tally_of c.args.next.now.queue (old_of g (start g c))
known g c =
    let there : c.place.result < length c.self.inside.tallies.items = omega (arith, c.place.ensures, c.self.invariant.counted.tallies, exists g (start g c)) in
    tally_read c.self.inside.tallies.items c.place.result c.args.next.now.queue c.index.result.now c.place.ensures there c.index.ensures

-- its tally fits the turns then
fits : (g : Over) (c : After-relist_least g) → FitsTurns (c.self.inside.turns + 1) 0 c.turned-tally.result
fits g c =
    let inside = c.self.inside in
    let before = first_fits g.J.Task.meaning (old_of g (start g c)) inside.queues.slips inside.ready.keys inside.inside inside.room inside.tallies.cap c.args.next.now.queue c.self.invariant (none_held g (start g c)) in
    c.turned-tally.ensures.fits inside.turns (subst (FitsTurns inside.turns 0) (sym (known g c)) before)

-- the turn that it had
turn_of : (g : Over) (c : After-relist_least g) → HasTurned g.J.Task.meaning (old_of g (start g c)) c.self.inside.queues.slips c.self.inside.ready.keys c.self.inside.inside c.self.inside.room c.self.inside.tallies.cap
    (key_of g (start g c)) c.turn_front-step.ensures.turns.0 c.turn_front-step.result.0 c.turn_front-step.result.1 c.unwrap_or-time.result c.turned-tally.result (queues_alone c.turn_front-step.new.self)
turn_of g c =
    let first = first_of g (start g c) in
    let next = (ahead_of g (start g c)).next in
    let queue = c.args.next.now.queue in
    let bursts = c.self.inside.bursts in
    let weight = shares_of queue (queues_alone c.turn_front-step.new.self) in
    let ended = number_if (is_done_step c.turn_front-step.result.0) in
    let picked : Tally = picked_tally (old_of g (start g c)) queue in
    let value : c.turned-tally.result ≡ after_poll picked c.unwrap_or-time.result weight ended =
    c.turned-tally.ensures.value ∙ (λ i. after_poll (record (known g c i) { selected = (known g c i).selected + 1 }) c.unwrap_or-time.result (c.shares-shares.ensures i) (c.ended-done.ensures i)) in
    record {
      core = c.self.invariant;
      later = first.later;
      are = first.are;
      absent = first.absent;
      rising = c.len-count.ensures.rising;
      free = next.free;
      no_turn = next.no_turn;
      turned = c.turn_front-step.ensures.turns.2;
      limits = c.turn_front-step.ensures.limits;
      charged = value ∙ charged_single (begun queue bursts).open c.unwrap_or-time.result weight ended picked (begun_single queue bursts (single g (start g c)) ∙ next.no_turn);
    }

-- the core from then on
behind : (g : Over) (c : After-relist_least g) →
    core_view c.self.inside.core c.self.inside.cores (queues_alone c.relist_least.new.queues) (slice_set c.self.inside.tallies.items c.place-2.result c.turned-tally.result) c.max-self-inside.result
    (c.self.inside.turns + 1) (job_out c.self.inside.out) c.self.inside.senders c.self.inside.mode c.self.inside.bursts
    ≡ after_turn (old_of g (start g c)) (key_of g (start g c)) c.turned-tally.result (queues_alone c.turn_front-step.new.self) (bursts_after (old_of g (start g c)) c.args.next.now.queue c.unwrap_or-time.result)
behind g c =
    let inside = c.self.inside in
    λ i. core_view inside.core inside.cores (queues_alone (c.relist_least.ensures.slips i)) (slice_set inside.tallies.items (c.place-2.ensures i) c.turned-tally.result) (c.max-self-inside.ensures i) (inside.turns + 1) (job_out inside.out) inside.senders inside.mode
    (same_bursts (old_of g (start g c)) c.args.next.now.queue c.unwrap_or-time.result (single g (start g c)) (ahead_of g (start g c)).next.no_turn i)

pub invariant_of-self : goal.invariant_of-self
unfolding turn_of
invariant_of-self g c =
    let then = (goal.at.invariant_of-self g c).After-relist_least in
    let first = first_of g (start g then) in
    let key = key_of g (start g then) in
    let is_left = is_any (waiting_of key.queue (queues_alone c.turn_front-step.new.self)) in
    IsCore-turned_as _ _ _ _ _ _ _ _ _ _ _ _ _ _ (turn_of g then) (single g (start g then)) (fits g then) _ _ _ _ (behind g then)
    (ap (λ lines. lines.slips) c.relist_least.ensures.slips ∙ (λ i. slips_after is_left key.queue (slice_set (c.turn_front-step.ensures.slips i) key.queue true)))
    (c.relist_least.ensures.keys key first.later first.are) (ap (λ count. c.self.inside.inside - count) c.ended-done.ensures)

pub returns-clause-turns : goal.returns-clause-turns
returns-clause-turns g c =
    let then = (goal.at.returns-clause-turns g c).After-relist_least in
    let turns = c.turn_front-step.ensures.turns in
    let whole = TurnsFirst-turned _ _ _ _ _ _ _ _ _ _ _ _ _ _ (turn_of g then) c.turn_front-step.result.2 c.unwrap_or-time.ensures in
    rw (← c.self.view_is, behind g then) (turns.0, turns.1, (c.turn_front-step.result.2, c.turn_front-step.ensures.tells, whole))

pub returns-clause-bounded : goal.returns-clause-bounded
returns-clause-bounded g c =
    let then = (goal.at.returns-clause-bounded g c).After-relist_least in
    subst (λ (view : CoreView g.row.J.Denot). IsBounded view) (sym (behind g then)) (IsBounded-turned _ _ _ _ _ _ _ _ _ _ _ _ _ _ (turn_of g then) (single g (start g then)) (fits g then))
