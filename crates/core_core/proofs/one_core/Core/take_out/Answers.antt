use Rattle.core_core.proofs.Names.{All, All-head, ap, arith, Bool, ChangesLine, core_view, CoreView, drop, false, is_any, IsCore, IsReady, job_out, KeepsSlips, length, List, max, None, queues_alone, refl, slice_index_or, slice_set, Some}
use Rattle.core_core.proofs.Names.{subst, sym, TakesOut, Tally, true, true≢false, waiting_of, ℕ, [], ◌+◌, ◌-◌, ◌<◌, ◌^◌, ◌∙◌, ◌≡◌}
use Rattle.core_core.proofs.Charging.{tally_read}
use Rattle.core_core.proofs.Fits.{IsBounded-from_turns}
use Rattle.core_core.proofs.Held.{held_none}
use Rattle.core_core.proofs.Picking.{first_waits, first_runtime, first_is_next, some_keys}
use Rattle.core_core.proofs.SlipsKept.{slip_out}
use Rattle.core_core.proofs.Whole.{IsCore-taken}
use Rattle.core_core.proofs.WholeTurn.{first_exists, first_fits}
use Rattle.core_core.proofs.one_core.Core.take_out.Given.{Over}
use Rattle.core_core.proofs.one_core.Core.take_out.Goals as goal
use Rattle.core_core.proofs.one_core.Core.take_out.Goals.{Joined-self}

pub pop_front-requires : goal.pop_front-requires
pop_front-requires g c =
    let inside = c.self.inside in
    let old = core_view inside.core inside.cores (queues_alone inside.queues) inside.tallies.items inside.floor inside.turns (job_out inside.out) inside.senders inside.mode inside.bursts in
    let free : job_out inside.out ≡ None = subst (λ (view : CoreView g.row.J.Denot). view.out ≡ None) (sym c.self.view_is) c.requires.free in
    let no_turn : inside.bursts.open ≡ None = subst (λ (view : CoreView g.row.J.Denot). view.bursts.open ≡ None) (sym c.self.view_is) c.requires.no_turn in
    let held = held_none old free no_turn in
    record { exists = first_exists old inside.ready.keys c.in-Some.key c.take_least.new.self.keys c.in-Some.ensures.least c.self.invariant.listed held }

pub put_slip-requires : goal.put_slip-requires
put_slip-requires g c =
    let inside = c.self.inside in
    let core = c.self.invariant in
    let key = c.in-Some.key in
    let old = core_view inside.core inside.cores (queues_alone inside.queues) inside.tallies.items inside.floor inside.turns (job_out inside.out) inside.senders inside.mode inside.bursts in
    let free : job_out inside.out ≡ None = subst (λ (view : CoreView g.row.J.Denot). view.out ≡ None) (sym c.self.view_is) c.requires.free in
    let no_turn : inside.bursts.open ≡ None = subst (λ (view : CoreView g.row.J.Denot). view.bursts.open ≡ None) (sym c.self.view_is) c.requires.no_turn in
    let held = held_none old free no_turn in
    let later = c.take_least.new.self.keys in
    let are = c.in-Some.ensures.least in
    let exists = first_exists old inside.ready.keys key later are core.listed held in
    let rest = c.in-Some-pop_front.ensures.rest in
    record {
      exists = omega (arith, exists, rest.queues.same_count, c.in-Some.ensures.slip);
      out = ap (λ queue. slice_index_or c.pop_front.new.self.slips queue false) c.in-Some.ensures.slip
          ∙ ap (λ (slips : List Bool). slice_index_or slips key.queue false) rest.slips ∙ slip_out _ _ key later exists (subst (KeepsSlips _ _) are core.slipped);
    }

-- the head of the first queue goes out
takes_of : (g : Over) (c : Joined-self g) → TakesOut
    (core_view c.self.inside.core c.self.inside.cores (queues_alone c.self.inside.queues) c.self.inside.tallies.items c.self.inside.floor c.self.inside.turns (job_out c.self.inside.out) c.self.inside.senders c.self.inside.mode c.self.inside.bursts)
    c.in-Some-pop_front.name c.in-Some.key.queue c.in-Some-pop_front.started c.in-Some-pop_front.job
    (core_view c.self.inside.core c.self.inside.cores (queues_alone c.pop_front.new.self)
    (slice_set c.self.inside.tallies.items c.place.result (record c.index_mut.result.now { selected = c.index_mut.result.now.selected + 1 })) c.max-self-inside.result (c.self.inside.turns + 1)
    (Some (record { name = c.in-Some-pop_front.name; queue = c.in-Some.key.queue; woken = c.in-Some-pop_front.woken; job = c.of-as_it_was.result.value })) c.self.inside.senders c.self.inside.mode c.begin.new.self)
takes_of g c =
    let inside = c.self.inside in
    let core = c.self.invariant in
    let key = c.in-Some.key in
    let later = c.take_least.new.self.keys in
    let are = c.in-Some.ensures.least in
    let old = core_view inside.core inside.cores (queues_alone inside.queues) inside.tallies.items inside.floor inside.turns (job_out inside.out) inside.senders inside.mode inside.bursts in
    let free : job_out inside.out ≡ None = subst (λ (view : CoreView g.row.J.Denot). view.out ≡ None) (sym c.self.view_is) c.requires.free in
    let no_turn : inside.bursts.open ≡ None = subst (λ (view : CoreView g.row.J.Denot). view.bursts.open ≡ None) (sym c.self.view_is) c.requires.no_turn in
    let held = held_none old free no_turn in
    let exists = first_exists old inside.ready.keys key later are core.listed held in
    let there : c.place.result < length inside.tallies.items = omega (arith, c.place.ensures, core.counted.tallies, exists) in
    let head = c.in-Some-pop_front.ensures.head in
    let was = c.index_mut.result.now in
    let read = tally_read inside.tallies.items c.place.result key.queue was c.place.ensures there c.index_mut.ensures.value in
    let tallies = ap (λ at. slice_set inside.tallies.items at (record was { selected = was.selected + 1 })) c.place.ensures
    ∙ ap (λ (tally : Tally). slice_set inside.tallies.items key.queue (record tally { selected = tally.selected + 1 })) read in
    let floor = c.max-self-inside.ensures ∙ ap (max inside.floor) (sym (first_runtime old inside.ready.keys key later are core.listed)) in
    record {
      next = first_is_next old inside.ready.keys key later are core.listed free no_turn c.take_least.ensures.rising;
      was_woken = c.in-Some-pop_front.woken;
      others = waiting_of key.queue (queues_alone c.pop_front.new.self);
      first = head;
      line = subst (λ line. ChangesLine (queues_alone inside.queues) (queues_alone c.pop_front.new.self) key.queue line) (ap (drop 1) head) c.in-Some-pop_front.ensures.rest.queues;
      rest = λ i. core_view inside.core inside.cores (queues_alone c.pop_front.new.self) (tallies i) (floor i) (inside.turns + 1)
          (Some (record { name = c.in-Some-pop_front.name; queue = key.queue; woken = c.in-Some-pop_front.woken; job = c.of-as_it_was.ensures i })) inside.senders inside.mode (c.begin.ensures i);
    }

-- what holds inside from then on
core_of : (g : Over) (c : Joined-self g) → IsCore g.J.Task.meaning
    (core_view c.self.inside.core c.self.inside.cores (queues_alone c.pop_front.new.self)
    (slice_set c.self.inside.tallies.items c.place.result (record c.index_mut.result.now { selected = c.index_mut.result.now.selected + 1 })) c.max-self-inside.result (c.self.inside.turns + 1)
    (Some (record { name = c.in-Some-pop_front.name; queue = c.in-Some.key.queue; woken = c.in-Some-pop_front.woken; job = c.of-as_it_was.result.value })) c.self.inside.senders c.self.inside.mode c.begin.new.self)
    (slice_set c.self.inside.queues.slips c.in-Some.key.queue true) c.take_least.new.self.keys c.self.inside.inside c.self.inside.room c.self.inside.tallies.cap
core_of g c =
    let inside = c.self.inside in
    let old = core_view inside.core inside.cores (queues_alone inside.queues) inside.tallies.items inside.floor inside.turns (job_out inside.out) inside.senders inside.mode inside.bursts in
    IsCore-taken g.J.Task.meaning old _ inside.queues.slips inside.ready.keys c.take_least.new.self.keys c.in-Some.key inside.inside inside.room inside.tallies.cap
    c.in-Some-pop_front.name c.in-Some-pop_front.started c.in-Some-pop_front.job c.self.invariant c.in-Some.ensures.least c.in-Some.ensures.absent (takes_of g c) c.pop_front.ensures.limits

pub invariant_of-self : goal.invariant_of-self
invariant_of-self g c = rw (c.put_slip.ensures, c.in-Some.ensures.slip, c.in-Some-pop_front.ensures.rest.slips) (core_of g c)

pub returns : goal.returns
returns g c =
    let inside = c.self.inside in
    let core = c.self.invariant in
    let key = c.in-Some.key in
    let later = c.take_least.new.self.keys in
    let are = c.in-Some.ensures.least in
    let old = core_view inside.core inside.cores (queues_alone inside.queues) inside.tallies.items inside.floor inside.turns (job_out inside.out) inside.senders inside.mode inside.bursts in
    let free : job_out inside.out ≡ None = subst (λ (view : CoreView g.row.J.Denot). view.out ≡ None) (sym c.self.view_is) c.requires.free in
    let no_turn : inside.bursts.open ≡ None = subst (λ (view : CoreView g.row.J.Denot). view.bursts.open ≡ None) (sym c.self.view_is) c.requires.no_turn in
    let held = held_none old free no_turn in
    let exists = first_exists old inside.ready.keys key later are core.listed held in
    let others = waiting_of key.queue (queues_alone c.pop_front.new.self) in
    let all = subst (λ waiting. All (λ one. IsReady g.J.Task.meaning one.2) waiting) c.in-Some-pop_front.ensures.head (core.pollable.at key.queue) in
    rw (← c.self.view_is, c.put_slip.ensures) (record {
      takes = takes_of g c;
      exists = omega (arith, exists, c.in-Some-pop_front.ensures.rest.queues.same_count);
      tallied = omega (arith, exists, core.counted.tallies);
      at = sym (first_runtime old inside.ready.keys key later are core.listed);
      ready = All-head (λ one. IsReady g.J.Task.meaning one.2) (c.in-Some-pop_front.name, record { started = c.in-Some-pop_front.started; woken = c.in-Some-pop_front.woken }, c.in-Some-pop_front.job) others all;
      bounded = IsBounded-from_turns _ (core_of g c).turns;
    })

pub unreachable-requires : goal.unreachable-requires
unreachable-requires g c =
    let inside = c.self.inside in
    let old = core_view inside.core inside.cores (queues_alone inside.queues) inside.tallies.items inside.floor inside.turns (job_out inside.out) inside.senders inside.mode inside.bursts in
    let free : job_out inside.out ≡ None = subst (λ (view : CoreView g.row.J.Denot). view.out ≡ None) (sym c.self.view_is) c.requires.free in
    let no_turn : inside.bursts.open ≡ None = subst (λ (view : CoreView g.row.J.Denot). view.bursts.open ≡ None) (sym c.self.view_is) c.requires.no_turn in
    let held = held_none old free no_turn in
    let work = subst (λ (view : CoreView g.row.J.Denot). (queue : ℕ) × (waiting_of queue view.queues ≡ [] → ⊥)) (sym c.self.view_is) c.requires.work in
    some_keys old inside.ready.keys held c.self.invariant.listed work (c.in_default.ensures.empty.0 refl)

pub unreachable-requires-in_default-pop_front : goal.unreachable-requires-in_default-pop_front
unreachable-requires-in_default-pop_front g c =
    let inside = c.self.inside in
    let old = core_view inside.core inside.cores (queues_alone inside.queues) inside.tallies.items inside.floor inside.turns (job_out inside.out) inside.senders inside.mode inside.bursts in
    let free : job_out inside.out ≡ None = subst (λ (view : CoreView g.row.J.Denot). view.out ≡ None) (sym c.self.view_is) c.requires.free in
    let no_turn : inside.bursts.open ≡ None = subst (λ (view : CoreView g.row.J.Denot). view.bursts.open ≡ None) (sym c.self.view_is) c.requires.no_turn in
    let held = held_none old free no_turn in
    let waits = first_waits old inside.ready.keys c.in-Some.key c.take_least.new.self.keys c.in-Some.ensures.least c.self.invariant.listed held in
    true≢false (sym waits ∙ ap is_any c.in_default-pop_front.ensures.empty)

pub index_mut-requires : goal.index_mut-requires
index_mut-requires g c =
    let inside = c.self.inside in
    let core = c.self.invariant in
    let old = core_view inside.core inside.cores (queues_alone inside.queues) inside.tallies.items inside.floor inside.turns (job_out inside.out) inside.senders inside.mode inside.bursts in
    let free : job_out inside.out ≡ None = subst (λ (view : CoreView g.row.J.Denot). view.out ≡ None) (sym c.self.view_is) c.requires.free in
    let no_turn : inside.bursts.open ≡ None = subst (λ (view : CoreView g.row.J.Denot). view.bursts.open ≡ None) (sym c.self.view_is) c.requires.no_turn in
    let held = held_none old free no_turn in
    let exists = first_exists old inside.ready.keys c.in-Some.key c.take_least.new.self.keys c.in-Some.ensures.least core.listed held in
    omega (arith, c.place.ensures, core.counted.tallies, exists)

pub overflow_add-index_mut : goal.overflow_add-index_mut
overflow_add-index_mut g c =
    let inside = c.self.inside in
    let core = c.self.invariant in
    let old = core_view inside.core inside.cores (queues_alone inside.queues) inside.tallies.items inside.floor inside.turns (job_out inside.out) inside.senders inside.mode inside.bursts in
    let key = c.in-Some.key in
    let free : job_out inside.out ≡ None = subst (λ (view : CoreView g.row.J.Denot). view.out ≡ None) (sym c.self.view_is) c.requires.free in
    let no_turn : inside.bursts.open ≡ None = subst (λ (view : CoreView g.row.J.Denot). view.bursts.open ≡ None) (sym c.self.view_is) c.requires.no_turn in
    let held = held_none old free no_turn in
    let exists = first_exists old inside.ready.keys key c.take_least.new.self.keys c.in-Some.ensures.least core.listed held in
    let there : c.place.result < length inside.tallies.items = omega (arith, c.place.ensures, core.counted.tallies, exists) in
    let read = tally_read inside.tallies.items c.place.result key.queue c.index_mut.result.now c.place.ensures there c.index_mut.ensures.value in
    let left : inside.turns < 2 ^ 64 - 1 = subst (λ (view : CoreView g.row.J.Denot). view.turns < 2 ^ 64 - 1) (sym c.self.view_is) c.requires.turns in
    let before = first_fits g.J.Task.meaning old inside.queues.slips inside.ready.keys inside.inside inside.room inside.tallies.cap key.queue core held in
    omega (arith, left, ap (λ (tally : Tally). tally.selected) read, before.selected)

pub overflow_add-self : goal.overflow_add-self
overflow_add-self g c =
    let left : c.self.inside.turns < 2 ^ 64 - 1 = subst (λ (view : CoreView g.row.J.Denot). view.turns < 2 ^ 64 - 1) (sym c.self.view_is) c.requires.turns in
    omega (arith, left)
