use Rattle.core_core.proofs.Names.{All-set, ap, arith, core_view, CoreView, false, FitsTurns, inside_count, is_number, is_working, job_out, JobId, length, length-set, mode_of, None, queue_count, queue_open, queues_alone, refl}
use Rattle.core_core.proofs.Names.{slice_index_or, slice_set, subst, sym, Tally, unsettled_count, ℕ, ◌<◌, ◌∙◌, ◌≡◌, ◌≤◌}
use Rattle.std.specs.Prelude.{Bool, List}
use Rattle.core_core.proofs.Listed.{LacksQueue-from_none}
use Rattle.core_core.proofs.Fits.{placed_fits, IsBounded-from_turns}
use Rattle.core_core.proofs.Entered.{is_placed, IsCore-entered}
use Rattle.core_core.proofs.Parts.{idle_entry}
use Rattle.core_core.proofs.SlipsKept.{slip_there}
use Rattle.core_core.proofs.one_core.Core.activate.Goals as goal

pub enter_placed-requires : goal.enter_placed-requires
enter_placed-requires g c =
    let inside = c.self.inside in
    let old = core_view inside.core inside.cores (queues_alone inside.queues) inside.tallies.items inside.floor inside.turns (job_out inside.out) inside.senders inside.mode inside.bursts in
    let idle = subst (λ (view : CoreView g.row.J.Denot). is_working c.args.queue view ≡ false) (sym c.self.view_is) c.requires.idle in
    let exists = subst (λ (view : CoreView g.row.J.Denot). c.args.queue < queue_count view.queues) (sym c.self.view_is) c.requires.exists in
    let none = c.self.invariant.listed.at c.args.queue ∙ idle_entry old c.args.queue idle in
    let joins = c.admit.ensures.joins in
    record {
      exists = omega (arith, exists, joins.queues.same_count);
      slip = ap (λ (slips : List Bool). slice_index_or slips c.args.queue false) joins.slips ∙ slip_there _ _ inside.ready.keys c.args.queue exists none c.self.invariant.slipped;
      absent = LacksQueue-from_none c.args.queue inside.ready.keys none;
    }

pub invariant_of-self : goal.invariant_of-self
invariant_of-self g c =
    let inside = c.self.inside in
    let core = c.self.invariant in
    let back = sym c.self.view_is in
    let old = core_view inside.core inside.cores (queues_alone inside.queues) inside.tallies.items inside.floor inside.turns (job_out inside.out) inside.senders inside.mode inside.bursts in
    let polls = unsettled_count old in
    let idle = subst (λ (view : CoreView g.row.J.Denot). is_working c.args.queue view ≡ false) back c.requires.idle in
    let room = subst (λ (view : CoreView g.row.J.Denot). inside_count view < view.queues.room) back c.requires.room in
    let exists = subst (λ (view : CoreView g.row.J.Denot). c.args.queue < queue_count view.queues) back c.requires.exists in
    let space : inside.inside < inside.room = omega (arith, core.counted.all_inside, core.counted.same_room, room) in
    let there : c.place.result < length inside.tallies.items = omega (arith, c.place.ensures, core.counted.tallies, exists) in
    let was = c.index_mut-tally.result.now in
    let tally : Tally = record { runtime = c.placed-vr.result; selected = was.selected; time = was.time; finished = was.finished; returned = was.returned } in
    let before : FitsTurns inside.turns polls was =
    subst (FitsTurns inside.turns polls) (sym c.index_mut-tally.ensures.value) (core.turns.tallies c.place.result was there) in
    let fits : FitsTurns inside.turns polls tally =
    subst (λ runtime. FitsTurns inside.turns polls (record was { runtime = runtime })) (sym c.placed-vr.ensures) (placed_fits inside.turns polls inside.floor was false before core.turns.floor) in
    let joins = c.admit.ensures.joins in
    rw (c.count.ensures, c.enter_placed.ensures.keys, c.enter_placed.ensures.given, joins.slips, c.place.ensures)
    (IsCore-entered g.J.Task.meaning old (queues_alone c.admit.new.self) _ inside.queues.slips inside.ready.keys inside.inside inside.room inside.tallies.cap core (record { vr = c.placed-vr.result; queue = c.args.queue }) tally
    c.args.name (record { started = false; woken = false }) c.args.job joins.queues c.admit.ensures.limits c.requires.ready space (length-set _ _ _) idle exists refl fits (is_number c.args.queue (queue_open inside.bursts.open)) refl)

pub count-requires : goal.count-requires
count-requires g c =
    let known : c.args.name.from ≤ c.self.inside.cores = subst (λ (view : CoreView g.row.J.Denot). c.args.name.from ≤ view.cores) (sym c.self.view_is) c.requires.sender in
    omega (arith, known, c.self.invariant.counted.senders, c.from.ensures ∙ ap (λ (name : JobId). name.from) c.name.view_is)

pub admit-requires : goal.admit-requires
admit-requires g c =
    let back = sym c.self.view_is in
    let room = subst (λ (view : CoreView g.row.J.Denot). inside_count view < view.queues.room) back c.requires.room in
    record {
      exists = subst (λ (view : CoreView g.row.J.Denot). c.args.queue < queue_count view.queues) back c.requires.exists;
      is_open = subst (λ (view : CoreView g.row.J.Denot). mode_of c.args.queue view.queues ≡ None) back c.requires.is_open;
      room = omega (arith, room);
    }

pub overflow_add-self : goal.overflow_add-self
overflow_add-self g c =
    let core = c.self.invariant in
    let room = subst (λ (view : CoreView g.row.J.Denot). inside_count view < view.queues.room) (sym c.self.view_is) c.requires.room in
    omega (arith, core.counted.all_inside, core.counted.same_room, room, c.self.ranges)

pub index_mut-tally-requires : goal.index_mut-tally-requires
index_mut-tally-requires g c =
    let exists = subst (λ (view : CoreView g.row.J.Denot). c.args.queue < queue_count view.queues) (sym c.self.view_is) c.requires.exists in
    omega (arith, c.self.invariant.counted.tallies, exists, c.place.ensures)

pub returns-clause-enters : goal.returns-clause-enters
returns-clause-enters g c =
    let inside = c.self.inside in
    let back = sym c.self.view_is in
    let old = core_view inside.core inside.cores (queues_alone inside.queues) inside.tallies.items inside.floor inside.turns (job_out inside.out) inside.senders inside.mode inside.bursts in
    let idle = subst (λ (view : CoreView g.row.J.Denot). is_working c.args.queue view ≡ false) back c.requires.idle in
    let exists = subst (λ (view : CoreView g.row.J.Denot). c.args.queue < queue_count view.queues) back c.requires.exists in
    let there : c.place.result < length inside.tallies.items = omega (arith, c.place.ensures, c.self.invariant.counted.tallies, exists) in
    let was = c.index_mut-tally.result.now in
    let tally : Tally = record was { runtime = c.placed-vr.result } in
    let placed = is_placed old c.args.queue c.place.result was tally idle c.place.ensures there c.index_mut-tally.ensures.value (ap (λ (runtime : ℕ). record was { runtime = runtime }) c.placed-vr.ensures) in
    let from = c.from.ensures ∙ ap (λ (name : JobId). name.from) c.name.view_is in
    let number = ap (λ (name : JobId). name.number) c.name.view_is in
    let senders : c.count.new.self ≡ record (inside.senders) { delivered = slice_set inside.senders.delivered c.args.name.from c.args.name.number } =
    c.count.ensures ∙ (λ i. record (inside.senders) { delivered = slice_set inside.senders.delivered (from i) (number i) }) in
    rw (← c.self.view_is, c.enter_placed.ensures.given) (record {
      exists = exists;
      line = c.admit.ensures.joins.queues;
      rest = λ i. core_view inside.core inside.cores (queues_alone c.admit.new.self) (placed i) inside.floor inside.turns (job_out inside.out) (senders i) inside.mode inside.bursts;
    })

pub returns-clause-bounded : goal.returns-clause-bounded
returns-clause-bounded g c =
    let inside = c.self.inside in
    let core = c.self.invariant in
    let old = core_view inside.core inside.cores (queues_alone inside.queues) inside.tallies.items inside.floor inside.turns (job_out inside.out) inside.senders inside.mode inside.bursts in
    let polls = unsettled_count old in
    let exists = subst (λ (view : CoreView g.row.J.Denot). c.args.queue < queue_count view.queues) (sym c.self.view_is) c.requires.exists in
    let there : c.place.result < length inside.tallies.items = omega (arith, c.place.ensures, core.counted.tallies, exists) in
    let was = c.index_mut-tally.result.now in
    let tally : Tally = record was { runtime = c.placed-vr.result } in
    let before : FitsTurns inside.turns polls was =
    subst (FitsTurns inside.turns polls) (sym c.index_mut-tally.ensures.value) (core.turns.tallies c.place.result was there) in
    let fits : FitsTurns inside.turns polls tally =
    subst (λ runtime. FitsTurns inside.turns polls (record was { runtime = runtime })) (sym c.placed-vr.ensures) (placed_fits inside.turns polls inside.floor was false before core.turns.floor) in
    IsBounded-from_turns (core_view inside.core inside.cores (queues_alone c.admit.new.self) (slice_set inside.tallies.items c.place.result tally) inside.floor inside.turns (job_out inside.out) inside.senders inside.mode inside.bursts) (record {
      tallies = All-set (FitsTurns inside.turns polls) inside.tallies.items c.place.result tally fits core.turns.tallies;
      floor = core.turns.floor;
    })
