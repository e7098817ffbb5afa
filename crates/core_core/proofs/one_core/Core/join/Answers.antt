use Rattle.core_core.proofs.Names.{ap, arith, core_view, CoreView, false, inside_count, is_any, is_working, job_out, JobId, length-set, mode_of, None, queue_count, queues_alone, refl, slice_set, subst, sym, true, ◌<◌, ◌∙◌, ◌≡◌, ◌≤◌}
use Rattle.core_core.proofs.Entered.{stays_placed}
use Rattle.core_core.proofs.Entries.{is_any-push}
use Rattle.core_core.proofs.Fits.{IsBounded-from_turns}
use Rattle.core_core.proofs.Parts.{KeepsCounts-enters, IsListed-joins, IsPollable-pushed}
use Rattle.core_core.proofs.SlipsKept.{KeepsSlips-same}
use Rattle.core_core.proofs.Turning.{KeepsTurn-same}
use Rattle.core_core.proofs.one_core.Core.join.Goals as goal

pub invariant_of-self : goal.invariant_of-self
invariant_of-self g c =
    let old = c.self.invariant in
    let back = sym c.self.view_is in
    let work = subst (λ (view : CoreView g.row.J.Denot). is_working c.args.queue view ≡ true) back c.requires.work in
    let room = subst (λ (view : CoreView g.row.J.Denot). inside_count view < view.queues.room) back c.requires.room in
    let space : c.self.inside.inside < c.self.inside.room = omega (arith, old.counted.all_inside, old.counted.same_room, room) in
    let joins = c.admit.ensures.joins in
    rw c.count.ensures (record {
      counted = KeepsCounts-enters _ _ _ _ _ c.args.queue c.args.name (record { started = false; woken = false }) c.args.job joins.queues c.admit.ensures.limits space refl refl refl (length-set _ _ _) old.counted;
      listed = IsListed-joins _ _ _ c.args.queue joins.queues.others (λ some. ap is_any joins.queues.changed ∙ is_any-push _ _) refl refl work old.listed;
      slipped = KeepsSlips-same _ _ _ _ _ joins.queues.same_count joins.slips old.slipped;
      pollable = IsPollable-pushed _ _ _ c.args.queue c.args.name (record { started = false; woken = false }) c.args.job joins.queues c.requires.ready old.pollable;
      turns = record { tallies = old.turns.tallies; floor = old.turns.floor };
      turning = KeepsTurn-same _ _ refl refl (omega (arith, joins.queues.same_count)) old.turning;
    })

pub overflow_add-self : goal.overflow_add-self
overflow_add-self g c =
    let old = c.self.invariant in
    let room = subst (λ (view : CoreView g.row.J.Denot). inside_count view < view.queues.room) (sym c.self.view_is) c.requires.room in
    omega (arith, old.counted.all_inside, old.counted.same_room, room, c.self.ranges)

pub count-requires : goal.count-requires
count-requires g c =
    let known : c.args.name.from ≤ c.self.inside.cores = subst (λ (view : CoreView g.row.J.Denot). c.args.name.from ≤ view.cores) (sym c.self.view_is) c.requires.sender in
    omega (arith, known, c.self.invariant.counted.senders, c.from.ensures ∙ ap (λ (name : JobId). name.from) c.name.view_is)

pub admit-requires : goal.admit-requires
admit-requires g c =
    let back = sym c.self.view_is in
    let room = subst (λ (view : CoreView g.row.J.Denot). inside_count view < view.queues.room) back c.requires.room in
    record {
      exists = subst (λ (view : CoreView g.row.J.Denot). c.args.queue < queue_count view.queues) back c.requires.exists;
      is_open = subst (λ (view : CoreView g.row.J.Denot). mode_of c.args.queue view.queues ≡ None) back c.requires.is_open;
      room = omega (arith, room);
    }

pub returns-clause-bounded : goal.returns-clause-bounded
returns-clause-bounded g c =
    let inside = c.self.inside in
    let core = c.self.invariant in
    IsBounded-from_turns (core_view inside.core inside.cores (queues_alone c.admit.new.self) inside.tallies.items inside.floor inside.turns (job_out inside.out) c.count.new.self inside.mode inside.bursts) (record {
      tallies = core.turns.tallies;
      floor = core.turns.floor;
    })

pub returns-clause-enters : goal.returns-clause-enters
returns-clause-enters g c =
    let inside = c.self.inside in
    let back = sym c.self.view_is in
    let old = core_view inside.core inside.cores (queues_alone inside.queues) inside.tallies.items inside.floor inside.turns (job_out inside.out) inside.senders inside.mode inside.bursts in
    let work = subst (λ (view : CoreView g.row.J.Denot). is_working c.args.queue view ≡ true) back c.requires.work in
    let exists = subst (λ (view : CoreView g.row.J.Denot). c.args.queue < queue_count view.queues) back c.requires.exists in
    let from = c.from.ensures ∙ ap (λ (name : JobId). name.from) c.name.view_is in
    let number = ap (λ (name : JobId). name.number) c.name.view_is in
    let senders : c.count.new.self ≡ record (inside.senders) { delivered = slice_set inside.senders.delivered c.args.name.from c.args.name.number } =
    c.count.ensures ∙ (λ i. record (inside.senders) { delivered = slice_set inside.senders.delivered (from i) (number i) }) in
    rw (← c.self.view_is) (record {
      exists = exists;
      line = c.admit.ensures.joins.queues;
      rest = λ i. core_view inside.core inside.cores (queues_alone c.admit.new.self) (sym (stays_placed old c.args.queue work) i) inside.floor inside.turns (job_out inside.out) (senders i) inside.mode inside.bursts;
    })
