use Rattle.core_core.proofs.Names.{ap, arith, Bool, core_view, CoreView, false, is_out, job_out, List, queues_alone, slice_index_or, subst, sym, ◌∙◌, ◌≡◌}
use Rattle.core_core.proofs.Fits.{IsBounded-from_turns}
use Rattle.core_core.proofs.Listed.{LacksQueue-from_none}
use Rattle.core_core.proofs.Parts.{idle_entry}
use Rattle.core_core.proofs.SlipsKept.{slip_there}
use Rattle.core_core.proofs.Wakings.{wakes_nobody, wakes_waiting, wakes_busy, wakes_idle, work_told}
use Rattle.core_core.proofs.Woken.{woken_exists}
use Rattle.core_core.proofs.one_core.Core.wake_inside.Goals as goal

pub invariant_of-self-in-Kept : goal.invariant_of-self-in-Kept
invariant_of-self-in-Kept g c =
    let inside = c.self.inside in
    let old = core_view inside.core inside.cores (queues_alone inside.queues) inside.tallies.items inside.floor inside.turns (job_out inside.out) inside.senders inside.mode inside.bursts in
    let not_out = subst (λ (view : CoreView g.row.J.Denot). is_out c.args.job.now view ≡ false) (sym c.self.view_is) c.requires.not_out in
    let kept = c.in-Kept.ensures in
    rw kept.slips (wakes_waiting g.J.Task.meaning old (queues_alone c.wake.new.self) inside.queues.slips inside.ready.keys inside.inside inside.room inside.tallies.cap c.self.invariant c.args.job.now not_out
    kept.wakes kept.limits).1

pub invariant_of-self-then-has_others : goal.invariant_of-self-then-has_others
invariant_of-self-then-has_others g c =
    let inside = c.self.inside in
    let old = core_view inside.core inside.cores (queues_alone inside.queues) inside.tallies.items inside.floor inside.turns (job_out inside.out) inside.senders inside.mode inside.bursts in
    let not_out = subst (λ (view : CoreView g.row.J.Denot). is_out c.args.job.now view ≡ false) (sym c.self.view_is) c.requires.not_out in
    let moved = c.in-Moved.ensures in
    rw moved.slips (wakes_busy g.J.Task.meaning old (queues_alone c.wake.new.self) inside.queues.slips inside.ready.keys inside.inside inside.room inside.tallies.cap c.self.invariant c.args.job.now not_out
    c.in-Moved.queue moved.wakes moved.limits c.has_others.result c.has_others.ensures c.if-has_others.true).1

pub returns-then-has_others-clause-wakes : goal.returns-then-has_others-clause-wakes
returns-then-has_others-clause-wakes g c =
    let inside = c.self.inside in
    let old = core_view inside.core inside.cores (queues_alone inside.queues) inside.tallies.items inside.floor inside.turns (job_out inside.out) inside.senders inside.mode inside.bursts in
    let not_out = subst (λ (view : CoreView g.row.J.Denot). is_out c.args.job.now view ≡ false) (sym c.self.view_is) c.requires.not_out in
    let moved = c.in-Moved.ensures in
    rw (← c.self.view_is) (wakes_busy g.J.Task.meaning old (queues_alone c.wake.new.self) inside.queues.slips inside.ready.keys inside.inside inside.room inside.tallies.cap c.self.invariant c.args.job.now not_out
    c.in-Moved.queue moved.wakes moved.limits c.has_others.result c.has_others.ensures c.if-has_others.true).0

pub has_others-requires : goal.has_others-requires
has_others-requires g c =
    let inside = c.self.inside in
    let old = core_view inside.core inside.cores (queues_alone inside.queues) inside.tallies.items inside.floor inside.turns (job_out inside.out) inside.senders inside.mode inside.bursts in
    let wakes = c.in-Moved.ensures.wakes in
    omega (arith, woken_exists old (queues_alone c.wake.new.self) c.in-Moved.queue c.args.job.now wakes, wakes.moves.same_count)

pub index_mut-tally-requires : goal.index_mut-tally-requires
index_mut-tally-requires g c =
    let inside = c.self.inside in
    let old = core_view inside.core inside.cores (queues_alone inside.queues) inside.tallies.items inside.floor inside.turns (job_out inside.out) inside.senders inside.mode inside.bursts in
    omega (arith, c.self.invariant.counted.tallies, woken_exists old (queues_alone c.wake.new.self) c.in-Moved.queue c.args.job.now c.in-Moved.ensures.wakes, c.place.ensures)

pub enter_placed-requires : goal.enter_placed-requires
enter_placed-requires g c =
    let inside = c.self.inside in
    let old = core_view inside.core inside.cores (queues_alone inside.queues) inside.tallies.items inside.floor inside.turns (job_out inside.out) inside.senders inside.mode inside.bursts in
    let not_out = subst (λ (view : CoreView g.row.J.Denot). is_out c.args.job.now view ≡ false) (sym c.self.view_is) c.requires.not_out in
    let queue = c.in-Moved.queue in
    let moved = c.in-Moved.ensures in
    let told = work_told g.J.Task.meaning old (queues_alone c.wake.new.self) inside.queues.slips inside.ready.keys inside.inside inside.room inside.tallies.cap c.self.invariant c.args.job.now not_out
    queue moved.wakes moved.limits c.has_others.result c.has_others.ensures in
    let exists = woken_exists old (queues_alone c.wake.new.self) queue c.args.job.now moved.wakes in
    let none = c.self.invariant.listed.at queue ∙ idle_entry old queue (told ∙ c.if-has_others.false) in
    record {
      exists = omega (arith, exists, moved.wakes.moves.same_count);
      slip = ap (λ (slips : List Bool). slice_index_or slips queue false) moved.slips ∙ slip_there _ _ inside.ready.keys queue exists none c.self.invariant.slipped;
      absent = LacksQueue-from_none queue inside.ready.keys none;
    }

pub invariant_of-self-2 : goal.invariant_of-self-2
invariant_of-self-2 g c =
    let inside = c.self.inside in
    let old = core_view inside.core inside.cores (queues_alone inside.queues) inside.tallies.items inside.floor inside.turns (job_out inside.out) inside.senders inside.mode inside.bursts in
    let not_out = subst (λ (view : CoreView g.row.J.Denot). is_out c.args.job.now view ≡ false) (sym c.self.view_is) c.requires.not_out in
    let moved = c.in-Moved.ensures in
    rw (c.enter_placed.ensures.keys, c.enter_placed.ensures.given, moved.slips, c.place.ensures)
    (wakes_idle g.J.Task.meaning old (queues_alone c.wake.new.self) inside.queues.slips inside.ready.keys inside.inside inside.room inside.tallies.cap c.self.invariant c.args.job.now not_out
    c.in-Moved.queue moved.wakes moved.limits c.has_others.result c.has_others.ensures c.if-has_others.false c.place.result c.index_mut-tally.result.now c.placed-vr.result c.place.ensures c.index_mut-tally.ensures.value
    c.placed-vr.ensures).1

pub returns-clause-wakes : goal.returns-clause-wakes
returns-clause-wakes g c =
    let inside = c.self.inside in
    let old = core_view inside.core inside.cores (queues_alone inside.queues) inside.tallies.items inside.floor inside.turns (job_out inside.out) inside.senders inside.mode inside.bursts in
    let not_out = subst (λ (view : CoreView g.row.J.Denot). is_out c.args.job.now view ≡ false) (sym c.self.view_is) c.requires.not_out in
    let moved = c.in-Moved.ensures in
    rw (← c.self.view_is, c.enter_placed.ensures.given)
    (wakes_idle g.J.Task.meaning old (queues_alone c.wake.new.self) inside.queues.slips inside.ready.keys inside.inside inside.room inside.tallies.cap c.self.invariant c.args.job.now not_out
    c.in-Moved.queue moved.wakes moved.limits c.has_others.result c.has_others.ensures c.if-has_others.false c.place.result c.index_mut-tally.result.now c.placed-vr.result c.place.ensures c.index_mut-tally.ensures.value
    c.placed-vr.ensures).0

pub returns-clause-bounded : goal.returns-clause-bounded
returns-clause-bounded g c =
    let inside = c.self.inside in
    let old = core_view inside.core inside.cores (queues_alone inside.queues) inside.tallies.items inside.floor inside.turns (job_out inside.out) inside.senders inside.mode inside.bursts in
    let not_out = subst (λ (view : CoreView g.row.J.Denot). is_out c.args.job.now view ≡ false) (sym c.self.view_is) c.requires.not_out in
    let moved = c.in-Moved.ensures in
    let core = (wakes_idle g.J.Task.meaning old (queues_alone c.wake.new.self) inside.queues.slips inside.ready.keys inside.inside inside.room inside.tallies.cap c.self.invariant c.args.job.now not_out
    c.in-Moved.queue moved.wakes moved.limits c.has_others.result c.has_others.ensures c.if-has_others.false c.place.result c.index_mut-tally.result.now c.placed-vr.result c.place.ensures c.index_mut-tally.ensures.value
    c.placed-vr.ensures).1 in
    rw c.place.ensures (IsBounded-from_turns _ core.turns)

pub returns-then-has_others-clause-bounded : goal.returns-then-has_others-clause-bounded
returns-then-has_others-clause-bounded g c =
    let inside = c.self.inside in
    let old = core_view inside.core inside.cores (queues_alone inside.queues) inside.tallies.items inside.floor inside.turns (job_out inside.out) inside.senders inside.mode inside.bursts in
    let not_out = subst (λ (view : CoreView g.row.J.Denot). is_out c.args.job.now view ≡ false) (sym c.self.view_is) c.requires.not_out in
    let moved = c.in-Moved.ensures in
    let core = (wakes_busy g.J.Task.meaning old (queues_alone c.wake.new.self) inside.queues.slips inside.ready.keys inside.inside inside.room inside.tallies.cap c.self.invariant c.args.job.now not_out
    c.in-Moved.queue moved.wakes moved.limits c.has_others.result c.has_others.ensures c.if-has_others.true).1 in
    IsBounded-from_turns _ core.turns

pub returns-in-Kept-clause-wakes : goal.returns-in-Kept-clause-wakes
returns-in-Kept-clause-wakes g c =
    let inside = c.self.inside in
    let old = core_view inside.core inside.cores (queues_alone inside.queues) inside.tallies.items inside.floor inside.turns (job_out inside.out) inside.senders inside.mode inside.bursts in
    let not_out = subst (λ (view : CoreView g.row.J.Denot). is_out c.args.job.now view ≡ false) (sym c.self.view_is) c.requires.not_out in
    let kept = c.in-Kept.ensures in
    rw (← c.self.view_is) (wakes_waiting g.J.Task.meaning old (queues_alone c.wake.new.self) inside.queues.slips inside.ready.keys inside.inside inside.room inside.tallies.cap c.self.invariant c.args.job.now not_out
    kept.wakes kept.limits).0

pub returns-in-Kept-clause-bounded : goal.returns-in-Kept-clause-bounded
returns-in-Kept-clause-bounded g c =
    let inside = c.self.inside in
    let old = core_view inside.core inside.cores (queues_alone inside.queues) inside.tallies.items inside.floor inside.turns (job_out inside.out) inside.senders inside.mode inside.bursts in
    let not_out = subst (λ (view : CoreView g.row.J.Denot). is_out c.args.job.now view ≡ false) (sym c.self.view_is) c.requires.not_out in
    let kept = c.in-Kept.ensures in
    let core = (wakes_waiting g.J.Task.meaning old (queues_alone c.wake.new.self) inside.queues.slips inside.ready.keys inside.inside inside.room inside.tallies.cap c.self.invariant c.args.job.now not_out
    kept.wakes kept.limits).1 in
    IsBounded-from_turns _ core.turns

pub returns-in-Absent-clause-wakes : goal.returns-in-Absent-clause-wakes
returns-in-Absent-clause-wakes g c =
    let inside = c.self.inside in
    let old = core_view inside.core inside.cores (queues_alone inside.queues) inside.tallies.items inside.floor inside.turns (job_out inside.out) inside.senders inside.mode inside.bursts in
    let not_out = subst (λ (view : CoreView g.row.J.Denot). is_out c.args.job.now view ≡ false) (sym c.self.view_is) c.requires.not_out in
    let absent = c.in-Absent.ensures.wakes in
    rw (← c.self.view_is) (wakes_nobody g.J.Task.meaning old (queues_alone c.wake.new.self) inside.queues.slips inside.ready.keys inside.inside inside.room inside.tallies.cap c.self.invariant c.args.job.now not_out
    absent.0 absent.1).0

pub returns-in-Absent-clause-bounded : goal.returns-in-Absent-clause-bounded
returns-in-Absent-clause-bounded g c =
    let inside = c.self.inside in
    let old = core_view inside.core inside.cores (queues_alone inside.queues) inside.tallies.items inside.floor inside.turns (job_out inside.out) inside.senders inside.mode inside.bursts in
    let not_out = subst (λ (view : CoreView g.row.J.Denot). is_out c.args.job.now view ≡ false) (sym c.self.view_is) c.requires.not_out in
    let absent = c.in-Absent.ensures.wakes in
    let core = (wakes_nobody g.J.Task.meaning old (queues_alone c.wake.new.self) inside.queues.slips inside.ready.keys inside.inside inside.room inside.tallies.cap c.self.invariant c.args.job.now not_out
    absent.0 absent.1).1 in
    IsBounded-from_turns _ core.turns

pub invariant_of-self : goal.invariant_of-self
invariant_of-self g c =
    let inside = c.self.inside in
    let old = core_view inside.core inside.cores (queues_alone inside.queues) inside.tallies.items inside.floor inside.turns (job_out inside.out) inside.senders inside.mode inside.bursts in
    let not_out = subst (λ (view : CoreView g.row.J.Denot). is_out c.args.job.now view ≡ false) (sym c.self.view_is) c.requires.not_out in
    let absent = c.in-Absent.ensures.wakes in
    rw c.in-Absent.ensures.slips (wakes_nobody g.J.Task.meaning old (queues_alone c.wake.new.self) inside.queues.slips inside.ready.keys inside.inside inside.room inside.tallies.cap c.self.invariant c.args.job.now not_out
    absent.0 absent.1).1
