use Rattle.core_core.proofs.Names.{ap, core_view, CoreView, is_some, job_out, JobOut, queues_alone, subst, sym, true, ◌∙◌, ◌≡◌}
use Rattle.core_core.proofs.SettledInTurn.{parks_in_turn}
use Rattle.core_core.proofs.one_core.Core.park_in_turn.Goals as goal

pub invariant_of-self : goal.invariant_of-self
invariant_of-self g c =
    let inside = c.self.inside in
    let old = core_view inside.core inside.cores (queues_alone inside.queues) inside.tallies.items inside.floor inside.turns (job_out inside.out) inside.senders inside.mode inside.bursts in
    let out : JobOut g.row.J.Denot = record { name = c.in-Some.out.name; queue = c.in-Some.out.queue; woken = c.in-Some.out.woken; job = c.in-Some.out.job.value } in
    let some = subst (λ (view : CoreView g.row.J.Denot). is_some view.bursts.open ≡ true) (sym c.self.view_is) c.requires.in_turn in
    rw (c.take.ensures.after, c.park.ensures.slips)
    (parks_in_turn g.J.Task.meaning old inside.queues.slips inside.ready.keys inside.inside inside.room inside.tallies.cap c.self.invariant out (ap job_out (sym c.take.ensures.value ∙ c.in-Some.is)) some c.args.time
    c.lasted-bursts.result c.lasted-bursts.ensures (queues_alone c.park.new.self) c.args.job c.park.ensures.parks c.park.ensures.limits c.requires.ready).0

pub returns-clause-parks : goal.returns-clause-parks
returns-clause-parks g c =
    let inside = c.self.inside in
    let old = core_view inside.core inside.cores (queues_alone inside.queues) inside.tallies.items inside.floor inside.turns (job_out inside.out) inside.senders inside.mode inside.bursts in
    let out : JobOut g.row.J.Denot = record { name = c.in-Some.out.name; queue = c.in-Some.out.queue; woken = c.in-Some.out.woken; job = c.in-Some.out.job.value } in
    let some = subst (λ (view : CoreView g.row.J.Denot). is_some view.bursts.open ≡ true) (sym c.self.view_is) c.requires.in_turn in
    rw (← c.self.view_is, c.take.ensures.after)
    (parks_in_turn g.J.Task.meaning old inside.queues.slips inside.ready.keys inside.inside inside.room inside.tallies.cap c.self.invariant out (ap job_out (sym c.take.ensures.value ∙ c.in-Some.is)) some c.args.time
    c.lasted-bursts.result c.lasted-bursts.ensures (queues_alone c.park.new.self) c.args.job c.park.ensures.parks c.park.ensures.limits c.requires.ready).1
