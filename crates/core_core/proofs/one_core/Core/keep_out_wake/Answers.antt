use Rattle.core_core.proofs.Names.{ap, core_view, CoreView, is_out, job_out, JobOut, queues_alone, refl, subst, sym, true, ◌≡◌}
use Rattle.core_core.proofs.Fits.{IsBounded-from_turns}
use Rattle.core_core.proofs.Woken.{name_if_out, IsCore-out_woken}
use Rattle.core_core.proofs.one_core.Core.keep_out_wake.Goals as goal

pub returns-clause-keeps : goal.returns-clause-keeps
returns-clause-keeps g c =
    let inside = c.self.inside in
    let out = c.in-Some.out in
    let old = core_view inside.core inside.cores (queues_alone inside.queues) inside.tallies.items inside.floor inside.turns (job_out inside.out) inside.senders inside.mode inside.bursts in
    let was : JobOut g.row.J.Denot = record { name = out.name; queue = out.queue; woken = out.woken; job = out.job.value } in
    let there = subst (λ (view : CoreView g.row.J.Denot). is_out c.args.job.now view ≡ true) (sym c.self.view_is) c.requires.out in
    let was_out = ap job_out c.in-Some.is in
    rw (← c.self.view_is) (record { out = was; was_out = was_out; named = name_if_out c.args.job.now old was was_out there; rest = refl })

pub invariant_of-self : goal.invariant_of-self
invariant_of-self g c =
    let inside = c.self.inside in
    let out = c.in-Some.out in
    let old = core_view inside.core inside.cores (queues_alone inside.queues) inside.tallies.items inside.floor inside.turns (job_out inside.out) inside.senders inside.mode inside.bursts in
    let was : JobOut g.row.J.Denot = record { name = out.name; queue = out.queue; woken = out.woken; job = out.job.value } in
    IsCore-out_woken g.J.Task.meaning old inside.queues.slips inside.ready.keys inside.inside inside.room inside.tallies.cap was (ap job_out c.in-Some.is) c.self.invariant

pub returns-clause-bounded : goal.returns-clause-bounded
returns-clause-bounded g c =
    let inside = c.self.inside in
    let core = c.self.invariant in
    IsBounded-from_turns (core_view inside.core inside.cores (queues_alone inside.queues) inside.tallies.items inside.floor inside.turns (job_out inside.out) inside.senders inside.mode inside.bursts) (record {
      tallies = core.turns.tallies;
      floor = core.turns.floor;
    })
