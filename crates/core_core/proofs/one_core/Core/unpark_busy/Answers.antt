use Rattle.core_core.proofs.Names.{All-nil, core_view, CoreView, is_working, IsReady, job_out, queue_count, queues_alone, refl, subst, sym, true, [], ◌<◌, ◌≡◌}
use Rattle.core_core.proofs.Fits.{IsBounded-from_turns}
use Rattle.core_core.proofs.Moved.{ready_unparked, IsCore-joined}
use Rattle.core_core.proofs.Unparked.{is_any-append, tally_woken-busy, EndsParks-one}
use Rattle.core_core.proofs.one_core.Core.unpark_busy.Goals as goal

pub unpark_all-requires : goal.unpark_all-requires
unpark_all-requires g c = record { exists = subst (λ (view : CoreView g.row.J.Denot). c.args.queue < queue_count view.queues) (sym c.self.view_is) c.requires.exists }

pub invariant_of-self : goal.invariant_of-self
invariant_of-self g c =
    let inside = c.self.inside in
    let old = core_view inside.core inside.cores (queues_alone inside.queues) inside.tallies.items inside.floor inside.turns (job_out inside.out) inside.senders inside.mode inside.bursts in
    let work = subst (λ (view : CoreView g.row.J.Denot). is_working c.args.queue view ≡ true) (sym c.self.view_is) c.requires.work in
    let did = c.unpark_all.ensures in
    rw did.slips (IsCore-joined g.J.Task.meaning old (queues_alone c.unpark_all.new.self) inside.queues.slips inside.ready.keys inside.inside inside.room inside.tallies.cap c.self.invariant c.args.queue _ [] did.moves did.limits
    (ready_unparked g.J.Task.meaning old c.args.queue c.self.invariant.pollable) (All-nil (λ parked. IsReady g.J.Task.meaning parked.1)) (λ some. is_any-append _ _ some) work)

pub returns-clause-ends : goal.returns-clause-ends
returns-clause-ends g c =
    let inside = c.self.inside in
    let old = core_view inside.core inside.cores (queues_alone inside.queues) inside.tallies.items inside.floor inside.turns (job_out inside.out) inside.senders inside.mode inside.bursts in
    let work = subst (λ (view : CoreView g.row.J.Denot). is_working c.args.queue view ≡ true) (sym c.self.view_is) c.requires.work in
    rw (← c.self.view_is) (EndsParks-one old (queues_alone c.unpark_all.new.self) inside.tallies.items c.args.queue c.unpark_all.ensures.moves refl (λ other apart. refl) (sym (tally_woken-busy _ c.args.queue old work)))

pub returns-clause-bounded : goal.returns-clause-bounded
returns-clause-bounded g c =
    let inside = c.self.inside in
    let core = c.self.invariant in
    IsBounded-from_turns (core_view inside.core inside.cores (queues_alone c.unpark_all.new.self) inside.tallies.items inside.floor inside.turns (job_out inside.out) inside.senders inside.mode inside.bursts) (record {
      tallies = core.turns.tallies;
      floor = core.turns.floor;
    })
