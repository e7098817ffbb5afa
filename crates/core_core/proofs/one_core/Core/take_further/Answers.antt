use Rattle.core_core.proofs.Names.{All, All-head, ap, ChangesLine, core_view, CoreView, drop, FollowsOut, GoesOn, IsReady, job_out, polled_again, queues_alone, refl, Some, subst, sym, waiting_of}
use Rattle.core_core.proofs.InTurn.{IsCore-followed}
use Rattle.core_core.proofs.one_core.Core.take_further.Goals as goal

pub invariant_of-self : goal.invariant_of-self
invariant_of-self g c =
    let inside = c.self.inside in
    let turn = c.args.turn in
    let old = core_view inside.core inside.cores (queues_alone inside.queues) inside.tallies.items inside.floor inside.turns (job_out inside.out) inside.senders inside.mode inside.bursts in
    let queues = queues_alone c.pop_front.new.self in
    let goes = subst (λ (view : CoreView g.row.J.Denot). GoesOn view turn) (sym c.self.view_is) c.requires in
    let head = c.in-Some.ensures.head in
    let mid = core_view inside.core inside.cores queues inside.tallies.items inside.floor inside.turns (Some (record { name = c.in-Some.name; queue = turn.queue; woken = c.in-Some.woken; job = c.in-Some.job })) inside.senders inside.mode
    (record (inside.bursts) { «open» = Some (polled_again turn) }) in
    let follows : FollowsOut old c.in-Some.name turn.queue c.in-Some.started c.in-Some.job mid = record {
      turn = turn;
      goes = goes;
      its_queue = refl;
      was_woken = c.in-Some.woken;
      others = waiting_of turn.queue queues;
      first = head;
      line = subst (λ line. ChangesLine (queues_alone inside.queues) queues turn.queue line) (ap (drop 1) head) c.in-Some.ensures.rest.queues;
      rest = refl;
    } in
    rw (c.in-Some.ensures.rest.slips, c.of-as_it_was.ensures, c.polled_again-again.ensures)
    (IsCore-followed g.J.Task.meaning old mid inside.queues.slips inside.ready.keys inside.inside inside.room inside.tallies.cap c.in-Some.name turn.queue c.in-Some.started c.in-Some.job c.self.invariant follows c.pop_front.ensures.limits)

pub returns-clause-ready : goal.returns-clause-ready
returns-clause-ready g c =
    let queues = queues_alone c.pop_front.new.self in
    let all = subst (λ waiting. All (λ one. IsReady g.J.Task.meaning one.2) waiting) c.in-Some.ensures.head (c.self.invariant.pollable.at c.args.turn.queue) in
    All-head (λ one. IsReady g.J.Task.meaning one.2) (c.in-Some.name, record { started = c.in-Some.started; woken = c.in-Some.woken }, c.in-Some.job) (waiting_of c.args.turn.queue queues) all
