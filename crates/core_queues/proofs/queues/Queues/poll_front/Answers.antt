use Rattle.core_queues.proofs.Words.{ap, arith, get, IfSome, IsFrontReady, IsReady, Line, Queue, queues_alone, refl, Renews, subst, sym}
use Rattle.core_queues.specs.Queues.{QueuesView, waiting_of}
use Rattle.core_queues.proofs.Fronts.{some_ready, some_waiting, head_ready, Rewrites-job, front_renewed, front_rests}
use Rattle.core_queues.proofs.Renewals.{IsKept-renewed}
use Rattle.core_queues.proofs.Finds.{AreFound-renewed}
use Rattle.core_queues.proofs.Spots.{waits, queue_read}
use Rattle.core_queues.proofs.Views.{alone, exists-view, head_filled, IsWithinLimits-view}
use Rattle.core_queues.proofs.queues.Queues.poll_front.Goals as goal

pub index-requires : goal.index-requires
index-requires g c =
    let exists = exists-view c.self.inside.room c.self.inside.jobs c.self.inside.lines.items (ap queues_alone c.self.view_is) c.requires.exists in
    omega (arith, exists, c.queue.view_is)

pub poll_at-requires-clause-there : goal.poll_at-requires-clause-there
poll_at-requires-clause-there g c =
    let inside = c.self.inside in
    let lines = inside.lines.items in
    let line = c.index.result.now.waiting in
    let exists = exists-view inside.room inside.jobs lines (ap queues_alone c.self.view_is) c.requires.exists in
    let here = ap (λ (q : Queue). q.waiting) (queue_read lines c.queue.inside.0 c.args.queue c.index.result.now (omega (arith, exists, c.queue.view_is)) c.index.ensures c.queue.view_is) in
    let ready = subst (λ (view : QueuesView g.row.J.Denot). IsFrontReady g.J.Task.meaning (waiting_of c.args.queue view)) (sym (ap queues_alone c.self.view_is)) c.requires.ready in
    let some = some_waiting c.self.invariant.0 c.args.queue (some_ready g.J.Task.meaning (waiting_of c.args.queue (alone inside.room inside.jobs lines)) ready) in
    head_filled c.self.invariant.0 (waits c.args.queue) line here (omega (arith, some, ap (λ (l : Line). l.count) here))

pub poll_at-requires-clause-ready : goal.poll_at-requires-clause-ready
poll_at-requires-clause-ready g c =
    let inside = c.self.inside in
    let lines = inside.lines.items in
    let line = c.index.result.now.waiting in
    let exists = exists-view inside.room inside.jobs lines (ap queues_alone c.self.view_is) c.requires.exists in
    let here = ap (λ (q : Queue). q.waiting) (queue_read lines c.queue.inside.0 c.args.queue c.index.result.now (omega (arith, exists, c.queue.view_is)) c.index.ensures c.queue.view_is) in
    let ready = subst (λ (view : QueuesView g.row.J.Denot). IsFrontReady g.J.Task.meaning (waiting_of c.args.queue view)) (sym (ap queues_alone c.self.view_is)) c.requires.ready in
    subst (λ (l : Line). IfSome (get inside.jobs l.head) (λ waiting. IsReady g.J.Task.meaning waiting.job)) here
    (head_ready g.J.Task.meaning c.self.invariant.0 c.args.queue ready)

pub invariant_of-self : goal.invariant_of-self
invariant_of-self g c =
    let inside = c.self.inside in
    let lines = inside.lines.items in
    let polls = c.poll_at.ensures.polls.2 in
    let exists = exists-view inside.room inside.jobs lines (ap queues_alone c.self.view_is) c.requires.exists in
    let here = ap (λ (q : Queue). q.waiting) (queue_read lines c.queue.inside.0 c.args.queue c.index.result.now (omega (arith, exists, c.queue.view_is)) c.index.ensures c.queue.view_is) in
    let ready = subst (λ (view : QueuesView g.row.J.Denot). IsFrontReady g.J.Task.meaning (waiting_of c.args.queue view)) (sym (ap queues_alone c.self.view_is)) c.requires.ready in
    let some = some_waiting c.self.invariant.0 c.args.queue (some_ready g.J.Task.meaning (waiting_of c.args.queue (alone inside.room inside.jobs lines)) ready) in
    let renews = subst (λ (l : Line). Renews inside.jobs l.head polls.front polls.job c.poll_at.new.jobs) (sym here) polls.renews in (
      IsKept-renewed c.index.result.now.waiting.head polls.front (record polls.front { job = polls.job }) c.self.invariant.0 (Rewrites-job _ _ _ polls.front polls.job polls.renews),
      c.self.invariant.1,
      front_rests c.args.queue polls.front (record polls.front { job = polls.job }) c.self.invariant.0 (Rewrites-job _ _ _ polls.front polls.job renews) some c.self.invariant.2,
      AreFound-renewed inside.names inside.seats.items c.index.result.now.waiting.head polls.front polls.job polls.renews c.self.invariant.3,
    )

pub returns-clause-polls : goal.returns-clause-polls
returns-clause-polls g c =
    let inside = c.self.inside in
    let lines = inside.lines.items in
    let line = c.index.result.now.waiting in
    let polls = c.poll_at.ensures.polls.2 in
    let exists = exists-view inside.room inside.jobs lines (ap queues_alone c.self.view_is) c.requires.exists in
    let here = ap (λ (q : Queue). q.waiting) (queue_read lines c.queue.inside.0 c.args.queue c.index.result.now (omega (arith, exists, c.queue.view_is)) c.index.ensures c.queue.view_is) in
    let ready = subst (λ (view : QueuesView g.row.J.Denot). IsFrontReady g.J.Task.meaning (waiting_of c.args.queue view)) (sym (ap queues_alone c.self.view_is)) c.requires.ready in
    let some = some_waiting c.self.invariant.0 c.args.queue (some_ready g.J.Task.meaning (waiting_of c.args.queue (alone inside.room inside.jobs lines)) ready) in
    let renews = subst (λ (l : Line). Renews inside.jobs l.head polls.front polls.job c.poll_at.new.jobs) (sym here) polls.renews in
    let renewed = front_renewed c.args.queue polls.front (record polls.front { job = polls.job }) c.self.invariant.0 (Rewrites-job _ _ _ polls.front polls.job renews) some in
    rw (← c.self.view_is) (
      c.poll_at.ensures.polls.0,
      c.poll_at.ensures.polls.1,
      record {
        name = polls.front.name;
        marks = record { started = polls.front.started; woken = polls.front.woken };
        was = polls.front.job;
        job = polls.job;
        others = renewed.0;
        first = renewed.1;
        line = renewed.2;
        polled = polls.polled;
      },
    )

pub returns-clause-slips : goal.returns-clause-slips
returns-clause-slips g c = rw (← c.self.view_is) refl

pub returns-clause-limits : goal.returns-clause-limits
returns-clause-limits g c =
    let polls = c.poll_at.ensures.polls.2 in
    IsWithinLimits-view (IsKept-renewed c.index.result.now.waiting.head polls.front (record polls.front { job = polls.job }) c.self.invariant.0 (Rewrites-job _ _ _ polls.front polls.job polls.renews))
