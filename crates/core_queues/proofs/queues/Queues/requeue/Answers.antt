use Rattle.core_queues.proofs.Words.{ap, arith, get, HasOwnSlips, length-set, Line, Queue, queues_alone, refl, Requeues, subst, sym, Waiting, [], ◌<◌, ◌≡◌}
use Rattle.core_queues.specs.Queues.{QueuesView, waiting_of}
use Rattle.core_queues.proofs.Fronts.{some_waiting}
use Rattle.core_queues.proofs.Finds.{AreFound-requeued}
use Rattle.core_queues.proofs.Marked.{one_entry}
use Rattle.core_queues.proofs.Spots.{waits, queue_read}
use Rattle.core_queues.proofs.Turns.{IsKept-requeued, AreAtRest-requeued, TurnsLine-requeued}
use Rattle.core_queues.proofs.Views.{exists-view, head_filled, tail_filled, IsWithinLimits-view}
use Rattle.core_queues.proofs.queues.Queues.requeue.Goals as goal

pub index-requires : goal.index-requires
index-requires g c =
    let exists = exists-view c.self.inside.room c.self.inside.jobs c.self.inside.lines.items (ap queues_alone c.self.view_is) c.requires.exists in
    omega (arith, exists, c.queue.view_is)

pub index_mut-requires : goal.index_mut-requires
index_mut-requires g c =
    let exists = exists-view c.self.inside.room c.self.inside.jobs c.self.inside.lines.items (ap queues_alone c.self.view_is) c.requires.exists in
    omega (arith, exists, c.queue.view_is)

pub index-requires-2 : goal.index-requires-2
index-requires-2 g c =
    let inside = c.self.inside in
    let lines = inside.lines.items in
    let was = c.index.result.now in
    let exists = exists-view inside.room inside.jobs lines (ap queues_alone c.self.view_is) c.requires.exists in
    let here = ap (λ (q : Queue). q.waiting) (queue_read lines c.queue.inside.0 c.args.queue was (omega (arith, exists, c.queue.view_is)) c.index.ensures c.queue.view_is) in
    let waits_some = subst (λ (view : QueuesView g.row.J.Denot). waiting_of c.args.queue view ≡ [] → ⊥) (sym (ap queues_alone c.self.view_is)) c.requires.some in
    let some : 0 < was.waiting.count = omega (arith, some_waiting c.self.invariant.0 c.args.queue waits_some, ap (λ (l : Line). l.count) here) in
    head_filled c.self.invariant.0 (waits c.args.queue) was.waiting here some

pub requeue-requires : goal.requeue-requires
requeue-requires g c =
    let inside = c.self.inside in
    let lines = inside.lines.items in
    let was = c.index.result.now in
    let exists = exists-view inside.room inside.jobs lines (ap queues_alone c.self.view_is) c.requires.exists in
    let here = ap (λ (q : Queue). q.waiting) (queue_read lines c.queue.inside.0 c.args.queue was (omega (arith, exists, c.queue.view_is)) c.index.ensures c.queue.view_is) in
    let waits_some = subst (λ (view : QueuesView g.row.J.Denot). waiting_of c.args.queue view ≡ [] → ⊥) (sym (ap queues_alone c.self.view_is)) c.requires.some in
    let some : 0 < was.waiting.count = omega (arith, some_waiting c.self.invariant.0 c.args.queue waits_some, ap (λ (l : Line). l.count) here) in
    record { head = head_filled c.self.invariant.0 (waits c.args.queue) was.waiting here some; tail = tail_filled c.self.invariant.0 (waits c.args.queue) was.waiting here some }

pub invariant_of-self : goal.invariant_of-self
invariant_of-self g c =
    let inside = c.self.inside in
    let lines = inside.lines.items in
    let exists = exists-view inside.room inside.jobs lines (ap queues_alone c.self.view_is) c.requires.exists in
    let read = queue_read lines c.queue.inside.0 c.args.queue c.index.result.now (omega (arith, exists, c.queue.view_is)) c.index.ensures c.queue.view_is in
    let wrote = queue_read lines c.queue.inside.0 c.args.queue c.index_mut.result.now (omega (arith, exists, c.queue.view_is)) c.index_mut.ensures.value c.queue.view_is in
    let waits_some = subst (λ (view : QueuesView g.row.J.Denot). waiting_of c.args.queue view ≡ [] → ⊥) (sym (ap queues_alone c.self.view_is)) c.requires.some in
    let some = some_waiting c.self.invariant.0 c.args.queue waits_some in
    let requeues = subst (λ (q : Queue). Requeues inside.jobs q.waiting c.index-2.result.now.woken c.requeue.new.jobs c.requeue.result) (sym read) c.requeue.ensures in
    rw (c.queue.view_is, ← wrote) (
      IsKept-requeued c.args.queue c.requeue.result c.index-2.result.now.woken c.self.invariant.0 requeues exists some,
      subst (λ count. HasOwnSlips count inside.slips.at.cap inside.slips.at.items) (sym (length-set lines c.args.queue _)) c.self.invariant.1,
      AreAtRest-requeued c.args.queue c.requeue.result c.index-2.result.now.woken c.self.invariant.0 requeues exists some c.self.invariant.2,
      AreFound-requeued inside.names inside.seats.items c.args.queue c.requeue.result c.index-2.result.now.woken c.self.invariant.0 requeues exists some c.self.invariant.3,
    )

pub returns : goal.returns
returns g c =
    let inside = c.self.inside in
    let lines = inside.lines.items in
    let exists = exists-view inside.room inside.jobs lines (ap queues_alone c.self.view_is) c.requires.exists in
    let read = queue_read lines c.queue.inside.0 c.args.queue c.index.result.now (omega (arith, exists, c.queue.view_is)) c.index.ensures c.queue.view_is in
    let wrote = queue_read lines c.queue.inside.0 c.args.queue c.index_mut.result.now (omega (arith, exists, c.queue.view_is)) c.index_mut.ensures.value c.queue.view_is in
    let waits_some = subst (λ (view : QueuesView g.row.J.Denot). waiting_of c.args.queue view ≡ [] → ⊥) (sym (ap queues_alone c.self.view_is)) c.requires.some in
    let some = some_waiting c.self.invariant.0 c.args.queue waits_some in
    let requeues = subst (λ (q : Queue). Requeues inside.jobs q.waiting c.index-2.result.now.woken c.requeue.new.jobs c.requeue.result) (sym read) c.requeue.ensures in
    let mark = ap (λ (w : Waiting g.row.J.Denot). w.woken) (one_entry (get inside.jobs c.index.result.now.waiting.head) c.index-2.result.now c.requeue.ensures.front c.index-2.ensures c.requeue.ensures.starts.at) in
    rw (← c.self.view_is, c.queue.view_is, ← wrote) (record {
      turns = TurnsLine-requeued c.args.queue c.requeue.result c.index-2.result.now.woken c.self.invariant.0 requeues exists some mark;
      slips = refl;
      limits = IsWithinLimits-view (IsKept-requeued c.args.queue c.requeue.result c.index-2.result.now.woken c.self.invariant.0 requeues exists some);
    })
