use Rattle.core_queues.proofs.Words.{ap, arith, false, get, HasOwnSlips, length, length-set, line_at, MovesHead, Queue, queue_at, queues_alone, QueuesView, Requeues, subst, sym, Waiting, waiting_of, [], ◌<◌, ◌∙◌, ◌≡◌}
use Rattle.core_queues.proofs.Fronts.{some_waiting}
use Rattle.core_queues.proofs.Finds.{AreFound-requeued, AreFound-moved}
use Rattle.core_queues.proofs.Names.{key_within}
use Rattle.core_queues.proofs.Marked.{one_entry}
use Rattle.core_queues.proofs.Spots.{waits, parks, queue_read}
use Rattle.core_queues.proofs.Turns.{IsKept-requeued, AreAtRest-requeued, RestsFront-requeued, IsKept-moved, AreAtRest-moved, RestsFront-moved}
use Rattle.core_queues.proofs.Views.{exists-view, head_filled, tail_filled, IsWithinLimits-view}
use Rattle.core_queues.proofs.queues.Queues.park_front.Goals as goal
use Rattle.core_queues.proofs.queues.Queues.park_front.Goals.{After-index-was}

-- the queue exists, a job waits in it, and what is read is that queue
known_of : (g : _) (c : After-index-was g) → (c.args.queue < length c.self.inside.lines.items) × (0 < (line_at c.self.inside.lines.items (waits c.args.queue)).count) × (queue_at c.self.inside.lines.items c.args.queue ≡ c.index-was.result.now)
known_of g c =
    let inside = c.self.inside in
    let exists = exists-view inside.room inside.jobs inside.lines.items (ap queues_alone c.self.view_is) c.requires.exists in
    let some = subst (λ (view : QueuesView g.row.J.Denot). waiting_of c.args.queue view ≡ [] → ⊥) (sym (ap queues_alone c.self.view_is)) c.requires.some in
    (exists, some_waiting c.self.invariant.0 c.args.queue some, queue_read inside.lines.items c.queue.inside.0 c.args.queue c.index-was.result.now (omega (arith, exists, c.queue.view_is)) c.index-was.ensures c.queue.view_is)

pub index-requires : goal.index-requires
index-requires g c =
    let known = known_of g (goal.at.index-requires g c).After-index-was in
    head_filled c.self.invariant.0 (waits c.args.queue) c.index-was.result.now.waiting (ap (λ (q : Queue). q.waiting) known.2) (subst (λ (q : Queue). 0 < q.waiting.count) known.2 known.1)

pub requeue-requires-clause-tail : goal.requeue-requires-clause-tail
requeue-requires-clause-tail g c =
    let known = known_of g (goal.at.requeue-requires-clause-tail g c).After-index-was in
    tail_filled c.self.invariant.0 (waits c.args.queue) c.index-was.result.now.waiting (ap (λ (q : Queue). q.waiting) known.2) (subst (λ (q : Queue). 0 < q.waiting.count) known.2 known.1)

pub invariant_of-self : goal.invariant_of-self
invariant_of-self g c =
    let known = known_of g (goal.at.invariant_of-self g c).After-index-was in
    let wrote = queue_read c.self.inside.lines.items c.queue.inside.0 c.args.queue c.index_mut.result.now (omega (arith, known.0, c.queue.view_is)) c.index_mut.ensures.value c.queue.view_is in
    let requeues = subst (λ (q : Queue). Requeues c.self.inside.jobs q.waiting false c.requeue.new.jobs c.requeue.result) (sym known.2) c.requeue.ensures in
    rw (c.queue.view_is, ← wrote) (
      IsKept-requeued c.args.queue c.requeue.result false c.self.invariant.0 requeues known.0 known.1,
      subst (λ count. HasOwnSlips count c.self.inside.slips.at.cap c.self.inside.slips.at.items) (sym (length-set c.self.inside.lines.items c.args.queue _)) c.self.invariant.1,
      AreAtRest-requeued c.args.queue c.requeue.result false c.self.invariant.0 requeues known.0 known.1 c.self.invariant.2,
      AreFound-requeued c.self.inside.names c.self.inside.seats.items c.args.queue c.requeue.result false c.self.invariant.0 requeues known.0 known.1 c.self.invariant.3,
    )

pub returns-then-index-clause-rests : goal.returns-then-index-clause-rests
returns-then-index-clause-rests g c =
    let known = known_of g (goal.at.returns-then-index-clause-rests g c).After-index-was in
    let wrote = queue_read c.self.inside.lines.items c.queue.inside.0 c.args.queue c.index_mut.result.now (omega (arith, known.0, c.queue.view_is)) c.index_mut.ensures.value c.queue.view_is in
    let requeues = subst (λ (q : Queue). Requeues c.self.inside.jobs q.waiting false c.requeue.new.jobs c.requeue.result) (sym known.2) c.requeue.ensures in
    let awake = ap (λ (w : Waiting g.row.J.Denot). w.woken) (one_entry (get c.self.inside.jobs c.index-was.result.now.waiting.head) c.requeue.ensures.front c.index.result.now c.requeue.ensures.starts.at c.index.ensures) ∙ c.if-index.true in
    rw (← c.self.view_is, c.queue.view_is, ← wrote) (RestsFront-requeued c.args.queue c.requeue.result c.self.invariant.0 requeues known.0 known.1 awake)

pub returns-then-index-clause-limits : goal.returns-then-index-clause-limits
returns-then-index-clause-limits g c =
    let known = known_of g (goal.at.returns-then-index-clause-limits g c).After-index-was in
    let wrote = queue_read c.self.inside.lines.items c.queue.inside.0 c.args.queue c.index_mut.result.now (omega (arith, known.0, c.queue.view_is)) c.index_mut.ensures.value c.queue.view_is in
    let requeues = subst (λ (q : Queue). Requeues c.self.inside.jobs q.waiting false c.requeue.new.jobs c.requeue.result) (sym known.2) c.requeue.ensures in
    rw (c.queue.view_is, ← wrote) (IsWithinLimits-view (IsKept-requeued c.args.queue c.requeue.result false c.self.invariant.0 requeues known.0 known.1))

pub move_head-requires-clause-tail : goal.move_head-requires-clause-tail
move_head-requires-clause-tail g c =
    let known = known_of g (goal.at.move_head-requires-clause-tail g c).After-index-was in
    tail_filled c.self.invariant.0 (parks c.args.queue) c.index-was.result.now.parked (ap (λ (q : Queue). q.parked) known.2)

pub invariant_of-self-2 : goal.invariant_of-self-2
invariant_of-self-2 g c =
    let known = known_of g (goal.at.invariant_of-self-2 g c).After-index-was in
    let moves = subst (λ (q : Queue). MovesHead c.self.inside.jobs q.waiting q.parked c.move_head.new.jobs c.move_head.result.0 c.move_head.result.1) (sym known.2) c.move_head.ensures in
    rw (c.queue.view_is, ← known.2) (
      IsKept-moved c.args.queue c.move_head.result.0 c.move_head.result.1 c.self.invariant.0 moves known.0 known.1,
      subst (λ count. HasOwnSlips count c.self.inside.slips.at.cap c.self.inside.slips.at.items) (sym (length-set c.self.inside.lines.items c.args.queue _)) c.self.invariant.1,
      AreAtRest-moved c.args.queue c.move_head.result.0 c.move_head.result.1 c.self.invariant.0 moves known.0 known.1 c.self.invariant.2,
      AreFound-moved c.self.inside.names c.self.inside.seats.items c.args.queue c.move_head.result.0 c.move_head.result.1 c.self.invariant.0 moves known.0 known.1 c.self.invariant.3,
    )

pub returns-clause-rests : goal.returns-clause-rests
returns-clause-rests g c =
    let known = known_of g (goal.at.returns-clause-rests g c).After-index-was in
    let moves = subst (λ (q : Queue). MovesHead c.self.inside.jobs q.waiting q.parked c.move_head.new.jobs c.move_head.result.0 c.move_head.result.1) (sym known.2) c.move_head.ensures in
    let asleep = ap (λ (w : Waiting g.row.J.Denot). w.woken) (one_entry (get c.self.inside.jobs c.index-was.result.now.waiting.head) c.move_head.ensures.front c.index.result.now c.move_head.ensures.starts.at c.index.ensures) ∙ c.if-index.false in
    rw (← c.self.view_is, c.queue.view_is, ← known.2) (RestsFront-moved c.args.queue c.move_head.result.0 c.move_head.result.1 c.self.invariant.0 moves known.0 known.1 asleep)

pub returns-clause-limits : goal.returns-clause-limits
returns-clause-limits g c =
    let known = known_of g (goal.at.returns-clause-limits g c).After-index-was in
    let moves = subst (λ (q : Queue). MovesHead c.self.inside.jobs q.waiting q.parked c.move_head.new.jobs c.move_head.result.0 c.move_head.result.1) (sym known.2) c.move_head.ensures in
    rw (c.queue.view_is, ← known.2) (IsWithinLimits-view (IsKept-moved c.args.queue c.move_head.result.0 c.move_head.result.1 c.self.invariant.0 moves known.0 known.1))

pub index_mut-requires-3 : goal.index_mut-requires-3
index_mut-requires-3 g c =
    let known = known_of g (goal.at.index_mut-requires-3 g c).After-index-was in
    let filled = head_filled c.self.invariant.0 (waits c.args.queue) c.index-was.result.now.waiting (ap (λ (q : Queue). q.waiting) known.2) (subst (λ (q : Queue). 0 < q.waiting.count) known.2 known.1) in
    omega (arith, key_within c.self.inside.jobs c.self.inside.names c.index-was.result.now.waiting.head c.self.invariant.3.named filled, c.self.invariant.3.names_size, c.self.invariant.3.seats_size)
