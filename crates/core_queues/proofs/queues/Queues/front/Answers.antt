use Rattle.core_queues.proofs.Words.{ap, arith, get, Line, Queue, queues_alone, Some, subst, sym, ℕ, ◌<◌, ◌≡◌}
use Rattle.core_queues.proofs.Fronts.{head_shown}
use Rattle.core_queues.proofs.Spots.{waits, queue_read}
use Rattle.core_queues.proofs.Views.{exists-view, head_filled}
use Rattle.core_queues.proofs.queues.Queues.front.Goals as goal

some-count : (n : ℕ) → (n ≡ 0 → ⊥) → 0 < n
some-count n none = omega arith

pub index-requires : goal.index-requires
index-requires g c =
    let exists = exists-view c.self.inside.room c.self.inside.jobs c.self.inside.lines.items (ap queues_alone c.self.view_is) c.requires.exists in
    omega (arith, exists, c.queue.view_is)

pub index-front-requires : goal.index-front-requires
index-front-requires g c =
    let inside = c.self.inside in
    let lines = inside.lines.items in
    let was = c.index.result.now in
    let line = was.waiting in
    let exists = exists-view inside.room inside.jobs lines (ap queues_alone c.self.view_is) c.requires.exists in
    let here = ap (λ (q : Queue). q.waiting) (queue_read lines c.queue.inside.0 c.args.queue was (omega (arith, exists, c.queue.view_is)) c.index.ensures c.queue.view_is) in
    head_filled c.self.invariant.0 (waits c.args.queue) line here (some-count line.count c.if-line-eq0.false)

pub returns-clause-head : goal.returns-clause-head
returns-clause-head g c =
    let inside = c.self.inside in
    let lines = inside.lines.items in
    let was = c.index.result.now in
    let line = was.waiting in
    let front = c.index-front.result.now in
    let exists = exists-view inside.room inside.jobs lines (ap queues_alone c.self.view_is) c.requires.exists in
    let here = ap (λ (q : Queue). q.waiting) (queue_read lines c.queue.inside.0 c.args.queue was (omega (arith, exists, c.queue.view_is)) c.index.ensures c.queue.view_is) in
    let at = subst (λ (l : Line). get inside.jobs l.head ≡ Some front) (sym here) c.index-front.ensures in
    let some = subst (λ (l : Line). 0 < l.count) (sym here) (some-count line.count c.if-line-eq0.false) in
    let shown = head_shown c.self.invariant.0 c.args.queue front at some in
    rw (← c.self.view_is) (front.job, shown.0, shown.1)
