use Rattle.core_queues.proofs.Words.{ap, AreFound, arith, ChangesLine, drop, HasOwnSlips, is_some, length, length-set, line_at, None, Queue, queue_at, queues_alone, refl, set, subst, sym, ℕ, ◌-◌, ◌<◌, ◌≡◌}
use Rattle.core_queues.proofs.Leaves.{Leaves, IsKept-left, waiting_of-left, ChangesLine-left, held_count-left, Writes-left}
use Rattle.core_queues.proofs.Spots.{waits, placed, queue_read}
use Rattle.core_queues.proofs.Finds.{AreFound-left}
use Rattle.core_queues.proofs.Names.{has_name}
use Rattle.core_queues.proofs.Views.{exists-view, head_filled, held_count-view, IsWithinLimits-view}
use Rattle.core_queues.proofs.Rests.{false_true, AreAtRest-writes}
use Rattle.core_queues.proofs.queues.Queues.pop_front.Goals as goal
use Rattle.core_queues.proofs.queues.Queues.pop_front.Goals.{After-index, After-remove-front}

some-count : (n : ℕ) → (n ≡ 0 → ⊥) → 0 < n
some-count n none = omega arith

-- the queue exists, and what is read is that queue
known_of : (g : _) (c : After-index g) → (c.args.queue < length c.self.inside.lines.items) × (queue_at c.self.inside.lines.items c.args.queue ≡ c.index.result.now)
known_of g c =
    let exists = exists-view c.self.inside.room c.self.inside.jobs c.self.inside.lines.items (ap queues_alone c.self.view_is) c.requires.exists in
    (exists, queue_read c.self.inside.lines.items c.queue.inside.0 c.args.queue c.index.result.now (omega (arith, exists, c.queue.view_is)) c.index.ensures c.queue.view_is)

-- its head leaves it
leaves_of : (g : _) (c : After-remove-front g) → queue_at c.self.inside.lines.items c.args.queue ≡ c.index.result.now → Leaves c.self.inside.jobs (line_at c.self.inside.lines.items (waits c.args.queue)) c.remove-front.result c.remove-front.new.self
    (record { head = c.remove-front.result.next; tail = c.index.result.now.waiting.tail; count = c.index.result.now.waiting.count - 1 })
leaves_of g c read = subst (λ (q : Queue). Leaves c.self.inside.jobs q.waiting c.remove-front.result c.remove-front.new.self (record { head = c.remove-front.result.next; tail = c.index.result.now.waiting.tail; count = c.index.result.now.waiting.count - 1 })) (sym read) (record {
  some = some-count c.index.result.now.waiting.count c.if-line-eq0.false;
  first = c.remove-front.ensures.value;
  updates = c.remove-front.ensures.updates;
  len = c.remove-front.ensures.len;
  capacity = c.remove-front.ensures.capacity;
  head = refl;
  tail = refl;
  count = refl;
})

pub returns-then-line-eq0-clause-limits : goal.returns-then-line-eq0-clause-limits
returns-then-line-eq0-clause-limits g c = rw (← c.self.view_is) (IsWithinLimits-view c.self.invariant.0)

pub remove-front-requires : goal.remove-front-requires
remove-front-requires g c =
    let known = known_of g (goal.at.remove-front-requires g c).After-index in
    head_filled c.self.invariant.0 (waits c.args.queue) c.index.result.now.waiting (ap (λ (q : Queue). q.waiting) known.1) (some-count c.index.result.now.waiting.count c.if-line-eq0.false)

pub invariant_of-self : goal.invariant_of-self
invariant_of-self g c =
    let inside = c.self.inside in
    let lines = inside.lines.items in
    let known = known_of g (goal.at.invariant_of-self g c).After-index in
    let wrote = queue_read lines c.queue.inside.0 c.args.queue c.index_mut.result.now (omega (arith, known.0, c.queue.view_is)) c.index_mut.ensures.value c.queue.view_is in
    let leaves = leaves_of g (goal.at.invariant_of-self g c).After-remove-front known.1 in
    rw (c.remove.ensures, c.queue.view_is, ← wrote) (
      IsKept-left (waits c.args.queue) c.remove-front.result _ c.self.invariant.0 leaves known.0,
      subst (λ count. HasOwnSlips count inside.slips.at.cap inside.slips.at.items) (sym (length-set lines c.args.queue _)) c.self.invariant.1,
      AreAtRest-writes inside.jobs c.remove-front.new.self lines _ (waits c.args.queue) _ c.self.invariant.2 (Writes-left (waits c.args.queue) c.remove-front.result _ c.self.invariant.0 leaves known.0) (λ is. absurd (false_true is)),
      subst (λ (q : Queue). AreFound c.remove-front.new.self (placed lines (waits c.args.queue) (record { head = c.remove-front.result.next; tail = c.index.result.now.waiting.tail; count = c.index.result.now.waiting.count - 1 })) (set inside.names q.waiting.head None) inside.seats.items) known.1
          (AreFound-left inside.names inside.seats.items c.args.queue c.remove-front.result _ c.self.invariant.0 leaves known.0 c.self.invariant.3),
    )

pub returns : goal.returns
returns g c =
    let known = known_of g (goal.at.returns g c).After-index in
    let wrote = queue_read c.self.inside.lines.items c.queue.inside.0 c.args.queue c.index_mut.result.now (omega (arith, known.0, c.queue.view_is)) c.index_mut.ensures.value c.queue.view_is in
    let leaves = leaves_of g (goal.at.returns g c).After-remove-front known.1 in
    let fewer = held_count-left (waits c.args.queue) c.remove-front.result _ c.self.invariant.0 leaves known.0 in
    let head = waiting_of-left c.args.queue c.remove-front.result _ c.self.invariant.0 leaves known.0 in
    rw (← c.self.view_is, c.queue.view_is, ← wrote) (record {
      empty = tt;
      unchanged = tt;
      head = head;
      rest = record { queues = subst (ChangesLine _ _ c.args.queue) (ap (drop 1) (sym head)) (ChangesLine-left c.args.queue c.remove-front.result _ c.self.invariant.0 leaves known.0); slips = refl };
      one_less = fewer;
      room = omega (arith, fewer, held_count-view c.self.invariant.0, c.self.invariant.0.within_room);
      limits = IsWithinLimits-view (IsKept-left (waits c.args.queue) c.remove-front.result _ c.self.invariant.0 leaves known.0);
    })

pub index-requires : goal.index-requires
index-requires g c = omega (arith, exists-view c.self.inside.room c.self.inside.jobs c.self.inside.lines.items (ap queues_alone c.self.view_is) c.requires.exists, c.queue.view_is)

pub index_mut-requires : goal.index_mut-requires
index_mut-requires g c = omega (arith, exists-view c.self.inside.room c.self.inside.jobs c.self.inside.lines.items (ap queues_alone c.self.view_is) c.requires.exists, c.queue.view_is)

pub remove-requires : goal.remove-requires
remove-requires g c = has_name c.self.inside.jobs c.self.inside.names c.index.result.now.waiting.head c.self.invariant.3.named (ap is_some c.remove-front.ensures.value)
