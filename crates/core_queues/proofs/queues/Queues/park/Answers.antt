use Rattle.core_queues.proofs.Words.{ap, Appends, AreFound, arith, false, HasOwnSlips, length, length-set, Queue, queue_at, queues_alone, refl, set, shown, slab_len, Some, subst, sym, true, Waiting, ◌<◌, ◌≡◌}
use Rattle.core_queues.proofs.Joins.{IsKept-joined, ChangesParks-joined, held_count-joined, Writes-joined}
use Rattle.core_queues.proofs.Spots.{parks, placed, queue_read}
use Rattle.core_queues.proofs.Views.{line_says, exists-view, fits-view, tail_filled, count-le-len, IsWithinLimits-view}
use Rattle.core_queues.proofs.Finds.{AreFound-parked}
use Rattle.core_queues.proofs.Names.{vacant-appended, capacity-appended}
use Rattle.core_queues.proofs.Rests.{IsAtRest-append, AreAtRest-writes}
use Rattle.core_queues.proofs.queues.Queues.park.Goals as goal
use Rattle.core_queues.proofs.queues.Queues.park.Goals.{After-index}

-- the queue exists, one more job fits, and what is read is that queue
known_of : (g : _) (c : After-index g) → (c.args.queue < length c.self.inside.lines.items) × (slab_len c.self.inside.jobs < c.self.inside.room) × (queue_at c.self.inside.lines.items c.args.queue ≡ c.index.result.now)
known_of g c =
    let inside = c.self.inside in
    let exists = exists-view inside.room inside.jobs inside.lines.items (ap queues_alone c.self.view_is) c.requires.exists in
    (exists, fits-view c.self.invariant.0 (ap queues_alone c.self.view_is) c.requires.room, queue_read inside.lines.items c.queue.inside.0 c.args.queue c.index.result.now (omega (arith, exists, c.queue.view_is)) c.index.ensures c.queue.view_is)

pub append-longer-requires : goal.append-longer-requires
append-longer-requires g c =
    let known = known_of g (goal.at.append-longer-requires g c).After-index in
    let here = ap (λ (q : Queue). q.parked) known.2 in
    record {
      room = omega (arith, known.1, c.self.invariant.0.reserved);
      tail = tail_filled c.self.invariant.0 (parks c.args.queue) c.index.result.now.parked here;
      short = omega (arith, known.1, count-le-len c.self.invariant.0 (parks c.args.queue) c.index.result.now.parked known.0 here, c.self.ranges);
    }

pub invariant_of-self : goal.invariant_of-self
invariant_of-self g c =
    let inside = c.self.inside in
    let lines = inside.lines.items in
    let last : Waiting g.row.J.Denot = record { next = 0; name = c.args.name; job = c.args.job; started = true; woken = false } in
    let known = known_of g (goal.at.invariant_of-self g c).After-index in
    let wrote = queue_read lines c.queue.inside.0 c.args.queue c.index_mut.result.now (omega (arith, known.0, c.queue.view_is)) c.index_mut.ensures.value c.queue.view_is in
    let appends = subst (λ (q : Queue). Appends inside.jobs q.parked last c.append-longer.new.jobs c.append-longer.result) (sym known.2) c.append-longer.ensures.appends in
    rw (c.insert.ensures, c.queue.view_is, ← wrote) (
      IsKept-joined (parks c.args.queue) last c.append-longer.result c.self.invariant.0 appends known.0 known.1,
      subst (λ count. HasOwnSlips count inside.slips.at.cap inside.slips.at.items) (sym (length-set lines c.args.queue _)) c.self.invariant.1,
      AreAtRest-writes inside.jobs c.append-longer.new.jobs lines _ (parks c.args.queue) _ c.self.invariant.2 (Writes-joined (parks c.args.queue) last c.append-longer.result c.self.invariant.0 appends known.0)
          (λ _. IsAtRest-append (line_says inside.jobs lines (parks c.args.queue)) (shown (Some last)) (c.self.invariant.2 c.args.queue) refl),
      subst (λ (q : Queue). AreFound c.append-longer.new.jobs (placed lines (parks c.args.queue) c.append-longer.result) (set inside.names c.append-longer.result.tail (Some c.args.name))
          (set inside.seats.items c.append-longer.result.tail (record { before = q.parked.tail; queue = c.args.queue; parked = true }))) known.2
          (AreFound-parked inside.names inside.seats.items c.args.queue last c.append-longer.result c.self.invariant.0 appends known.0 c.append-longer.ensures.within c.self.invariant.3),
    )

pub returns : goal.returns
returns g c =
    let inside = c.self.inside in
    let known = known_of g (goal.at.returns g c).After-index in
    let wrote = queue_read inside.lines.items c.queue.inside.0 c.args.queue c.index_mut.result.now (omega (arith, known.0, c.queue.view_is)) c.index_mut.ensures.value c.queue.view_is in
    let appends = subst (λ (q : Queue). Appends inside.jobs q.parked (record { next = 0; name = c.args.name; job = c.args.job; started = true; woken = false }) c.append-longer.new.jobs c.append-longer.result) (sym known.2) c.append-longer.ensures.appends in
    rw (← c.self.view_is, c.queue.view_is, ← wrote) (record {
      parks = ChangesParks-joined c.args.queue _ c.append-longer.result c.self.invariant.0 appends known.0 known.1;
      slips = refl;
      one_more = held_count-joined (parks c.args.queue) _ c.append-longer.result c.self.invariant.0 appends known.0 known.1;
      limits = IsWithinLimits-view (IsKept-joined (parks c.args.queue) _ c.append-longer.result c.self.invariant.0 appends known.0 known.1);
    })

pub index-requires : goal.index-requires
index-requires g c = omega (arith, exists-view c.self.inside.room c.self.inside.jobs c.self.inside.lines.items (ap queues_alone c.self.view_is) c.requires.exists, c.queue.view_is)

pub index_mut-requires : goal.index_mut-requires
index_mut-requires g c = omega (arith, exists-view c.self.inside.room c.self.inside.jobs c.self.inside.lines.items (ap queues_alone c.self.view_is) c.requires.exists, c.queue.view_is)

pub insert-requires : goal.insert-requires
insert-requires g c = record {
  within = omega (arith, c.append-longer.ensures.within, c.self.invariant.3.names_size, capacity-appended c.self.inside.jobs c.append-longer.new.jobs c.index.result.now.parked c.append-longer.result _ c.append-longer.ensures.appends);
  vacant = vacant-appended c.self.inside.jobs c.append-longer.new.jobs c.self.inside.names c.index.result.now.parked c.append-longer.result _ c.append-longer.ensures.appends c.self.invariant.3.named;
}

pub index_mut-requires-2 : goal.index_mut-requires-2
index_mut-requires-2 g c =
    omega (arith, c.append-longer.ensures.within, c.self.invariant.3.seats_size, capacity-appended c.self.inside.jobs c.append-longer.new.jobs c.index.result.now.parked c.append-longer.result _ c.append-longer.ensures.appends)
