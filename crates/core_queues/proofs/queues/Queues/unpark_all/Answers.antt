use Rattle.core_queues.proofs.Words.{ap, arith, get, HasOwnSlips, IsChain, JoinsLines, key_at, length, length-set, Queue, queues_alone, refl, subst, sym, Vacates, ℕ, ◌<◌}
use Rattle.core_queues.proofs.Finds.{AreFound-unparked, found_within}
use Rattle.core_queues.proofs.Spots.{waits, parks, queue_read}
use Rattle.core_queues.proofs.Unparks.{unparked_queues, both-le-len, IsKept-unparked, AreAtRest-unparked, Moves-unparked}
use Rattle.core_queues.proofs.Views.{exists-view, tail_filled, IsWithinLimits-view}
use Rattle.core_queues.proofs.queues.Queues.unpark_all.Goals as goal

pub index-was-requires : goal.index-was-requires
index-was-requires g c =
    let exists = exists-view c.self.inside.room c.self.inside.jobs c.self.inside.lines.items (ap queues_alone c.self.view_is) c.requires.exists in
    omega (arith, exists, c.queue.view_is)

pub index_mut-requires : goal.index_mut-requires
index_mut-requires g c =
    let exists = exists-view c.self.inside.room c.self.inside.jobs c.self.inside.lines.items (ap queues_alone c.self.view_is) c.requires.exists in
    omega (arith, exists, c.queue.view_is)

pub join_lines-requires : goal.join_lines-requires
join_lines-requires g c =
    let inside = c.self.inside in
    let lines = inside.lines.items in
    let was = c.index-was.result.now in
    let exists = exists-view inside.room inside.jobs lines (ap queues_alone c.self.view_is) c.requires.exists in
    let read = queue_read lines c.queue.inside.0 c.args.queue was (omega (arith, exists, c.queue.view_is)) c.index-was.ensures c.queue.view_is in
    let fits = both-le-len c.self.invariant.0 c.args.queue was exists read in
    record {
      tail = tail_filled c.self.invariant.0 (waits c.args.queue) was.waiting (ap (λ (q : Queue). q.waiting) read);
      short = omega (arith, fits, c.self.invariant.0.within_room, c.self.ranges);
    }

pub invariant_of-self : goal.invariant_of-self
invariant_of-self g c =
    let inside = c.self.inside in
    let lines = inside.lines.items in
    let was = c.index-was.result.now in
    let exists = exists-view inside.room inside.jobs lines (ap queues_alone c.self.view_is) c.requires.exists in
    let read = queue_read lines c.queue.inside.0 c.args.queue was (omega (arith, exists, c.queue.view_is)) c.index-was.ensures c.queue.view_is in
    let joins = subst (λ (q : Queue). JoinsLines inside.jobs q.waiting q.parked c.join_lines.new.jobs c.join_lines.result) (sym read) c.join_lines.ensures in
    let gone = subst (λ (q : Queue). Vacates (key_at (get inside.jobs) q.parked.head) q.parked.count inside.seats.items c.vacate.new.seats.items) (sym read) c.vacate.ensures in
    rw (c.queue.view_is, ← read, ← unparked_queues lines c.args.queue c.join_lines.result exists) (
      IsKept-unparked c.args.queue c.join_lines.result c.self.invariant.0 joins exists,
      rw (unparked_queues lines c.args.queue c.join_lines.result exists) (subst (λ count. HasOwnSlips count inside.slips.at.cap inside.slips.at.items) (sym (length-set lines c.args.queue _)) c.self.invariant.1),
      AreAtRest-unparked c.args.queue c.join_lines.result c.self.invariant.0 joins exists c.self.invariant.2,
      AreFound-unparked inside.names inside.seats.items c.args.queue c.join_lines.result c.vacate.new.seats.items c.self.invariant.0 joins exists gone c.self.invariant.3,
    )

pub returns : goal.returns
returns g c =
    let inside = c.self.inside in
    let lines = inside.lines.items in
    let was = c.index-was.result.now in
    let exists = exists-view inside.room inside.jobs lines (ap queues_alone c.self.view_is) c.requires.exists in
    let read = queue_read lines c.queue.inside.0 c.args.queue was (omega (arith, exists, c.queue.view_is)) c.index-was.ensures c.queue.view_is in
    let joins = subst (λ (q : Queue). JoinsLines inside.jobs q.waiting q.parked c.join_lines.new.jobs c.join_lines.result) (sym read) c.join_lines.ensures in
    rw (← c.self.view_is, c.queue.view_is, ← read, ← unparked_queues lines c.args.queue c.join_lines.result exists) (record {
      moves = Moves-unparked c.args.queue c.join_lines.result c.self.invariant.0 joins exists c.self.invariant.2;
      slips = refl;
      limits = IsWithinLimits-view (IsKept-unparked c.args.queue c.join_lines.result c.self.invariant.0 joins exists);
    })

pub vacate-requires : goal.vacate-requires
vacate-requires g c =
    let inside = c.self.inside in
    let lines = inside.lines.items in
    let was = c.index-was.result.now in
    let exists = exists-view inside.room inside.jobs lines (ap queues_alone c.self.view_is) c.requires.exists in
    let read = queue_read lines c.queue.inside.0 c.args.queue was (omega (arith, exists, c.queue.view_is)) c.index-was.ensures c.queue.view_is in
    record {
      chain = subst (λ (q : Queue). IsChain inside.jobs q.parked) read (c.self.invariant.0.linked.filled (parks c.args.queue));
      within = subst (λ (q : Queue). (place : ℕ) → place < q.parked.count → key_at (get inside.jobs) q.parked.head place < length inside.seats.items) read
          (λ place. found_within inside.names inside.seats.items (parks c.args.queue) place c.self.invariant.0 c.self.invariant.3);
    }
