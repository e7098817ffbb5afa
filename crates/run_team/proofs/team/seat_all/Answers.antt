use Rattle.std.proofs.Common.{◌∙◌, refl}
use Rattle.std.specs.Vec.Iter.{into_iter_items, into_iter_len}
use Rattle.run_team.specs.Seats.{IsSeatOf}
use Rattle.run_team.proofs.Lists.{made_first, made_more}
use Rattle.run_team.proofs.team.seat_all.Goals as goal

pub loop-worker-init : goal.loop-worker-init
loop-worker-init g c =
    let gives = c.into_iter-worker-iterator.ensures.into_iter_gives in (
      refl,
      made_first (IsSeatOf g.W.Promised.keeps) c.args.workers.items (into_iter_items c.into_iter-worker-iterator.result) (into_iter_len c.into_iter-worker-iterator.result) c.args.seats.items
          gives.0 (gives.1 ∙ c.args.workers.ok.0) c.requires.empty,
    )

pub loop-worker-preserved : goal.loop-worker-preserved
loop-worker-preserved g c =
    let loop = c.loop-worker in let steps = c.in-Some.ensures.steps in (
      c.push_reserved.ensures.capacity ∙ loop.invariant.0,
      rw c.push_reserved.ensures.items
          (made_more (IsSeatOf g.W.Promised.keeps) c.args.workers.items (into_iter_items loop.worker-iterator) (into_iter_items c.next.new.self)
          (into_iter_len loop.worker-iterator) (into_iter_len c.next.new.self) loop.seats.items c.in-Some.worker c.seat_one.result loop.invariant.1 steps.0 steps.1
          c.seat_one.ensures),
    )
