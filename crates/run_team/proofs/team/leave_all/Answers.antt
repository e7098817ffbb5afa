use Rattle.std.proofs.Common.{◌∙◌, refl}
use Rattle.std.specs.Vec.Iter.{into_iter_items, into_iter_len}
use Rattle.run_team.specs.Seats.{Leaves}
use Rattle.run_team.proofs.Lists.{made_first, made_more}
use Rattle.run_team.proofs.team.leave_all.Goals as goal

pub loop-seat-init : goal.loop-seat-init
loop-seat-init g c =
    let gives = c.into_iter-seat-iterator.ensures.into_iter_gives in (
      refl,
      made_first (Leaves g.W.Promised.keeps) c.args.seats.items (into_iter_items c.into_iter-seat-iterator.result) (into_iter_len c.into_iter-seat-iterator.result) c.args.lefts.items
          gives.0 (gives.1 ∙ c.args.seats.ok.0) c.requires.empty,
    )

pub loop-seat-preserved : goal.loop-seat-preserved
loop-seat-preserved g c =
    let loop = c.loop-seat in let steps = c.in-Some.ensures.steps in (
      c.push_reserved.ensures.capacity ∙ loop.invariant.0,
      rw c.push_reserved.ensures.items
          (made_more (Leaves g.W.Promised.keeps) c.args.seats.items (into_iter_items loop.seat-iterator) (into_iter_items c.next.new.self)
          (into_iter_len loop.seat-iterator) (into_iter_len c.next.new.self) loop.lefts.items c.in-Some.seat c.left_of.result loop.invariant.1 steps.0 steps.1
          c.left_of.ensures),
    )
