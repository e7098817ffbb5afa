use Rattle.std.proofs.Common.{◌+◌, ◌∙◌, refl, arith}
use Rattle.core_timeline.proofs.FrontPlaces.{gap-end}
use Rattle.core_timeline.proofs.FrontSteps.{gap-lower}
use Rattle.core_timeline.proofs.front.places.Places.close_gap.Goals as goal

pub loop-at-preserved : goal.loop-at-preserved
loop-at-preserved g c =
    let old = c.loop-at.self in
    let step = gap-lower old.vrs.items old.nodes.items old.begin c.loop-at.at (c.loop-at.at + 1) _ c.loop-at.invariant.0 refl (omega arith) in
    rw (c.shift.ensures.vrs, c.shift.ensures.nodes, c.shift.ensures.begin) (step.0, step.1 ∙ c.loop-at.invariant.1)

pub returns-clause-front : goal.returns-clause-front
returns-clause-front g c =
    let new = c.loop-at.self in
    gap-end new.vrs.items new.nodes.items new.begin c.loop-at.at _ c.loop-at.invariant.0 (omega arith)

pub returns-clause-keys : goal.returns-clause-keys
returns-clause-keys g c = c.loop-at.invariant.1
