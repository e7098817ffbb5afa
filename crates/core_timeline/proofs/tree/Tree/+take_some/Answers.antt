use Rattle.std.proofs.Common.{ℕ, ◌≤◌, false, refl, ap, arith}
use Rattle.core_timeline.specs.Tree.{KeyTree}
use Rattle.core_timeline.proofs.Heights.{length-some, length-few}
use Rattle.core_timeline.proofs.Steps.{IsStep, stepped, shorter-side, upright-fallen}
use Rattle.core_timeline.proofs.tree.Tree.+take_some.Given.{Over}
use Rattle.core_timeline.proofs.tree.Tree.+take_some.Goals as goal
use Rattle.core_timeline.proofs.tree.Tree.+take_some.Goals.{After-deref_mut-top}

-- the left side is lent
step-take_some : (g : Over) (t : ℕ) (c : After-deref_mut-top g t) → IsStep c.args.self.now c.in-Top.field-1 c.deref_mut-top.result.now false c.deref_mut-top.result.now.left
step-take_some g t c = stepped c.self.inside.root c.in-Top.top c.in-Top.field-1 c.deref_mut-top.result.now c.args.self.now false c.deref_mut-top.result.now.left c.self.view_is c.self.invariant c.in-Top.is c.deref_mut-top.ensures.value refl

pub take_some-side-requires : goal.take_some-side-requires
take_some-side-requires g t c κs within =
    let step = step-take_some g t (goal.at.take_some-side-requires g t c).After-deref_mut-top in
    let some = length-some c.deref_mut-top.result.now.left step.balanced.left_filled (c.gives_left_side.ensures.some c.if-gives_left_side.false) in
    (omega (arith, shorter-side step), (within, (some, c.left_height-below.ensures)))

pub returns-then-gives_left_side-clause-few : goal.returns-then-gives_left_side-clause-few
returns-then-gives_left_side-clause-few g t c =
    let step = step-take_some g t (goal.at.returns-then-gives_left_side-clause-few g t c).After-deref_mut-top in
    let here = ap (λ (t : KeyTree). t.height) step.whole in
    let low : c.args.height ≤ 6 = c.gives_left_side.ensures.few c.if-gives_left_side.true in
    let cut = c.without_left_side-side.ensures in
    length-few c.without_left_side-side.result.0 cut.filled (omega (arith, cut.low, cut.one_lower))

pub returns-clause-lower : goal.returns-clause-lower
returns-clause-lower g t c =
    let step = step-take_some g t (goal.at.returns-clause-lower g t c).After-deref_mut-top in
    (upright-fallen c.take_some-side.new.self c.in-Top.top c.tilt.new.root c.tilt.result step (c.take_some-side.ensures.lower c.if-not-lower.false) c.tilt.ensures).lower
