use Rattle.std.proofs.Common.{ℕ, false, refl, arith}
use Rattle.core_timeline.proofs.Steps.{IsStep, stepped, shorter-side, upright-fallen, keys-first}
use Rattle.core_timeline.proofs.tree.Tree.+take_first.Given.{Over}
use Rattle.core_timeline.proofs.tree.Tree.+take_first.Goals as goal
use Rattle.core_timeline.proofs.tree.Tree.+take_first.Goals.{take_first-After-deref_mut-top, take_first_below-After-deref_mut-top, take_first_far_below-After-deref_mut-top}

-- take_first: the left side is lent
step-take_first : (g : Over) (t : ℕ) (c : take_first-After-deref_mut-top g t) → IsStep c.args.self.now c.in-Top.field-1 c.deref_mut-top.result.now false c.deref_mut-top.result.now.left
step-take_first g t c = stepped c.self.inside.root c.in-Top.top c.in-Top.field-1 c.deref_mut-top.result.now c.args.self.now false c.deref_mut-top.result.now.left c.self.view_is c.self.invariant c.in-Top.is c.deref_mut-top.ensures.value refl

pub take_first-take_first_below-first-requires : goal.take_first-take_first_below-first-requires
take_first-take_first_below-first-requires g t c κs within =
    (omega (arith, shorter-side (step-take_first g t (goal.at.take_first-take_first_below-first-requires g t c).After-deref_mut-top)), (within, c.is_empty.ensures.some c.if-is_empty.false))

pub take_first-returns : goal.take_first-returns
take_first-returns g t c =
    let step = step-take_first g t (goal.at.take_first-returns g t c).After-deref_mut-top in
    let heights = upright-fallen c.take_first_below-first.new.self c.in-Top.top c.tilt.new.root c.tilt.result step (c.take_first_below-first.ensures.lower c.if-not-lower.false) c.tilt.ensures in
    record { first = keys-first _ c.take_first_below-first.new.self c.tilt.new.root step c.take_first_below-first.ensures.first c.tilt.ensures.1; loose = c.take_first_below-first.ensures.loose; lower = heights.lower; as_high = heights.as_high }

-- take_first_below: the left side is lent
step-take_first_below : (g : Over) (t : ℕ) (c : take_first_below-After-deref_mut-top g t) → IsStep c.args.self.now c.in-Top.field-1 c.deref_mut-top.result.now false c.deref_mut-top.result.now.left
step-take_first_below g t c = stepped c.self.inside.root c.in-Top.top c.in-Top.field-1 c.deref_mut-top.result.now c.args.self.now false c.deref_mut-top.result.now.left c.self.view_is c.self.invariant c.in-Top.is c.deref_mut-top.ensures.value refl

pub take_first_below-take_first_far_below-first-requires : goal.take_first_below-take_first_far_below-first-requires
take_first_below-take_first_far_below-first-requires g t c κs within =
    (omega (arith, shorter-side (step-take_first_below g t (goal.at.take_first_below-take_first_far_below-first-requires g t c).After-deref_mut-top)), (within, c.is_empty.ensures.some c.if-is_empty.false))

pub take_first_below-returns : goal.take_first_below-returns
take_first_below-returns g t c =
    let step = step-take_first_below g t (goal.at.take_first_below-returns g t c).After-deref_mut-top in
    let heights = upright-fallen c.take_first_far_below-first.new.self c.in-Top.top c.tilt.new.root c.tilt.result step (c.take_first_far_below-first.ensures.lower c.if-not-lower.false) c.tilt.ensures in
    record { first = keys-first _ c.take_first_far_below-first.new.self c.tilt.new.root step c.take_first_far_below-first.ensures.first c.tilt.ensures.1; loose = c.take_first_far_below-first.ensures.loose; lower = heights.lower; as_high = heights.as_high }

-- take_first_far_below: the left side is lent
step-take_first_far_below : (g : Over) (t : ℕ) (c : take_first_far_below-After-deref_mut-top g t) → IsStep c.args.self.now c.in-Top.field-1 c.deref_mut-top.result.now false c.deref_mut-top.result.now.left
step-take_first_far_below g t c = stepped c.self.inside.root c.in-Top.top c.in-Top.field-1 c.deref_mut-top.result.now c.args.self.now false c.deref_mut-top.result.now.left c.self.view_is c.self.invariant c.in-Top.is c.deref_mut-top.ensures.value refl

pub take_first_far_below-take_first-first-requires : goal.take_first_far_below-take_first-first-requires
take_first_far_below-take_first-first-requires g t c κs within =
    (omega (arith, shorter-side (step-take_first_far_below g t (goal.at.take_first_far_below-take_first-first-requires g t c).After-deref_mut-top)), (within, c.is_empty.ensures.some c.if-is_empty.false))

pub take_first_far_below-returns : goal.take_first_far_below-returns
take_first_far_below-returns g t c =
    let step = step-take_first_far_below g t (goal.at.take_first_far_below-returns g t c).After-deref_mut-top in
    let heights = upright-fallen c.take_first-first.new.self c.in-Top.top c.tilt.new.root c.tilt.result step (c.take_first-first.ensures.lower c.if-not-lower.false) c.tilt.ensures in
    record { first = keys-first _ c.take_first-first.new.self c.tilt.new.root step c.take_first-first.ensures.first c.tilt.ensures.1; loose = c.take_first-first.ensures.loose; lower = heights.lower; as_high = heights.as_high }
