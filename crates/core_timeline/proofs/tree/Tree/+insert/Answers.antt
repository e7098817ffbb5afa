use Rattle.std.proofs.Common.{ℕ, arith, sym}
use Rattle.core_timeline.specs.Nodes.{key_of}
use Rattle.core_timeline.proofs.Steps.{stepped, shorter-side, rising-side, balanced-as_high, tilts-risen, upright-risen, IsInsertion, behind-at, keys-inserted, keys-risen}
use Rattle.core_timeline.proofs.tree.Tree.+insert.Given.{Over}
use Rattle.core_timeline.proofs.tree.Tree.+insert.Goals as goal
use Rattle.core_timeline.proofs.tree.Tree.+insert.Goals.{insert-After-insert_below-as_high, insert_below-After-insert_far_below-as_high, insert_far_below-After-insert-as_high, insert_close-After-insert-as_high}

-- insert: the key goes into the side that is lent
insertion-insert : (g : Over) (t : ℕ) (c : insert-After-insert_below-as_high g t) → IsInsertion c.args.self.now (key_of c.args.vr c.args.node.value) c.in-Top.vr c.deref_mut-top.result.now c.is_behind_apart-behind.result c.side_mut-side.result.now c.insert_below-as_high.new.self
insertion-insert g t c =
    let step = stepped c.self.inside.root c.in-Top.top c.in-Top.vr c.deref_mut-top.result.now c.args.self.now c.is_behind_apart-behind.result c.side_mut-side.result.now c.self.view_is c.self.invariant c.in-Top.is c.deref_mut-top.ensures.value c.side_mut-side.ensures.value in
    let behind = behind-at c.args.vr c.in-Top.vr c.is_behind_apart-behind.result c.deref.ensures c.deref-in-Top.ensures c.deref_mut-top.ensures.value c.is_behind_apart-behind.ensures in
    record { step = step; rising = c.requires.rising; behind = behind; keys = c.insert_below-as_high.ensures.keys }

pub insert-insert_below-as_high-requires : goal.insert-insert_below-as_high-requires
insert-insert_below-as_high-requires g t c κs within =
    let step = stepped c.self.inside.root c.in-Top.top c.in-Top.vr c.deref_mut-top.result.now c.args.self.now c.is_behind_apart-behind.result c.side_mut-side.result.now c.self.view_is c.self.invariant c.in-Top.is c.deref_mut-top.ensures.value c.side_mut-side.ensures.value in
    (omega (arith, shorter-side step), (within, (c.requires.loose, rising-side step c.requires.rising)))

pub insert-invariant_of-self-then-as_high : goal.insert-invariant_of-self-then-as_high
insert-invariant_of-self-then-as_high g t c =
    balanced-as_high c.insert_below-as_high.new.self (insertion-insert g t (goal.at.insert-invariant_of-self-then-as_high g t c).After-insert_below-as_high).step c.know_filled.ensures (sym (c.insert_below-as_high.ensures.as_high c.if-as_high.true))

pub insert-returns-then-as_high-clause-keys : goal.insert-returns-then-as_high-clause-keys
insert-returns-then-as_high-clause-keys g t c = keys-inserted (insertion-insert g t (goal.at.insert-returns-then-as_high-clause-keys g t c).After-insert_below-as_high)

pub insert-tilt-requires : goal.insert-tilt-requires
insert-tilt-requires g t c = tilts-risen c.insert_below-as_high.new.self c.in-Top.top (insertion-insert g t (goal.at.insert-tilt-requires g t c).After-insert_below-as_high).step (c.insert_below-as_high.ensures.higher c.if-as_high.false)

pub insert-returns-else-as_high : goal.insert-returns-else-as_high
insert-returns-else-as_high g t c =
    let inserts = insertion-insert g t (goal.at.insert-returns-else-as_high g t c).After-insert_below-as_high in
    let heights = upright-risen c.insert_below-as_high.new.self c.in-Top.top c.tilt.new.root c.tilt.result inserts.step (c.insert_below-as_high.ensures.higher c.if-as_high.false) c.tilt.ensures in
    record { keys = keys-risen c.in-Top.top c.tilt.new.root c.tilt.result inserts c.tilt.ensures; as_high = heights.as_high; higher = heights.higher }

-- insert_below: the key goes into the side that is lent
insertion-insert_below : (g : Over) (t : ℕ) (c : insert_below-After-insert_far_below-as_high g t) → IsInsertion c.args.self.now (key_of c.args.vr c.args.node.value) c.in-Top.vr c.deref_mut-top.result.now c.is_behind_apart-behind.result c.side_mut-side.result.now c.insert_far_below-as_high.new.self
insertion-insert_below g t c =
    let step = stepped c.self.inside.root c.in-Top.top c.in-Top.vr c.deref_mut-top.result.now c.args.self.now c.is_behind_apart-behind.result c.side_mut-side.result.now c.self.view_is c.self.invariant c.in-Top.is c.deref_mut-top.ensures.value c.side_mut-side.ensures.value in
    let behind = behind-at c.args.vr c.in-Top.vr c.is_behind_apart-behind.result c.deref.ensures c.deref-in-Top.ensures c.deref_mut-top.ensures.value c.is_behind_apart-behind.ensures in
    record { step = step; rising = c.requires.rising; behind = behind; keys = c.insert_far_below-as_high.ensures.keys }

pub insert_below-insert_far_below-as_high-requires : goal.insert_below-insert_far_below-as_high-requires
insert_below-insert_far_below-as_high-requires g t c κs within =
    let step = stepped c.self.inside.root c.in-Top.top c.in-Top.vr c.deref_mut-top.result.now c.args.self.now c.is_behind_apart-behind.result c.side_mut-side.result.now c.self.view_is c.self.invariant c.in-Top.is c.deref_mut-top.ensures.value c.side_mut-side.ensures.value in
    (omega (arith, shorter-side step), (within, (c.requires.loose, rising-side step c.requires.rising)))

pub insert_below-invariant_of-self-then-as_high : goal.insert_below-invariant_of-self-then-as_high
insert_below-invariant_of-self-then-as_high g t c =
    balanced-as_high c.insert_far_below-as_high.new.self (insertion-insert_below g t (goal.at.insert_below-invariant_of-self-then-as_high g t c).After-insert_far_below-as_high).step c.know_filled.ensures (sym (c.insert_far_below-as_high.ensures.as_high c.if-as_high.true))

pub insert_below-returns-then-as_high-clause-keys : goal.insert_below-returns-then-as_high-clause-keys
insert_below-returns-then-as_high-clause-keys g t c = keys-inserted (insertion-insert_below g t (goal.at.insert_below-returns-then-as_high-clause-keys g t c).After-insert_far_below-as_high)

pub insert_below-tilt-requires : goal.insert_below-tilt-requires
insert_below-tilt-requires g t c = tilts-risen c.insert_far_below-as_high.new.self c.in-Top.top (insertion-insert_below g t (goal.at.insert_below-tilt-requires g t c).After-insert_far_below-as_high).step (c.insert_far_below-as_high.ensures.higher c.if-as_high.false)

pub insert_below-returns-else-as_high : goal.insert_below-returns-else-as_high
insert_below-returns-else-as_high g t c =
    let inserts = insertion-insert_below g t (goal.at.insert_below-returns-else-as_high g t c).After-insert_far_below-as_high in
    let heights = upright-risen c.insert_far_below-as_high.new.self c.in-Top.top c.tilt.new.root c.tilt.result inserts.step (c.insert_far_below-as_high.ensures.higher c.if-as_high.false) c.tilt.ensures in
    record { keys = keys-risen c.in-Top.top c.tilt.new.root c.tilt.result inserts c.tilt.ensures; as_high = heights.as_high; higher = heights.higher }

-- insert_far_below: the key goes into the side that is lent
insertion-insert_far_below : (g : Over) (t : ℕ) (c : insert_far_below-After-insert-as_high g t) → IsInsertion c.args.self.now (key_of c.args.vr c.args.node.value) c.in-Top.vr c.deref_mut-top.result.now c.is_behind_apart-behind.result c.side_mut-side.result.now c.insert-as_high.new.self
insertion-insert_far_below g t c =
    let step = stepped c.self.inside.root c.in-Top.top c.in-Top.vr c.deref_mut-top.result.now c.args.self.now c.is_behind_apart-behind.result c.side_mut-side.result.now c.self.view_is c.self.invariant c.in-Top.is c.deref_mut-top.ensures.value c.side_mut-side.ensures.value in
    let behind = behind-at c.args.vr c.in-Top.vr c.is_behind_apart-behind.result c.deref.ensures c.deref-in-Top.ensures c.deref_mut-top.ensures.value c.is_behind_apart-behind.ensures in
    record { step = step; rising = c.requires.rising; behind = behind; keys = c.insert-as_high.ensures.keys }

pub insert_far_below-insert-as_high-requires : goal.insert_far_below-insert-as_high-requires
insert_far_below-insert-as_high-requires g t c κs within =
    let step = stepped c.self.inside.root c.in-Top.top c.in-Top.vr c.deref_mut-top.result.now c.args.self.now c.is_behind_apart-behind.result c.side_mut-side.result.now c.self.view_is c.self.invariant c.in-Top.is c.deref_mut-top.ensures.value c.side_mut-side.ensures.value in
    (omega (arith, shorter-side step), (within, (c.requires.loose, rising-side step c.requires.rising)))

pub insert_far_below-invariant_of-self-then-as_high : goal.insert_far_below-invariant_of-self-then-as_high
insert_far_below-invariant_of-self-then-as_high g t c =
    balanced-as_high c.insert-as_high.new.self (insertion-insert_far_below g t (goal.at.insert_far_below-invariant_of-self-then-as_high g t c).After-insert-as_high).step c.know_filled.ensures (sym (c.insert-as_high.ensures.as_high c.if-as_high.true))

pub insert_far_below-returns-then-as_high-clause-keys : goal.insert_far_below-returns-then-as_high-clause-keys
insert_far_below-returns-then-as_high-clause-keys g t c = keys-inserted (insertion-insert_far_below g t (goal.at.insert_far_below-returns-then-as_high-clause-keys g t c).After-insert-as_high)

pub insert_far_below-tilt-requires : goal.insert_far_below-tilt-requires
insert_far_below-tilt-requires g t c = tilts-risen c.insert-as_high.new.self c.in-Top.top (insertion-insert_far_below g t (goal.at.insert_far_below-tilt-requires g t c).After-insert-as_high).step (c.insert-as_high.ensures.higher c.if-as_high.false)

pub insert_far_below-returns-else-as_high : goal.insert_far_below-returns-else-as_high
insert_far_below-returns-else-as_high g t c =
    let inserts = insertion-insert_far_below g t (goal.at.insert_far_below-returns-else-as_high g t c).After-insert-as_high in
    let heights = upright-risen c.insert-as_high.new.self c.in-Top.top c.tilt.new.root c.tilt.result inserts.step (c.insert-as_high.ensures.higher c.if-as_high.false) c.tilt.ensures in
    record { keys = keys-risen c.in-Top.top c.tilt.new.root c.tilt.result inserts c.tilt.ensures; as_high = heights.as_high; higher = heights.higher }

-- insert_close: the key goes into the side that is lent
insertion-insert_close : (g : Over) (t : ℕ) (c : insert_close-After-insert-as_high g t) → IsInsertion c.args.self.now (key_of c.args.vr c.args.node.value) c.in-Top.vr c.deref_mut-top.result.now c.is_behind-behind.result c.side_mut-side.result.now c.insert-as_high.new.self
insertion-insert_close g t c =
    let step = stepped c.self.inside.root c.in-Top.top c.in-Top.vr c.deref_mut-top.result.now c.args.self.now c.is_behind-behind.result c.side_mut-side.result.now c.self.view_is c.self.invariant c.in-Top.is c.deref_mut-top.ensures.value c.side_mut-side.ensures.value in
    let behind = behind-at c.args.vr c.in-Top.vr c.is_behind-behind.result c.deref.ensures c.deref-in-Top.ensures c.deref_mut-top.ensures.value c.is_behind-behind.ensures in
    record { step = step; rising = c.requires.rising; behind = behind; keys = c.insert-as_high.ensures.keys }

pub insert_close-insert-as_high-requires : goal.insert_close-insert-as_high-requires
insert_close-insert-as_high-requires g t c κs within =
    let step = stepped c.self.inside.root c.in-Top.top c.in-Top.vr c.deref_mut-top.result.now c.args.self.now c.is_behind-behind.result c.side_mut-side.result.now c.self.view_is c.self.invariant c.in-Top.is c.deref_mut-top.ensures.value c.side_mut-side.ensures.value in
    (omega (arith, shorter-side step), (within, (c.requires.loose, rising-side step c.requires.rising)))

pub insert_close-invariant_of-self-then-as_high : goal.insert_close-invariant_of-self-then-as_high
insert_close-invariant_of-self-then-as_high g t c =
    balanced-as_high c.insert-as_high.new.self (insertion-insert_close g t (goal.at.insert_close-invariant_of-self-then-as_high g t c).After-insert-as_high).step c.know_filled.ensures (sym (c.insert-as_high.ensures.as_high c.if-as_high.true))

pub insert_close-returns-then-as_high-clause-keys : goal.insert_close-returns-then-as_high-clause-keys
insert_close-returns-then-as_high-clause-keys g t c = keys-inserted (insertion-insert_close g t (goal.at.insert_close-returns-then-as_high-clause-keys g t c).After-insert-as_high)

pub insert_close-tilt-requires : goal.insert_close-tilt-requires
insert_close-tilt-requires g t c = tilts-risen c.insert-as_high.new.self c.in-Top.top (insertion-insert_close g t (goal.at.insert_close-tilt-requires g t c).After-insert-as_high).step (c.insert-as_high.ensures.higher c.if-as_high.false)

pub insert_close-returns-else-as_high : goal.insert_close-returns-else-as_high
insert_close-returns-else-as_high g t c =
    let inserts = insertion-insert_close g t (goal.at.insert_close-returns-else-as_high g t c).After-insert-as_high in
    let heights = upright-risen c.insert-as_high.new.self c.in-Top.top c.tilt.new.root c.tilt.result inserts.step (c.insert-as_high.ensures.higher c.if-as_high.false) c.tilt.ensures in
    record { keys = keys-risen c.in-Top.top c.tilt.new.root c.tilt.result inserts c.tilt.ensures; as_high = heights.as_high; higher = heights.higher }
