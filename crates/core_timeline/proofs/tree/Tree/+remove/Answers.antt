use Rattle.std.proofs.Common.{ℕ, is_some, false, refl, sym, ap, ◌∙◌, subst, arith}
use Rattle.std.proofs.lemmas.Bool.{both_ways}
use Rattle.core_timeline.specs.declared.tree.Node.{Node}
use Rattle.core_timeline.specs.Nodes.{IsInBalance}
use Rattle.core_timeline.proofs.Steps.{tree_of, stepped, shorter-side, rising-side, balanced-as_high, height-as_high, tilts-fallen, upright-fallen, IsSearch, points-behind, points-before, points-at, has_key-side, keys-removed, keys-fallen, with_side-same}
use Rattle.core_timeline.proofs.tree.Tree.+remove.Given.{Over}
use Rattle.core_timeline.proofs.tree.Tree.+remove.Goals as goal
use Rattle.core_timeline.proofs.tree.Tree.+remove.Goals.{After-remove, then-behind-via-then-behind, then-behind-via-else-behind+then-is_before}

-- the key is looked for on the side that is lent
searched : (g : Over) (t : ℕ) (c : After-remove g t) → IsSearch c.args.self.now c.args.key.now c.in-Top.vr c.deref_mut-top.result.now c.is_before-behind.result c.side_mut-side.result.now
searched g t c =
    record {
      step = stepped c.self.inside.root c.in-Top.top c.in-Top.vr c.deref_mut-top.result.now c.args.self.now c.is_before-behind.result c.side_mut-side.result.now c.self.view_is c.self.invariant c.in-Top.is c.deref_mut-top.ensures.value c.side_mut-side.ensures.value;
      rising = c.requires;
      points = points-at c.in-Top.vr c.is_before-behind.result c.key-here.result c.args.key.now c.deref.result.now c.in-Top.top.value c.deref_mut-top.result.now (
          elim c.then-behind.branch [
            | then-behind-via-then-behind w ↦ points-behind c.is_before-behind.result c.key-here.result c.args.key.now c.is_before-behind.ensures w.if-behind.true
            | then-behind-via-else-behind+then-is_before w ↦ points-before c.is_before-behind.result w.is_before.result c.key-here.result c.args.key.now w.if-behind.false w.is_before.ensures w.if-is_before.true
          ]
          ) c.key-here.ensures c.deref.ensures c.deref_mut-top.ensures.value;
    }

pub remove-requires : goal.remove-requires
remove-requires g t c κs within =
    let step = stepped c.self.inside.root c.in-Top.top c.in-Top.vr c.deref_mut-top.result.now c.args.self.now c.is_before-behind.result c.side_mut-side.result.now c.self.view_is c.self.invariant c.in-Top.is c.deref_mut-top.ensures.value c.side_mut-side.ensures.value in
    (omega (arith, shorter-side step), (within, rising-side step c.requires))

pub invariant_of-self : goal.invariant_of-self
invariant_of-self g t c =
    let step = (searched g t (goal.at.invariant_of-self g t c).After-remove).step in
    subst (λ (node : Node g.row.A.Denot). IsInBalance node.left node.right node.lean) (with_side-same c.remove.new.self step c.in_err-node.ensures.unchanged) step.balanced

pub returns-in_err-node-clause-found : goal.returns-in_err-node-clause-found
returns-in_err-node-clause-found g t c = ap is_some c.from_residual.ensures ∙ c.in_err-node.ensures.found ∙ has_key-side (searched g t (goal.at.returns-in_err-node-clause-found g t c).After-remove)

pub returns-in_err-node-clause-unchanged : goal.returns-in_err-node-clause-unchanged
returns-in_err-node-clause-unchanged g t c =
    let step = (searched g t (goal.at.returns-in_err-node-clause-unchanged g t c).After-remove).step in
    rw c.from_residual.ensures (sym (step.whole ∙ ap (tree_of c.in-Top.vr) (with_side-same c.remove.new.self step c.in_err-node.ensures.unchanged)))

pub returns-in_err-node-clause-keys : goal.returns-in_err-node-clause-keys
returns-in_err-node-clause-keys g t c = keys-removed c.remove.new.self (searched g t (goal.at.returns-in_err-node-clause-keys g t c).After-remove) c.in_err-node.ensures.keys

pub invariant_of-self-then-not-lower : goal.invariant_of-self-then-not-lower
invariant_of-self-then-not-lower g t c =
    balanced-as_high c.remove.new.self (searched g t (goal.at.invariant_of-self-then-not-lower g t c).After-remove).step c.know_filled.ensures (c.in_ok-node.ensures.as_high c.if-not-lower.true)

pub returns-then-not-lower : goal.returns-then-not-lower
returns-then-not-lower g t c =
    let looks = searched g t (goal.at.returns-then-not-lower g t c).After-remove in
    let ok = c.in_ok-node.ensures in
    let keys = keys-removed c.remove.new.self looks ok.keys in
    let as_high = height-as_high c.remove.new.self looks.step (ok.as_high c.if-not-lower.true) in
    record { found = ok.found ∙ has_key-side looks; unchanged = tt; keys = keys; same_queue = ok.same_queue; loose = ok.loose; lower = λ e. absurd (both_ways false refl e); as_high = λ _. as_high }

pub tilt-requires : goal.tilt-requires
tilt-requires g t c = tilts-fallen c.remove.new.self c.in-Top.top (searched g t (goal.at.tilt-requires g t c).After-remove).step (c.in_ok-node.ensures.lower c.if-not-lower.false)

pub returns-then-behind : goal.returns-then-behind
returns-then-behind g t c =
    let looks = searched g t (goal.at.returns-then-behind g t c).After-remove in
    let ok = c.in_ok-node.ensures in
    let keys = keys-fallen c.remove.new.self c.in-Top.top c.tilt.new.root c.tilt.result looks ok.keys c.tilt.ensures in
    let heights = upright-fallen c.remove.new.self c.in-Top.top c.tilt.new.root c.tilt.result looks.step (ok.lower c.if-not-lower.false) c.tilt.ensures in
    record { found = ok.found ∙ has_key-side looks; unchanged = tt; keys = keys; same_queue = ok.same_queue; loose = ok.loose; lower = heights.lower; as_high = heights.as_high }
