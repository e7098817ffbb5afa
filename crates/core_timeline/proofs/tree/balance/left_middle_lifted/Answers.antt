use Rattle.std.proofs.Common.{◌≡◌, ◌+◌, max, sym, ap, ◌∙◌, subst, arith}
use Rattle.core_timeline.specs.declared.tree.Node.{Node}
use Rattle.core_timeline.specs.declared.tree.Link.TheVariants.{Top}
use Rattle.core_timeline.specs.Tree.{KeyTree, IsFilled}
use Rattle.core_timeline.specs.Nodes.{seen, Leans, IsBalanced}
use Rattle.core_timeline.proofs.Lifts.{keys-lifted_left}
use Rattle.core_timeline.proofs.tree.balance.left_middle_lifted.Given.{Over}
use Rattle.core_timeline.proofs.tree.balance.left_middle_lifted.Goals as goal
use Rattle.core_timeline.proofs.tree.balance.left_middle_lifted.Goals.{In-Top}

-- the node in the middle is what hung on the left side's right
middle_was : (g : Over) (c : In-Top g) → seen (Top c.in-Top.middle c.in-Top.middle_vr) ≡ c.args.left.value.right
middle_was g c = ap seen (sym c.in-Top.is) ∙ c.open.ensures.same_view ∙ c.take.ensures.whole ∙ ap (λ (node : Node g.row.A.Denot). node.right) c.deref_mut.ensures.value

-- the top's right side is as high as the higher side of the middle
right_high : (g : Over) (c : In-Top g) → c.args.top.value.right.height ≡ max c.in-Top.middle.value.left.height c.in-Top.middle.value.right.height
right_high g c =
    let here = ap (λ (tree : KeyTree). tree.height) (middle_was g c) in
    omega (arith, here, c.requires.two_higher)

pub middle_lifted-requires : goal.middle_lifted-requires
middle_lifted-requires g c =
    let left = c.args.left.value in
    let leans : left.right.height ≡ left.left.height + 1 = subst (λ lean. Leans lean left.left.height left.right.height) c.requires.leans c.requires.balanced.leans in
    let lent = ap (λ (node : Node g.row.A.Denot). node.left.height) c.deref_mut.ensures.value in
    let here = ap (λ (tree : KeyTree). tree.height) (middle_was g c) in
    record {
      balanced = subst IsBalanced c.in-Top.is c.open.ensures.balanced;
      left_free = c.take.ensures.none_left;
      right_free = c.requires.parted;
      left_filled = subst (λ (node : Node g.row.A.Denot). IsFilled node.left) (sym c.deref_mut.ensures.value) c.requires.balanced.left_filled;
      right_filled = subst (λ (node : Node g.row.A.Denot). IsFilled node.right) c.deref.ensures c.know_filled.ensures;
      left_high = omega (arith, leans, lent, here);
      right_high = right_high g c;
    }

pub returns : goal.returns
returns g c =
    let at = (goal.at.returns g c).In-Top in
    let lifted = c.middle_lifted.ensures in
    record {
      balanced = lifted.balanced;
      keys = keys-lifted_left c.deref_mut.result.now c.args.left.value c.in-Top.middle.value c.args.top.value c.args.left_vr c.in-Top.middle_vr c.args.top_vr (seen c.middle_lifted.result).keys
          c.deref_mut.ensures.value (ap (λ (tree : KeyTree). tree.keys) (middle_was g at)) lifted.keys;
      height = lifted.height ∙ ap (λ high. high + 2) (sym (right_high g at));
    }
