use Rattle.std.proofs.Common.{◌≡◌, sym, ap, ◌∙◌, subst}
use Rattle.core_timeline.specs.declared.tree.Node.{Node}
use Rattle.core_timeline.specs.Nodes.{seen, IsLowOnLeft, IsBalanced}
use Rattle.core_timeline.proofs.Lifts.{without_side}
use Rattle.core_timeline.proofs.tree.some.without_left_side.Goals as goal

pub unreachable-requires : goal.unreachable-requires
unreachable-requires g c = subst IsLowOnLeft (sym c.replace.ensures.value ∙ c.in-Empty.is) c.requires.low

pub returns : goal.returns
returns g c =
    let root = c.replace-in-Top.new.dest in
    let then = c.deref_mut-in-Top.result.now in
    let view : seen root ≡ then.right = ap seen c.replace-in-Top.ensures.after ∙ c.open.ensures.same_view ∙ c.take.ensures.whole in
    let taken = without_side c.args.root.now c.replace.result c.in-Top.top c.in-Top.top_vr c.deref_mut.result.now c.take-side.result c.take-side.new.place then root
    c.replace.ensures.value c.in-Top.is c.requires.balanced c.requires.low c.deref_mut.ensures.value c.take-side.ensures.whole c.deref_mut-in-Top.ensures.value view in
    record {
      balanced = subst IsBalanced (sym c.replace-in-Top.ensures.after) c.open.ensures.balanced;
      first = taken.keys;
      filled = taken.filled;
      loose = (ap (λ (node : Node g.row.A.Denot). node.left) c.deref_mut-in-Top.ensures.value ∙ c.take-side.ensures.none_left, c.take.ensures.none_left);
      low = taken.low;
      one_lower = taken.lower;
    }
