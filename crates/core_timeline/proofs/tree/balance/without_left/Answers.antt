use Rattle.std.proofs.Common.{◌≡◌, sym, ap, ◌∙◌, subst}
use Rattle.core_timeline.specs.Nodes.{seen, HasOnlyRight, IsBalanced}
use Rattle.core_timeline.proofs.Lifts.{without_left}
use Rattle.core_timeline.proofs.tree.balance.without_left.Goals as goal

pub unreachable-requires : goal.unreachable-requires
unreachable-requires g c = subst HasOnlyRight (sym c.replace.ensures.value ∙ c.in-Empty.is) c.requires.none_left

pub returns : goal.returns
returns g c =
    let root = c.replace-in-Top.new.dest in
    let view : seen root ≡ c.deref_mut.result.now.right = ap seen c.replace-in-Top.ensures.after ∙ c.open.ensures.same_view ∙ c.take.ensures.whole in
    let taken = without_left c.args.root.now c.replace.result c.in-Top.top c.in-Top.top_vr c.deref_mut.result.now root c.replace.ensures.value c.in-Top.is c.requires.none_left c.deref_mut.ensures.value view in
    record {
      balanced = subst IsBalanced (sym c.replace-in-Top.ensures.after) c.open.ensures.balanced;
      first = taken.keys;
      loose = (taken.free, c.take.ensures.none_left);
      one_lower = taken.lower;
    }
