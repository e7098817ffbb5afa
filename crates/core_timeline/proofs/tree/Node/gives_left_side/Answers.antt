use Rattle.std.proofs.Common.{◌≡◌, ◌+◌, false, refl, subst, arith}
use Rattle.std.proofs.lemmas.Bool.{both_ways}
use Rattle.core_timeline.specs.Nodes.{Leans}
use Rattle.core_timeline.proofs.tree.Node.gives_left_side.Goals as goal

pub returns-in-Left : goal.returns-in-Left
returns-in-Left g c =
    let node = c.args.self.now in
    let leans : node.left.height ≡ node.right.height + 1 = subst (λ lean. Leans lean node.left.height node.right.height) c.in-Left.is c.requires.balanced.leans in
    record {
      few = λ e. absurd (both_ways false refl e);
      low = λ e. absurd (both_ways false refl e);
      some = λ _. omega (arith, leans);
    }
