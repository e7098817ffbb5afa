use Rattle.std.proofs.Common.{subst}
use Rattle.core_timeline.specs.Tree.{IsFilled}
use Rattle.core_timeline.proofs.Heights.{IsFilled-seen}
use Rattle.core_timeline.proofs.tree.Tree.know_filled.Goals as goal

pub returns : goal.returns
returns g c = subst IsFilled c.self.view_is (IsFilled-seen c.self.inside.root c.self.invariant)
