use Rattle.std.proofs.Common.{◌∙◌}
use Rattle.core_timeline.proofs.tree.balance.take.Goals as goal

pub returns : goal.returns
returns g c = record { whole = c.replace.ensures.value; none_left = c.replace.ensures.after ∙ c.new.ensures }
