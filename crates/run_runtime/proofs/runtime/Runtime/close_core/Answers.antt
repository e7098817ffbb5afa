use Rattle.std.proofs.Common.{subst}
use Rattle.base_words.specs.declared.order.Order.TheVariants.{CloseCore}
use Rattle.actor_caller.specs.Sends.{SubmitsTo}
use Rattle.run_runtime.proofs.runtime.Runtime.close_core.Goals as goal

pub returns : goal.returns
returns g c = subst (λ view. SubmitsTo 0 c.args.core (CloseCore c.args.mode) view c.close_core.result c.close_core.new.self) c.self.view_is c.close_core.ensures
