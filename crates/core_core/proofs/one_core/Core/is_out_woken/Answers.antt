use Rattle.core_core.proofs.Names.{refl}
use Rattle.core_core.proofs.one_core.Core.is_out_woken.Goals as goal

pub returns : goal.returns
returns g c = rw (← c.self.view_is, c.in-Some.is) refl
