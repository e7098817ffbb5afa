use Rattle.actor_caller.proofs.OrdersBack.{refused_come_back}
use Rattle.actor_caller.proofs.laws.refused_orders_come_back.Goals as goal

pub returns : goal.returns
returns g c = refused_come_back
