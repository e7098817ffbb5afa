use Rattle.base_words.proofs.OrderRefused.{order_refused}
use Rattle.base_words.proofs.refused.order.Goals as goal

pub returns : goal.returns
returns c = order_refused
