use Rattle.base_words.specs.declared.order.Mode.TheVariants.{Finish}
use Rattle.base_words.specs.declared.order.Order.TheVariants.{CloseCore}
use Rattle.fairexec_threads.proofs.Sending.{offered}
use Rattle.fairexec_threads.proofs.calls.close.Goals as goal
use Rattle.std.proofs.Common.{arith}

pub returns : goal.returns
returns c = offered 0 c.args.core (CloseCore Finish) tt c.args.house.now c.close_core-answer.result c.close_core-answer.new.self (omega arith) c.requires.there c.requires.place c.close_core-answer.ensures
