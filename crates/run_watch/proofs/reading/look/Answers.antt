use Rattle.std.proofs.Common.{ap, arith}
use Rattle.run_watch.proofs.WatcherSteps.{looks}
use Rattle.run_watch.proofs.reading.look.Goals as goal

pub load-requires : goal.load-requires
load-requires c = (c.requires.board.0, omega (arith, c.requires.board.1), looks _ _ _ _)

pub returns-clause-view : goal.returns-clause-view
returns-clause-view c = ap (λ m. m.0) c.load.ensures.2
