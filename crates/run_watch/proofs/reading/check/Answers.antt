use Rattle.std.proofs.Common.{arith}
use Rattle.run_watch.proofs.WatcherSteps.{checks}
use Rattle.run_watch.proofs.reading.check.Goals as goal

pub load-requires : goal.load-requires
load-requires c = (c.requires.board.0, omega (arith, c.requires.board.1), checks _ _ _ _ c.requires.knows c.requires.whole)

pub returns-clause-checks : goal.returns-clause-checks
returns-clause-checks c = c.load.ensures.2
