use Rattle.std.proofs.Common.{ap, arith}
use Rattle.run_watch.proofs.PublisherSteps.{begins}
use Rattle.run_watch.proofs.writing.begin.Goals as goal

pub store-requires : goal.store-requires
store-requires c = (c.requires.board.0, omega (arith, c.requires.board.1), begins _ _ _ _ c.requires.publishes _ c.requires.next)

pub returns-clause-view : goal.returns-clause-view
returns-clause-view c = ap (λ m. m.0) c.store.ensures.2
