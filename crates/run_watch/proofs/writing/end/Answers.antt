use Rattle.std.proofs.Common.{ap, refl, arith}
use Rattle.run_watch.proofs.PublisherSteps.{ends}
use Rattle.run_watch.proofs.writing.end.Goals as goal

pub compare_exchange_with-before-requires : goal.compare_exchange_with-before-requires
compare_exchange_with-before-requires c =
    let next = c.requires.begun.0 in (
      c.requires.board.0,
      omega (arith, c.requires.board.1),
      ends _ _ _ _ c.requires.publishes.0 _ _ _ c.requires.publishes.1 (omega (arith, next)) (omega (arith, next)) c.requires.begun.1 c.requires.grows c.requires.tells c.requires.closed,
    )

pub returns-clause-view : goal.returns-clause-view
returns-clause-view c = ap (λ m. m.0) (c.compare_exchange_with-before.ensures.2 _ refl)
