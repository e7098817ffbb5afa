use Rattle.run_worker.proofs.Names.{inr, refl}
use Rattle.run_worker.proofs.Due.{timer_lost, vacant_lacks}
use Rattle.run_worker.proofs.sleeping.lose.Goals as goal

pub returns-then-is_empty : goal.returns-then-is_empty
returns-then-is_empty g = inr (vacant_lacks g.args.timers.now g.args.name.now (g.is_empty.ensures.0 g.if-is_empty.true), refl)

pub returns : goal.returns
returns g = timer_lost _ _ g.args.name.now g.forget.result g.forget.ensures.forgot g.forget.ensures.none g.forget.ensures.unchanged
