use Rattle.std.proofs.Common.{◌∷◌, ◌++◌, [], ap, ◌∙◌}
use Rattle.fairview_marks.proofs.Lists.{before_all, after_one}
use Rattle.fairview_lag.specs.PairWalks.{idle}
use Rattle.fairview_lag.specs.declared.pair_walk.PairWalk.{PairWalk}
use Rattle.fairview_lag.proofs.core_lags.push_idle_with.Goals as goal

pub loop-first-init : goal.loop-first-init
loop-first-init c = before_all (λ first. idle (first, c.args.second) ∷ []) c.args.pairs.now.items

pub loop-first-preserved : goal.loop-first-preserved
loop-first-preserved c =
    after_one (λ first. idle (first, c.args.second) ∷ []) c.loop-first.first c.args.pairs.now.items c.loop-first.pairs.items c.push.new.self.items c.loop-first.invariant
    (c.in_ok-push.ensures.items ∙ ap (λ (pair : PairWalk). c.loop-first.pairs.items ++ pair ∷ []) c.new.ensures)

pub returns-in_err-push-clause-front : goal.returns-in_err-push-clause-front
returns-in_err-push-clause-front c = (_, c.in_err-push.ensures.items ∙ c.loop-first.invariant)

pub returns-clause-front : goal.returns-clause-front
returns-clause-front c = (_, c.loop-first.invariant)
