use Rattle.std.proofs.Common.{ap, ◌∙◌, arith}
use Rattle.base_words.proofs.Prefixes.{IsPrefix-along, IsPrefix-self}
use Rattle.fairview_lag.specs.PairWalks.{pairs_known}
use Rattle.fairview_lag.proofs.PairSteps.{queue_more}
use Rattle.fairview_lag.proofs.core_lags.push_idle.Goals as goal

pub loop-second-init : goal.loop-second-init
loop-second-init c = record { within = omega arith; known = λ burst before count known. known; front = IsPrefix-self c.args.pairs.now.items }

pub loop-second-preserved : goal.loop-second-preserved
loop-second-preserved c = record {
  within = omega arith;
  known =
      λ burst before count known.
      queue_more burst c.loop-second.second before c.loop-second.pairs.items c.push_idle_with.new.pairs.items (omega (arith, count))
      (c.loop-second.invariant.known burst before count known) c.in_ok-push_idle_with.ensures.all;
  front = IsPrefix-along _ _ _ c.loop-second.invariant.front c.push_idle_with.ensures.front;
}

pub returns-clause-all : goal.returns-clause-all
returns-clause-all c =
    λ burst before count known.
    c.loop-second.invariant.known burst before count known ∙ ap (λ many. pairs_known burst many before) (omega (arith, c.loop-second.invariant.within))

pub returns-in_err-push_idle_with-clause-front : goal.returns-in_err-push_idle_with-clause-front
returns-in_err-push_idle_with-clause-front c = IsPrefix-along _ _ _ c.loop-second.invariant.front c.push_idle_with.ensures.front
