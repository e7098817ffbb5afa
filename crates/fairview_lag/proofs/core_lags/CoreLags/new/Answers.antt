use Rattle.std.proofs.Common.{ℕ, refl, [], ◌∙◌}
use Rattle.fairview_lag.proofs.PairSteps.{none_known}
use Rattle.fairview_lag.proofs.core_lags.CoreLags.new.Goals as goal

pub returns : goal.returns
returns c = record { standing = c.new.ensures; count = refl; pairs = c.new-2.ensures.items ∙ none_known {T = ℕ} c.args.burst [] }
