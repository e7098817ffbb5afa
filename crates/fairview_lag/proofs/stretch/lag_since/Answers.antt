use Rattle.std.proofs.Common.{◌-◌, ◌+◌, ◌∙◌}
use Rattle.fairview_lag.proofs.StretchSteps.{gained_is}
use Rattle.fairview_lag.proofs.stretch.lag_since.Goals as goal

pub returns : goal.returns
returns c =
    λ burst journal knows is.
    let one = c.tally-one.ensures burst journal knows in
    let other = c.tally-other.ensures burst journal knows in
    let first = c.saturating_sub.ensures ∙ (λ i. (one i).charged - (is i).first) ∙ gained_is burst c.args.first c.args.second c.args.first journal in
    let second = c.saturating_sub-2.ensures ∙ (λ i. (other i).charged - (is i).second) ∙ gained_is burst c.args.first c.args.second c.args.second journal in
    let turn = c.turns.ensures burst journal knows in
    λ i. record { turn = turn i; first = first i; second = second i; bound = (one i).greatest + (other i).greatest }
