use Rattle.std.proofs.Common.{◌++◌, ap, ◌∙◌}
use Rattle.std.specs.Prelude.{flat_map}
use Rattle.std.proofs.lemmas.Result.{on_ok_weaker}
use Rattle.fairview_lag.specs.PairWalks.{lags_of}
use Rattle.fairview_lag.proofs.PairSteps.{told_all}
use Rattle.fairview_lag.proofs.core_lags.CoreLags.push_pairs.Goals as goal

pub returns-clause-all : goal.returns-clause-all
returns-clause-all c =
    on_ok_weaker c.push_all.result
    (
    λ puts burst journal knows.
    let told = ap (flat_map (lags_of c.args.core)) (c.deref.ensures.value ∙ knows.pairs) ∙ told_all burst c.args.core journal in
    puts ∙ ap (λ items. c.args.pairs.now.items ++ items) told
    )
    c.push_all.ensures.all
