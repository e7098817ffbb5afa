use Rattle.judge_view.proofs.PercentileLemmas.{percentile_there}
use Rattle.judge_view.proofs.percentiles.percentile.Goals as goal

pub returns : goal.returns
returns c = percentile_there c.args.thousandths c.args.rising.now c.requires.some c.requires.rising c.requires.positive c.requires.bounded
