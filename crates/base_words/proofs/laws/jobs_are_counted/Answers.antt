use Rattle.base_words.proofs.Counts.{counts_agree}
use Rattle.base_words.proofs.laws.jobs_are_counted.Goals as goal

pub returns : goal.returns
returns c = counts_agree
