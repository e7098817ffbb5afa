use Rattle.base_words.proofs.RangesRefused.{ranges_refused}
use Rattle.base_words.proofs.refused.ranges.Goals as goal

pub returns : goal.returns
returns c = ranges_refused
