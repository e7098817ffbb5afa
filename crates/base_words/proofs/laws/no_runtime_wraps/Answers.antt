use Rattle.base_words.proofs.RuntimeBound.{no_runtime_wraps}
use Rattle.base_words.proofs.laws.no_runtime_wraps.Goals as goal

pub returns : goal.returns
returns c = no_runtime_wraps
