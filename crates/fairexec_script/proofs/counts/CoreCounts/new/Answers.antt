use Rattle.fairexec_script.proofs.LimitLemmas.{none_named}
use Rattle.fairexec_script.proofs.counts.CoreCounts.new.Goals as goal

pub returns : goal.returns
returns c = λ core. none_named 256 core
