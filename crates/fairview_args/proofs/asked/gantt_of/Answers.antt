use Rattle.std.proofs.Common.{◌≡◌, Option}
use Rattle.clap.specs.Words.{Text}
use Rattle.fairview_args.specs.Asks.{Gantt}
use Rattle.fairview_args.proofs.asked.gantt_of.Goals as goal

drawn : (core core' from from' to to' : Option Text) → core ≡ core' → from ≡ from' → to ≡ to' → Gantt core from to ≡ Gantt core' from' to'
drawn core core' from from' to to' same_core same_from same_to = cc

pub returns : goal.returns
returns c = drawn _ _ _ _ _ _ c.word_of.ensures c.word_of-2.ensures c.word_of-3.ensures
