use Rattle.std.proofs.Common.{min, ap, ◌+◌}
use Rattle.note_facts.specs.Limits.{greatest_count}
use Rattle.note_facts.proofs.Repeats.{get_or-replicate}
use Rattle.note_facts.proofs.endings.Endings.new.Goals as goal

pub returns : goal.returns
returns c = λ queue. ap (λ own. min (own + 0) greatest_count) (get_or-replicate 256 queue 0)
