use Rattle.std.proofs.Common.{get_or, replicate}
use Rattle.note_stats.specs.Tallies.{no_tally}
use Rattle.base_words.proofs.Tables.{all_alike}
use Rattle.note_stats.proofs.TallySteps.{none_knows}
use Rattle.note_stats.proofs.tally.Tallies.new.Goals as goal

pub returns : goal.returns
returns c =
    λ burst queue.
    none_knows burst queue (get_or (replicate 256 c.new.result) queue no_tally) (all_alike 256 queue c.new.result no_tally c.new.ensures)
