use Rattle.base_words.specs.Filters.{name_started, name_finished}
use Rattle.judge_view.specs.Waits.{name_taken}
use Rattle.judge_view.proofs.waits.JobWalk.new.Goals as goal

pub returns : goal.returns
returns c = record {
  clock = c.new.ensures;
  waits = c.new-2.ensures name_taken name_started;
  runs = c.new-3.ensures name_started name_finished;
}
