use Rattle.std.proofs.Common.{get_or, replicate}
use Rattle.base_words.proofs.Tables.{all_alike}
use Rattle.judge_view.specs.Watches.{no_watch}
use Rattle.judge_view.proofs.WatchSteps.{none_watched}
use Rattle.judge_view.proofs.watches.Watches.new.Goals as goal

pub returns : goal.returns
returns c = record {
  parks = c.new.ensures;
  accounts = c.new-2.ensures 1;
  tallies = c.new-3.ensures 1;
  each =
      λ queue less.
      none_watched queue (get_or (replicate 256 c.new-4.result) queue no_watch) (all_alike 256 queue c.new-4.result no_watch c.new-4.ensures);
}
