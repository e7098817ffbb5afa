use Rattle.std.proofs.Common.{refl}
use Rattle.base_words.specs.Bursts.{has_bursts}
use Rattle.base_words.proofs.OpenTurns.{none_either}
use Rattle.judge_audit.proofs.WaitingSteps.{fresh_waiting}
use Rattle.judge_audit.proofs.picks.Turns.new.Goals as goal

pub returns : goal.returns
returns c = λ burst. record {
  accounts = c.new-accounts.ensures burst;
  tree = c.new-least.ensures.tree;
  waiting = λ queue few. fresh_waiting burst c.new-accounts.result c.new-least.result (c.new-accounts.ensures burst) queue (c.new-least.ensures.last queue few);
  out = refl;
  picked = refl;
  turn = none_either (has_bursts burst);
}
