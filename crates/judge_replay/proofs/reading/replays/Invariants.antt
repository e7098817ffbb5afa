-- Between two rounds all that was told is read, except the notes that wait.
use Rattle.std.proofs.Common.{◌≡◌}
use Rattle.judge_replay.specs.Tellers.{AreRead}
use Rattle.judge_replay.proofs.reading.replays.Given as goal

abbrev pub invariant-loop-round : goal.invariant-loop-round
invariant-loop-round g l = record {
  read : AreRead (g.T.Teller.told l.teller) l.waiting.items l.replay;
  count : l.replay.count ≡ l.cores;
  burst : l.replay.burst ≡ l.burst;
  same : g.T.Teller.from l.teller ≡ g.T.Teller.from l.initial.teller;
}
