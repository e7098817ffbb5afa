-- Behind the actors of this round all that was told is read, except the notes that wait.
use Rattle.std.proofs.Common.{◌≡◌, ◌<◌, ℕ, None, true}
use Rattle.judge_replay.specs.Tellers.{AreRead, waiting_at}
use Rattle.judge_replay.proofs.reading.read_round.Given as goal

abbrev pub invariant-loop-actor : goal.invariant-loop-actor
invariant-loop-actor g l = record {
  read : AreRead (g.T.Teller.told l.teller) l.waiting.items l.replay;
  over : l.ended ≡ true → (other : ℕ) → other < l.actor → (waiting_at l.waiting.items other ≡ None) × g.T.Teller.ends l.teller other;
  numbers : l.replay ≡ record l.initial.replay { cores = l.replay.cores; outside = l.replay.outside };
  same : g.T.Teller.from l.teller ≡ g.T.Teller.from l.initial.teller;
}
