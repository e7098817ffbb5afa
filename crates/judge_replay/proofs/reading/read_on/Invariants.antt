-- As far as it was read, all that was told of the actor is read, except the note that waits, and none does between two notes.
use Rattle.judge_replay.specs.Tellers.{IsReadOf, ReadsOne, TellsOne}
use Rattle.judge_replay.proofs.reading.read_on.Given as goal

abbrev pub invariant-loop-turn : goal.invariant-loop-turn
invariant-loop-turn g l = record {
  read : IsReadOf (g.T.Teller.told l.teller) l.waiting l.replay l.actor;
  tells : TellsOne g.T.Teller.told g.T.Teller.ends g.T.Teller.from l.actor l.initial.teller l.teller;
  reads : ReadsOne l.actor l.initial.replay l.replay;
}
