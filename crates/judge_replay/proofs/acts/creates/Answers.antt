use Rattle.std.proofs.Common.{sym, subst}
use Rattle.link_ring.specs.Ends.{SameEnds}
use Rattle.link_ring.proofs.Using.{ends_same}
use Rattle.judge_replay.proofs.Created.{created_grows}
use Rattle.judge_replay.proofs.acts.creates.Goals as goal

pub returns-then-may_create : goal.returns-then-may_create
returns-then-may_create c = record {
  seat = c.create.ensures.seat;
  ends = subst (SameEnds c.args.core.now.ends) (sym c.create.ensures.same) (ends_same c.args.core.now.ends);
  grows = created_grows _ c.args.core.now.recorded c.create.new.self.recorded _ c.create.ensures.creates;
  lawful = λ _. c.create.ensures.hosted.recorded.kept.notes;
}
