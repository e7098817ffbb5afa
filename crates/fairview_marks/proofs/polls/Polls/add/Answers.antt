use Rattle.fairview_marks.proofs.PollSteps.{polls_next}
use Rattle.fairview_marks.proofs.polls.Polls.add.Goals as goal

pub returns-clause-knows : goal.returns-clause-knows
returns-clause-knows c =
    λ before short knows.
    polls_next c.args.self.now (record { clock = c.add.new.self; queues = c.set_told.new.self }) c.args.note.now before short c.add.ensures
    (rw c.queue_told.ensures at c.in_ok-set_told.ensures.set) knows
