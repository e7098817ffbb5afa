use Rattle.run_worker.proofs.Names.{ap, same_notes}
use Rattle.run_worker.proofs.Between.{between_notes}
use Rattle.run_worker.proofs.passing.hand_on.Goals as goal

pub returns-clause-hands : goal.returns-clause-hands
returns-clause-hands g c = record { answer = c.pass_on-answer.result; passes = c.pass_on-answer.ensures.passes; refusals = c.pass_on-answer.ensures.refusals; asked = c.pass_on-answer.ensures.asked; marked = c.pass_on-answer.ensures.marked; rest = c.pass_on-answer.ensures.rest }

-- no turn is open with the same notes
pub returns-clause-between : goal.returns-clause-between
returns-clause-between g c =
    between_notes c.args.seat.now.recorded c.pass_on-answer.new.self.recorded (ap (λ view. view.recorded.core.bursts.burst) c.pass_on-answer.ensures.rest)
    (same_notes g.S.Sink.has g.S.Sink.refused c.args.seat.now.recorded.journal c.pass_on-answer.new.self.recorded.journal c.args.sink.now c.pass_on-answer.new.sink c.pass_on-answer.result c.pass_on-answer.ensures.passes) c.requires.between
