use Rattle.judge_audit.proofs.WaitingSteps.{next_waiting}
use Rattle.judge_audit.proofs.picks.Turns.count_end.Goals as goal

pub returns-clause-waiting : goal.returns-clause-waiting
returns-clause-waiting c =
    λ before knows waiting.
    next_waiting c.args.burst c.args.self.now.accounts c.add.new.self c.args.note.now c.args.spot.now before knows (c.add.ensures.others before knows) c.args.self.now.least
    c.place_told.new.least c.place_if.new.least c.place_if-2.new.least waiting c.place_if.ensures.placed c.place_if-2.ensures.placed
    c.place_told.ensures.placed.either (λ ends. c.place_told.ensures.placed.held)
