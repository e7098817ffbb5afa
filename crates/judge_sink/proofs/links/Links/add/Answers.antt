use Rattle.judge_sink.proofs.LinkSteps.{knows_answered, knows_back, knows_sent, knows_took}
use Rattle.judge_sink.proofs.links.Links.add.Goals as goal

pub returns-in-Took-clause-knows : goal.returns-in-Took-clause-knows
returns-in-Took-clause-knows c =
    λ before knows. rw c.in-Took.is (knows_took c.args.self.now c.add_delivered.new.self before knows c.in-Took.name c.add_delivered.ensures.there c.add_delivered.ensures.more c.in-Took.field-1)

pub returns-in-Back-clause-knows : goal.returns-in-Back-clause-knows
returns-in-Back-clause-knows c =
    λ before knows. rw c.in-Back.is (knows_back c.args.self.now c.add_delivered-in-Back.new.self before knows c.in-Back.name c.add_delivered-in-Back.ensures.there c.add_delivered-in-Back.ensures.more c.in-Back.field-1)

pub returns-in-Answered-clause-knows : goal.returns-in-Answered-clause-knows
returns-in-Answered-clause-knows c =
    λ before knows.
    rw c.in-Answered.is (knows_answered c.args.self.now c.add_delivered-in-Answered.new.self before knows c.in-Answered.name c.add_delivered-in-Answered.ensures.there c.add_delivered-in-Answered.ensures.more c.in-Answered.field-1)

pub returns-in-Sent-clause-knows : goal.returns-in-Sent-clause-knows
returns-in-Sent-clause-knows c =
    λ before knows. rw c.in-Sent.is (knows_sent c.args.self.now c.add_sent.new.self before knows c.in-Sent.name c.add_sent.ensures c.in-Sent.field-1)
