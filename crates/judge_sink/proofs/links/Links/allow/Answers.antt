use Rattle.judge_sink.proofs.links.Links.allow.Goals as goal

pub returns-in-Took : goal.returns-in-Took
returns-in-Took c = λ before knows yes. rw c.in-Took.is (c.lets_in.ensures before knows yes)

pub returns-in-Back : goal.returns-in-Back
returns-in-Back c = λ before knows yes. rw c.in-Back.is (c.lets_in-in-Back.ensures before knows yes)

pub returns-in-Answered : goal.returns-in-Answered
returns-in-Answered c = λ before knows yes. rw c.in-Answered.is (c.lets_in-in-Answered.ensures before knows yes)
