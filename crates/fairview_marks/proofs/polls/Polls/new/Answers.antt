use Rattle.std.proofs.Common.{refl}
use Rattle.fairview_marks.proofs.polls.Polls.new.Goals as goal

pub returns : goal.returns
returns c = record { clock = c.new.ensures; queues = λ name. rw c.new-2.ensures refl }
