use Rattle.std.proofs.Common.{ap, ◌∙◌}
use Rattle.base_words.specs.Journal.{or_else}
use Rattle.judge_view.proofs.PollSteps.{walk_next}
use Rattle.judge_view.proofs.polls.PollWalk.add.Goals as goal

pub returns-clause-tells : goal.returns-clause-tells
returns-clause-tells c =
    λ before short knows.
    walk_next c.args.self.now c.settle_told.new.self c.in_ok-poll.poll c.args.note.now before short knows c.poll_settled.result c.add.new.self c.newer-self.result
    c.poll_settled.ensures (rw c.end_of.ensures at c.in_ok-poll.ensures.told) c.add.ensures (c.newer-self.ensures ∙ ap (λ pick. or_else pick c.settle_told.new.self.picked) c.pick_told.ensures)
