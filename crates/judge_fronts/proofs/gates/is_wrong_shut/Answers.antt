use Rattle.judge_fronts.proofs.Names.{at_place, sym, ◌∙◌}
use Rattle.judge_fronts.proofs.Alone.{true_unless}
use Rattle.judge_fronts.proofs.AloneShut.{may_shut}
use Rattle.judge_fronts.proofs.gates.is_wrong_shut.Goals as goal

pub returns-else-not-is_closed-clause-only : goal.returns-else-not-is_closed-clause-only
returns-else-not-is_closed-clause-only c = λ core count wrong.
    true_unless c.is_closed-else-not-is_closed.result
    (λ unshut.
    may_shut core c.args.sender count (at_place c.args.before c.args.journal.now.notes) (sym c.is_closed.ensures ∙ c.if-not-is_closed.false)
    (sym c.is_closed-else-not-is_closed.ensures ∙ unshut) wrong)
