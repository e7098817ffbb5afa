use Rattle.judge_fronts.proofs.Names.{at_place, sym, ◌∙◌}
use Rattle.judge_fronts.proofs.Alone.{may_start, true_unless}
use Rattle.judge_fronts.proofs.past.is_wrong_start.Goals as goal

pub returns-else-not-is_inside-clause-only : goal.returns-else-not-is_inside-clause-only
returns-else-not-is_inside-clause-only c = λ wrong.
    let inside = c.is_inside.ensures.right c.if-not-is_inside.false in
    true_unless c.is_told.result
    (λ new. may_start c.args.name.now (at_place c.args.before c.args.journal.now.notes) inside.0 inside.1 (sym c.is_told.ensures ∙ new) wrong)
