use Rattle.judge_fronts.proofs.Names.{at_place, not-true, sym, ◌∙◌}
use Rattle.judge_fronts.proofs.Alone.{entered_told}
use Rattle.judge_fronts.proofs.past.is_inside.Goals as goal

pub returns-then-is_told-clause-right : goal.returns-then-is_told-clause-right
returns-then-is_told-clause-right c = λ yes. (
  entered_told c.args.name.now (at_place c.args.before c.args.journal.now.notes) ∙ (sym c.is_told.ensures ∙ c.if-is_told.true),
  sym c.is_told-then-is_told.ensures ∙ not-true c.is_told-then-is_told.result yes,
)

pub returns-else-is_told-clause-only : goal.returns-else-is_told-clause-only
returns-else-is_told-clause-only c = λ entered going_on.
    c.is_told.ensures ∙ (sym (entered_told c.args.name.now (at_place c.args.before c.args.journal.now.notes)) ∙ entered)
