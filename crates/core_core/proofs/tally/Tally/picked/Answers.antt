use Rattle.core_core.proofs.Names.{ap, arith, Tally, ◌+◌}
use Rattle.core_core.proofs.tally.Tally.picked.Goals as goal

pub overflow_add-tally : goal.overflow_add-tally
overflow_add-tally c = omega (arith, c.requires, ap (λ (tally : Tally). tally.selected) c.finishing-tally.ensures)

pub returns : goal.returns
returns c = ap (λ (tally : Tally). record tally { selected = tally.selected + 1 }) c.finishing-tally.ensures
