use Rattle.std.proofs.Common.{ℕ, sym, subst}
use Rattle.note_stats.specs.Walks.{SumsView, KnowsSums}
use Rattle.note_stats.proofs.sums.Sums.core_stats.Goals as goal

pub returns-clause-drained : goal.returns-clause-drained
returns-clause-drained c =
    λ burst journal knows.
    c.core_stats.ensures.drained burst journal
    (subst (λ (view : SumsView). KnowsSums {T = ℕ} burst view journal) (sym c.self.view_is) knows).figures
