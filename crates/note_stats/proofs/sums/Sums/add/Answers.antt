use Rattle.std.proofs.Common.{ℕ, sym, subst}
use Rattle.note_stats.specs.Walks.{SumsView, KnowsSums}
use Rattle.note_stats.proofs.sums.Sums.add.Goals as goal

pub returns-clause-knows : goal.returns-clause-knows
returns-clause-knows c =
    λ burst before short knows.
    let known = subst (λ (view : SumsView). KnowsSums {T = ℕ} burst view before) (sym c.self.view_is) knows in
    record {
      parks = c.in_ok-add.ensures.knows before short known.parks;
      figures = c.add-2.ensures burst before short (c.spot-spot.ensures before known.parks) known.figures;
    }
