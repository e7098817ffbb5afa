use Rattle.std.proofs.Common.{ℕ, ◌∷◌, refl, sym, subst, arith}
use Rattle.note_stats.specs.Walks.{FiguresView, KnowsFigures}
use Rattle.note_stats.proofs.SumSteps.{under_same}
use Rattle.note_stats.proofs.figures.Figures.add.Goals as goal

pub returns : goal.returns
returns c =
    λ burst before short fits knows.
    let known = subst (λ (view : FiguresView). KnowsFigures {T = ℕ} burst view before) (sym c.self.view_is) knows in
    let own = under_same _ before (sym known.same_burst) known in
    under_same _ (c.args.note.now ∷ before) known.same_burst
    (record {
      same_burst = refl;
      accounts = c.add-2.ensures.known before fits short own.accounts;
      tallies = c.add.ensures before fits.queue short own.accounts own.tallies;
      gates = c.add-3.ensures before short own.gates;
      short = omega (arith, short);
    })
