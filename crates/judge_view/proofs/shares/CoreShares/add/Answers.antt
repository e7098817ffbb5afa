use Rattle.std.proofs.Common.{ℕ, ap, ◌∙◌}
use Rattle.judge_view.specs.Clocks.{clock_after}
use Rattle.judge_view.proofs.ClockSteps.{clock_next}
use Rattle.judge_view.proofs.shares.CoreShares.add.Goals as goal

pub returns-clause-knows : goal.returns-clause-knows
returns-clause-knows c =
    λ burst before short knows.
    let fits = c.spot-spot.ensures before knows.watches in
    record {
      clock = c.add-2.ensures ∙ (ap (clock_after {T = ℕ} c.args.note.now) knows.clock ∙ clock_next c.args.note.now before short);
      figures = c.add-3.ensures burst before short fits knows.figures;
      watches = c.in_ok-add.ensures.knows before short fits knows.watches;
    }
