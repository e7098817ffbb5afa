use Rattle.std.proofs.Common.{◌∷◌, sym, ◌∙◌, ap}
use Rattle.note_stats.specs.declared.tally.Tally.{Tally}
use Rattle.fairview_lag.proofs.StretchSteps.{begun_kept, begun_here}
use Rattle.fairview_lag.proofs.stretch.begun_by.Goals as goal

pub returns-in-Some : goal.returns-in-Some
returns-in-Some c = λ burst note before knows is. begun_kept burst c.args.first c.args.second note before c.in-Some.begun (sym c.in-Some.is ∙ is)

pub returns-in-None : goal.returns-in-None
returns-in-None c =
    λ burst note before knows is.
    let one = ap (λ (tally : Tally). tally.charged) (c.tally.ensures burst (note ∷ before) knows) in
    let other = ap (λ (tally : Tally). tally.charged) (c.tally-in-None.ensures burst (note ∷ before) knows) in
    (λ i. record { first = one i; second = other i }) ∙ begun_here burst c.args.first c.args.second note before (sym c.in-None.is ∙ is)
