use Rattle.std.proofs.Common.{refl, sym, ◌∙◌}
use Rattle.std.proofs.lemmas.Bool.{not-true, not_from_false}
use Rattle.judge_audit.proofs.PickSteps.{parked_known}
use Rattle.judge_audit.proofs.picks.fits_parks.Goals as goal

pub returns-in-Resume-clause-right : goal.returns-in-Resume-clause-right
returns-in-Resume-clause-right c =
    λ before.
    rw c.in-Resume.is
    (
    λ facts yes.
    let known = c.is_parked.ensures ∙ parked_known c.args.fact.now c.in-Resume.field-0 before (facts.told _ refl) in
    sym known ∙ not-true c.is_parked.result yes
    )

pub returns-in-Resume-clause-only : goal.returns-in-Resume-clause-only
returns-in-Resume-clause-only c =
    λ before.
    rw c.in-Resume.is
    (
    λ facts awake.
    let known = c.is_parked.ensures ∙ parked_known c.args.fact.now c.in-Resume.field-0 before (facts.told _ refl) in
    not_from_false c.is_parked.result (known ∙ awake)
    )

pub returns-in-Returned-clause-right : goal.returns-in-Returned-clause-right
returns-in-Returned-clause-right c =
    λ before.
    rw c.in-Returned.is
    (
    λ facts yes.
    let known = c.is_parked-in-Returned.ensures ∙ parked_known c.args.fact.now c.in-Returned.field-0 before (facts.told _ refl) in
    sym known ∙ not-true c.is_parked-in-Returned.result yes
    )

pub returns-in-Returned-clause-only : goal.returns-in-Returned-clause-only
returns-in-Returned-clause-only c =
    λ before.
    rw c.in-Returned.is
    (
    λ facts awake.
    let known = c.is_parked-in-Returned.ensures ∙ parked_known c.args.fact.now c.in-Returned.field-0 before (facts.told _ refl) in
    not_from_false c.is_parked-in-Returned.result (known ∙ awake)
    )
