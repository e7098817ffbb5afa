use Rattle.judge_audit.proofs.Names.{both_ways, not-true, not_from_false, refl, sym, ◌∙◌}
use Rattle.judge_audit.proofs.starts.starts_right.Goals as goal

pub returns-then-is_inside-clause-right : goal.returns-then-is_inside-clause-right
returns-then-is_inside-clause-right c =
    λ assembly before orders.
    rw c.in-Start.is
    (
    λ facts yes.
    let told = facts.told c.in-Start.name refl in (
      c.is_inside.ensures.right assembly before orders told c.if-is_inside.true,
      sym told.started ∙ not-true c.args.fact.now.started yes,
    )
    )

pub returns-then-is_inside-clause-only : goal.returns-then-is_inside-clause-only
returns-then-is_inside-clause-only c =
    λ assembly before orders.
    rw c.in-Start.is (λ facts right. not_from_false c.args.fact.now.started ((facts.told c.in-Start.name refl).started ∙ right.1))

pub returns-else-is_inside-clause-only : goal.returns-else-is_inside-clause-only
returns-else-is_inside-clause-only c =
    λ assembly before orders.
    rw c.in-Start.is
    (
    λ facts right.
    absurd
    (
    both_ways c.is_inside.result c.if-is_inside.false
    (c.is_inside.ensures.only assembly before orders (facts.told c.in-Start.name refl) right.0)
    )
    )

pub returns-then-is_inside-2-clause-right : goal.returns-then-is_inside-2-clause-right
returns-then-is_inside-2-clause-right c =
    λ assembly before orders.
    rw c.in-Resume.is
    (
    λ facts yes.
    let told = facts.told c.in-Resume.name refl in (
      c.is_inside-in-Resume.ensures.right assembly before orders told c.if-is_inside-2.true,
      sym told.started ∙ yes,
    )
    )

pub returns-then-is_inside-2-clause-only : goal.returns-then-is_inside-2-clause-only
returns-then-is_inside-2-clause-only c =
    λ assembly before orders.
    rw c.in-Resume.is (λ facts right. (facts.told c.in-Resume.name refl).started ∙ right.1)

pub returns-else-is_inside-2-clause-only : goal.returns-else-is_inside-2-clause-only
returns-else-is_inside-2-clause-only c =
    λ assembly before orders.
    rw c.in-Resume.is
    (
    λ facts right.
    absurd
    (
    both_ways c.is_inside-in-Resume.result c.if-is_inside-2.false
    (c.is_inside-in-Resume.ensures.only assembly before orders (facts.told c.in-Resume.name refl) right.0)
    )
    )
