use Rattle.judge_audit.proofs.Names.{both_ways, not-true, not_from_false, refl, sym, ◌∙◌}
use Rattle.judge_audit.proofs.outcomes.outcomes_right.Goals as goal

pub returns-then-may_end-clause-right : goal.returns-then-may_end-clause-right
returns-then-may_end-clause-right c =
    λ assembly before orders outcomes.
    rw c.in-Done.is
    (
    λ facts yes.
    let told = facts.told c.in-Done.name refl in
    let may = c.may_end.ensures.right assembly before orders told c.if-may_end.true in
    (may.0, may.1, sym told.started ∙ yes)
    )

pub returns-then-may_end-clause-only : goal.returns-then-may_end-clause-only
returns-then-may_end-clause-only c =
    λ assembly before orders outcomes.
    rw c.in-Done.is (λ facts right. (facts.told c.in-Done.name refl).started ∙ right.2)

pub returns-else-may_end-clause-only : goal.returns-else-may_end-clause-only
returns-else-may_end-clause-only c =
    λ assembly before orders outcomes.
    rw c.in-Done.is
    (
    λ facts right.
    absurd
    (
    both_ways c.may_end.result c.if-may_end.false
    (c.may_end.ensures.only assembly before orders (facts.told c.in-Done.name refl) (right.0, right.1))
    )
    )

pub returns-in-Back-clause-right : goal.returns-in-Back-clause-right
returns-in-Back-clause-right c =
    λ assembly before orders outcomes.
    rw c.in-Back.is (λ facts. c.may_end-in-Back.ensures.right assembly before orders (facts.told c.in-Back.name refl))

pub returns-in-Back-clause-only : goal.returns-in-Back-clause-only
returns-in-Back-clause-only c =
    λ assembly before orders outcomes.
    rw c.in-Back.is (λ facts. c.may_end-in-Back.ensures.only assembly before orders (facts.told c.in-Back.name refl))

pub returns-in-Returned-clause-right : goal.returns-in-Returned-clause-right
returns-in-Returned-clause-right c =
    λ assembly before orders outcomes.
    rw c.in-Returned.is (λ facts. c.may_end-in-Returned.ensures.right assembly before orders (facts.told c.in-Returned.name refl))

pub returns-in-Returned-clause-only : goal.returns-in-Returned-clause-only
returns-in-Returned-clause-only c =
    λ assembly before orders outcomes.
    rw c.in-Returned.is (λ facts. c.may_end-in-Returned.ensures.only assembly before orders (facts.told c.in-Returned.name refl))

pub returns-then-is_accepted_command-clause-right : goal.returns-then-is_accepted_command-clause-right
returns-then-is_accepted_command-clause-right c =
    λ assembly before orders outcomes.
    rw c.in-Answered.is
    (
    λ facts yes. (
      c.is_accepted_command.ensures.right assembly orders c.if-is_accepted_command.true,
      sym (facts.told c.in-Answered.name refl).answered ∙ not-true c.args.fact.now.answered yes,
    )
    )

pub returns-then-is_accepted_command-clause-only : goal.returns-then-is_accepted_command-clause-only
returns-then-is_accepted_command-clause-only c =
    λ assembly before orders outcomes.
    rw c.in-Answered.is
    (
    λ facts right. not_from_false c.args.fact.now.answered ((facts.told c.in-Answered.name refl).answered ∙ right.1)
    )

pub returns-else-is_accepted_command-clause-only : goal.returns-else-is_accepted_command-clause-only
returns-else-is_accepted_command-clause-only c =
    λ assembly before orders outcomes.
    rw c.in-Answered.is
    (
    λ facts right.
    absurd (both_ways c.is_accepted_command.result c.if-is_accepted_command.false (c.is_accepted_command.ensures.only assembly orders right.0))
    )

pub returns-in-Collected-clause-right : goal.returns-in-Collected-clause-right
returns-in-Collected-clause-right c =
    λ assembly before orders outcomes.
    rw c.in-Collected.is (λ facts yes. c.is_given.ensures.right assembly outcomes yes)

pub returns-in-Collected-clause-only : goal.returns-in-Collected-clause-only
returns-in-Collected-clause-only c =
    λ assembly before orders outcomes.
    rw c.in-Collected.is (λ facts. c.is_given.ensures.only assembly outcomes)

pub returns-then-may_redeem-clause-right : goal.returns-then-may_redeem-clause-right
returns-then-may_redeem-clause-right c =
    λ assembly before orders outcomes.
    rw c.in-Redeemed.is
    (
    λ facts yes.
    let may = c.may_redeem.ensures.right c.if-may_redeem.true in (
      facts.collected.0 may.0,
      c.is_given-then-may_redeem.ensures.right assembly outcomes yes,
      sym (facts.told c.in-Redeemed.name refl).redeemed ∙ may.1,
    )
    )

pub returns-then-may_redeem-clause-only : goal.returns-then-may_redeem-clause-only
returns-then-may_redeem-clause-only c =
    λ assembly before orders outcomes.
    rw c.in-Redeemed.is (λ facts right. c.is_given-then-may_redeem.ensures.only assembly outcomes right.1)

pub returns-else-may_redeem-clause-only : goal.returns-else-may_redeem-clause-only
returns-else-may_redeem-clause-only c =
    λ assembly before orders outcomes.
    rw c.in-Redeemed.is
    (
    λ facts right.
    absurd
    (
    both_ways c.may_redeem.result c.if-may_redeem.false
    (c.may_redeem.ensures.only (facts.collected.1 right.0) ((facts.told c.in-Redeemed.name refl).redeemed ∙ right.2))
    )
    )
