use Rattle.judge_audit.proofs.Names.{sym, ◌∙◌}
use Rattle.judge_audit.proofs.lost.has_ended_under.Goals as goal

pub returns-in-Some : goal.returns-in-Some
returns-in-Some c =
    λ assembly journal orders history.
    let order = sym (orders c.args.name.now) ∙ (sym c.order_under.ensures ∙ c.in-Some.is) in
    let same = c.has_ended.ensures journal history in
    rw order (λ yes. sym same ∙ yes, λ ended. same ∙ ended)
