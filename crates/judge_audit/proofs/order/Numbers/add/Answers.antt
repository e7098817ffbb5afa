use Rattle.judge_audit.proofs.Names.{ap, arith, last_started, order_of, queue_asked, refl, subst, sym, ℕ, ◌∙◌, ◌≤◌}
use Rattle.judge_audit.proofs.NumberSteps.{next_start, same_asked}
use Rattle.judge_audit.proofs.Reached.{reached_more, next_reached}
use Rattle.judge_audit.proofs.order.Numbers.add.Goals as goal

pub returns-in-Some-clause-known : goal.returns-in-Some-clause-known
returns-in-Some-clause-known c =
    λ assembly before orders stands knows.
    rw c.in-Start.is
    (
    next_start assembly c.args.self.now before knows c.start.new.self c.in-Start.name c.start.ensures.others
    (
    λ queue asked.
    subst (λ (at : ℕ). c.in-Start.name.number ≤ last_started c.start.new.self c.in-Start.name.from at)
    (
    same_asked (order_of c.in-Start.name assembly) c.in-Some.queue queue
    (sym (ap queue_asked (orders c.in-Start.name)) ∙ (sym c.queue_asked.ensures ∙ c.in-Some.is)) asked
    )
    c.start.ensures.this
    )
    c.start.ensures.sent
    )

pub returns-in_default-queue_asked-clause-known : goal.returns-in_default-queue_asked-clause-known
returns-in_default-queue_asked-clause-known c =
    λ assembly before orders stands knows.
    rw c.in-Start.is
    (
    next_start assembly c.args.self.now before knows c.args.self.now c.in-Start.name (λ sender other. omega arith)
    (
    λ queue asked.
    let none = sym c.in_default-queue_asked.is ∙ (c.queue_asked.ensures ∙ (ap queue_asked (orders c.in-Start.name) ∙ asked)) in cc
    )
    refl
    )

pub returns-in-Some-clause-reached : goal.returns-in-Some-clause-reached
returns-in-Some-clause-reached c =
    λ assembly before orders reached.
    rw c.in-Start.is
    (
    next_reached assembly c.args.self.now c.start.new.self before c.in-Start.name c.in-Some.queue reached c.start.ensures.raises c.start.ensures.rows
    (sym (ap queue_asked (orders c.in-Start.name)) ∙ (sym c.queue_asked.ensures ∙ c.in-Some.is))
    )

pub returns-in_default-queue_asked-clause-reached : goal.returns-in_default-queue_asked-clause-reached
returns-in_default-queue_asked-clause-reached c =
    λ assembly before orders reached sender queue small more within. reached_more assembly sender queue _ c.args.note.now before (reached sender queue small more within)

pub returns-in-Sent-clause-reached : goal.returns-in-Sent-clause-reached
returns-in-Sent-clause-reached c =
    λ assembly before orders reached sender queue small more within. reached_more assembly sender queue _ c.args.note.now before (reached sender queue small more within)

pub returns-in_default-clause-reached : goal.returns-in_default-clause-reached
returns-in_default-clause-reached c =
    λ assembly before orders reached sender queue small more within. reached_more assembly sender queue _ c.args.note.now before (reached sender queue small more within)
