use Rattle.judge_audit.proofs.Names.{ap, arith, IsAbove, Option, Order, order_of, queue_asked, subst, sym, ◌+◌, ◌∙◌}
use Rattle.judge_audit.proofs.NumberSteps.{start_stands, asked_job}
use Rattle.judge_audit.proofs.Reached.{must_be_above}
use Rattle.judge_audit.proofs.order.stands_in_order.Goals as goal

pub returns-in-Start-clause-right : goal.returns-in-Start-clause-right
returns-in-Start-clause-right c =
    λ assembly before orders knows entered.
    rw c.in-Start.is
    (
    λ starts yes.
    start_stands assembly c.args.numbers.now before knows c.in-Start.name entered starts.0
    (subst (λ (order : Option (Order (Unit {0}))). IsAbove c.args.numbers.now order c.in-Start.name) (orders c.in-Start.name) (c.is_above.ensures.right yes))
    )

pub returns-in-Start-clause-only : goal.returns-in-Start-clause-only
returns-in-Start-clause-only c =
    λ assembly before terms orders knows cores.
    rw c.in-Start.is
    (
    λ spelled starts stands.
    let job = starts.0.is_accepted in
    let asked = ap queue_asked job.1 in
    c.is_above.ensures.only job.0 (ap queue_asked (orders c.in-Start.name) ∙ asked)
    (
    λ small.
    must_be_above assembly c.args.numbers.now before c.in-Start.name job.0 knows starts.0 stands asked (omega (arith, spelled.0.sender, cores))
    spelled.0.positive small
    )
    )

pub returns-in-Sent-clause-right : goal.returns-in-Sent-clause-right
returns-in-Sent-clause-right c =
    λ assembly before orders knows entered starts yes.
    rw c.in-Sent.is (c.is_next_sent.ensures.right yes ∙ ap (λ count. count + 1) (knows.sent c.in-Sent.name.to))

pub returns-in-Sent-clause-only : goal.returns-in-Sent-clause-only
returns-in-Sent-clause-only c =
    λ assembly before terms orders knows cores spelled starts.
    rw c.in-Sent.is (λ stands. c.is_next_sent.ensures.only (stands ∙ ap (λ count. count + 1) (sym (knows.known.sent c.in-Sent.name.to))))

pub returns-in-Took-clause-right : goal.returns-in-Took-clause-right
returns-in-Took-clause-right c =
    λ assembly before orders knows entered starts yes.
    rw c.in-Took.is
    (
    asked_job (order_of c.in-Took.name assembly) c.in-Took.queue (sym (ap queue_asked (orders c.in-Took.name)) ∙ c.is_sent_into.ensures.right yes)
    )

pub returns-in-Took-clause-only : goal.returns-in-Took-clause-only
returns-in-Took-clause-only c =
    λ assembly before terms orders knows cores spelled starts.
    rw c.in-Took.is (λ stands. c.is_sent_into.ensures.only (ap queue_asked (orders c.in-Took.name) ∙ ap queue_asked stands))
