use Rattle.judge_audit.proofs.Names.{ap, both_ways, false, get_or, is_some, not-false, not-true, subst, sym, true, true≢false, ℕ, ◌∙◌, ◌≡◌}
use Rattle.judge_audit.proofs.closes.respects_closes.Goals as goal
use Rattle.judge_audit.proofs.closes.respects_closes.Goals.{then-closes, else-closes}

pub returns-then-not-closes-queue-clause-right : goal.returns-then-not-closes-queue-clause-right
returns-then-not-closes-queue-clause-right c =
    λ before knows yes.
    rw c.in-Took.is (
      knows.queues c.in-Took.queue
          (subst (λ (queue : ℕ). get_or c.args.closes.now.queues queue false ≡ false) c.queue.view_is c.if-not-closes-queue.true),
      knows.returning (not-true c.args.closes.now.returning yes),
    )

pub returns-then-not-closes-sender-clause-right : goal.returns-then-not-closes-sender-clause-right
returns-then-not-closes-sender-clause-right c =
    λ before knows yes.
    rw c.in-Shut.is
    (
    elim c.if-closes.branch [
      | then-closes w ↦ (
        knows.core_closed w.if-closes.true,
        knows.gates c.in-Shut.sender
            (
            subst (λ (sender : ℕ). get_or c.args.closes.now.gates sender false ≡ false) c.sender.view_is
            (not-true (get_or c.args.closes.now.gates c.sender.inside.0 false) (sym w.value-is ∙ c.if-not-closes-sender.true))
            ),
        c.is_final_count.ensures.right yes,
      )
      | else-closes w ↦ absurd (both_ways _ w.if-closes.false (sym w.value-is ∙ c.if-not-closes-sender.true))
    ]
    )

pub returns-else-not-closes-queue-clause-only : goal.returns-else-not-closes-queue-clause-only
returns-else-not-closes-queue-clause-only c =
    λ before knows.
    rw c.in-Took.is
    (
    λ right.
    let closed =
    knows.queues_closed c.in-Took.queue
    (subst (λ (queue : ℕ). get_or c.args.closes.now.queues queue false ≡ true) c.queue.view_is c.if-not-closes-queue.false) in
    absurd (true≢false (sym closed ∙ ap is_some right.0))
    )

pub returns-else-not-closes-sender-clause-only : goal.returns-else-not-closes-sender-clause-only
returns-else-not-closes-sender-clause-only c =
    λ before knows.
    rw c.in-Shut.is
    (
    λ right.
    elim c.if-closes.branch [
      | then-closes w ↦ (
          let shut =
          knows.gates_shut c.in-Shut.sender
          (
          subst (λ (sender : ℕ). get_or c.args.closes.now.gates sender false ≡ true) c.sender.view_is
          (not-false (get_or c.args.closes.now.gates c.sender.inside.0 false) (sym w.value-is ∙ c.if-not-closes-sender.false))
          ) in
          absurd (true≢false (sym shut ∙ ap is_some right.1))
          )
      | else-closes w ↦ absurd (true≢false (sym right.0 ∙ ap is_some (knows.core_open w.if-closes.false)))
    ]
    )
