use Rattle.judge_audit.proofs.Names.{AreHistories, arith, IsHistory, Journal, subst, ℕ, ◌+◌, ◌≡◌}
use Rattle.judge_audit.proofs.HistoryTables.{next_histories}
use Rattle.judge_audit.proofs.histories.histories_of.Goals as goal

pub loop-actor-preserved : goal.loop-actor-preserved
loop-actor-preserved c =
    rw c.in_ok-push.ensures.items
    (
    next_histories c.args.assembly.now _ c.in_ok-of.field-0 c.loop-actor.actor c.loop-actor.invariant
    (subst (λ (journal : Journal ℕ). IsHistory c.in_ok-of.field-0 journal) c.journal.ensures c.in_ok-of.ensures)
    )

pub returns : goal.returns
returns c =
    let all : c.loop-actor.actor ≡ c.args.assembly.now.cores + 1 = omega arith in
    subst (λ (count : ℕ). AreHistories c.loop-actor.histories.items c.args.assembly.now count) all c.loop-actor.invariant
