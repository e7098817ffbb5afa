use Rattle.judge_audit.proofs.Names.{below_more, both_ways, EachNote, EndedIfSent, Journal, journal_of, subst, ℕ}
use Rattle.judge_audit.proofs.lost.ended_of_all.Goals as goal

pub loop-sender-preserved : goal.loop-sender-preserved
loop-sender-preserved c =
    let kept = journal_of c.args.core c.args.assembly.now in
    below_more (λ (sender : ℕ). EachNote (EndedIfSent kept c.args.assembly.now c.args.core) (journal_of sender c.args.assembly.now)) c.loop-sender.sender
    c.loop-sender.invariant
    (
    subst (λ (journal : Journal ℕ). EachNote (EndedIfSent kept c.args.assembly.now c.args.core) journal) c.journal.ensures
    (c.all_ended.ensures.right c.args.assembly.now kept c.requires.orders c.requires.history c.if-not-all_ended.false)
    )

pub returns-then-not-all_ended-clause-only : goal.returns-then-not-all_ended-clause-only
returns-then-not-all_ended-clause-only c =
    λ each.
    absurd
    (
    both_ways c.all_ended.result c.if-not-all_ended.true
    (
    c.all_ended.ensures.only c.args.assembly.now (journal_of c.args.core c.args.assembly.now) c.requires.orders c.requires.history each
    )
    )
