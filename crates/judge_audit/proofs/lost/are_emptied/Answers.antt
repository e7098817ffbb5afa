use Rattle.judge_audit.proofs.Names.{arith, below_more, both_ways, delivered_names, final_count, length, Some, ℕ, ◌≡◌}
use Rattle.judge_audit.proofs.lost.are_emptied.Goals as goal

pub loop-sender-preserved : goal.loop-sender-preserved
loop-sender-preserved c =
    below_more (λ (sender : ℕ). final_count sender c.args.journal.now.notes ≡ Some (length (delivered_names sender c.args.journal.now.notes)))
    c.loop-sender.sender c.loop-sender.invariant (c.is_emptied.ensures.right c.if-not-is_emptied.false)

pub returns-clause-right : goal.returns-clause-right
returns-clause-right c =
    λ yes sender within.
    below_more (λ (sender : ℕ). final_count sender c.args.journal.now.notes ≡ Some (length (delivered_names sender c.args.journal.now.notes)))
    c.args.cores (λ sender below. c.loop-sender.invariant sender (omega arith)) (c.is_emptied-outside.ensures.right yes) sender (omega arith)

pub returns-clause-only : goal.returns-clause-only
returns-clause-only c = λ all. c.is_emptied-outside.ensures.only (all c.args.cores (omega arith))

pub returns-then-not-is_emptied-clause-only : goal.returns-then-not-is_emptied-clause-only
returns-then-not-is_emptied-clause-only c =
    λ all. absurd (both_ways c.is_emptied.result c.if-not-is_emptied.true (c.is_emptied.ensures.only (all c.loop-sender.sender (omega arith))))
