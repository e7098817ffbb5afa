use Rattle.std.proofs.Common.{◌≡◌, ◌+◌, min, length, ◌∙◌, ap, arith}
use Rattle.note_facts.specs.Accounts.{greatest_count}
use Rattle.note_stats.specs.Walks.{inside_below}
use Rattle.note_stats.proofs.HeldSteps.{inside_all}
use Rattle.note_stats.proofs.figures.held.Goals as goal

pub returns : goal.returns
returns c =
    let accounts = c.args.accounts.now in
    let read : c.loop-queue.queue ≡ min (c.args.created + 1) (length accounts) = omega arith in
    c.loop-queue.invariant ∙
    ap (λ sum. min sum greatest_count) (ap (λ queues. inside_below queues accounts) read ∙ inside_all (c.args.created + 1) accounts)
