use Rattle.judge_audit.proofs.Names.{account_of, has_nobody, is_empty}
use Rattle.judge_audit.proofs.lost.is_idle.Goals as goal

pub returns-clause-right : goal.returns-clause-right
returns-clause-right c =
    λ burst before knows yes queue. has_nobody queue (account_of c.args.accounts.now queue) before (knows.each queue) (c.are_empty.ensures.0 yes queue)

pub returns-clause-only : goal.returns-clause-only
returns-clause-only c =
    λ burst before knows nobody.
    c.are_empty.ensures.1 (λ queue. is_empty queue (account_of c.args.accounts.now queue) before (knows.each queue) (nobody queue))
