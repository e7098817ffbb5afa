use Rattle.judge_audit.proofs.Names.{EachNote, EndedIfSent, journal_of, ℕ, ◌<◌}
use Rattle.judge_audit.proofs.lost.ended_of_all.Given as goal

abbrev pub invariant-loop-sender : goal.invariant-loop-sender
invariant-loop-sender l =
    (sender : ℕ) → sender < l.sender → EachNote (EndedIfSent (journal_of l.core l.assembly) l.assembly l.core) (journal_of sender l.assembly)
