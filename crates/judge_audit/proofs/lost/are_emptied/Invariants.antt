use Rattle.judge_audit.proofs.Names.{delivered_names, final_count, length, Some, ℕ, ◌<◌, ◌≡◌}
use Rattle.judge_audit.proofs.lost.are_emptied.Given as goal

abbrev pub invariant-loop-sender : goal.invariant-loop-sender
invariant-loop-sender l =
    (sender : ℕ) → sender < l.sender → final_count sender l.journal.notes ≡ Some (length (delivered_names sender l.journal.notes))
