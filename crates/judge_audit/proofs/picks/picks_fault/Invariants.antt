use Rattle.base_words.specs.Journal.{at_place}
use Rattle.judge_audit.specs.Picks.{PicksSoFar}
use Rattle.judge_audit.proofs.picks.picks_fault.Given as goal

abbrev pub invariant-loop-place : goal.invariant-loop-place
invariant-loop-place l = PicksSoFar l.burst l.turns (at_place l.place l.journal.notes)
