use Rattle.judge_audit.proofs.Placings.{PlacedSoFar}
use Rattle.judge_audit.proofs.placing.place_told.Given as goal

abbrev pub invariant-loop-index : goal.invariant-loop-index
invariant-loop-index l = PlacedSoFar l.accounts l.recent l.fn.least l.least l.index
