use Rattle.judge_audit.proofs.Names.{EachNote, journal_of, RespectsCloses, ℕ, ◌<◌}
use Rattle.judge_audit.proofs.places.closes_place.Given as goal

abbrev pub invariant-loop-core : goal.invariant-loop-core
invariant-loop-core l = (core : ℕ) → core < l.core → EachNote (RespectsCloses l.assembly core) (journal_of core l.assembly)
