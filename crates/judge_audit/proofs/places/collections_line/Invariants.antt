use Rattle.judge_audit.proofs.Names.{collected_outcomes, CollectionsOf, CollectionsOff, given_outcomes, IsLeast, IsPrefix, journal_of, names_of, None, ℕ, ◌<◌, ◌≡◌}
use Rattle.judge_audit.proofs.places.collections_line.Given as goal

abbrev pub invariant-loop-core : goal.invariant-loop-core
invariant-loop-core l = record {
  kept : l.line ≡ None → (core : ℕ) → core < l.core →
      IsPrefix (names_of (collected_outcomes core (journal_of l.sender l.assembly))) (names_of (given_outcomes l.sender (journal_of core l.assembly)));
  only : CollectionsOf l.assembly l.sender → l.line ≡ None;
  least : IsLeast (CollectionsOff l.assembly l.sender l.core) l.line;
}
