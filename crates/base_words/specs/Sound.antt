-- Soundness of the journals of all actors: five clauses, in the order in which an audit tries them.
use Rattle.std.specs.Prelude.{◌≡◌, ℕ, ◌<◌, ◌≤◌, true, None}
use Rattle.base_words.specs.declared.names.JobId.{JobId}
use Rattle.base_words.specs.Journal.{EachNote, is_told}
use Rattle.base_words.specs.Filters.{accepted_orders, delivered_names, given_outcomes, collected_outcomes, name_ended}
use Rattle.base_words.specs.Closing.{IsDrained}
use Rattle.base_words.specs.Assembly.{Assembly, journal_of, IsPrefix, names_of, IsAcceptedJob, IsAcceptedCommand}
use Rattle.base_words.specs.Clauses.{StartsRight, StandsInOrder, RespectsCloses, OutcomesRight, PicksRight, name_answered, queue_just_picked}

-- only accepted jobs that are inside start or resume, and each starts at most once
pub record StartsAreSound {T : Type 0} (assembly : Assembly T) : Type 0 where
  pub notes : (actor : ℕ) → actor ≤ assembly.cores → EachNote (StartsRight assembly) (journal_of actor assembly)

-- one sender's jobs in one queue start in the order accepted, and no link loses, invents or turns round what crosses it
pub record OrderIsSound {T : Type 0} (assembly : Assembly T) : Type 0 where
  pub notes : (actor : ℕ) → actor ≤ assembly.cores → EachNote (StandsInOrder assembly) (journal_of actor assembly)
  pub deliveries : (sender core : ℕ) → sender ≤ assembly.cores → core < assembly.cores →
      IsPrefix (delivered_names sender (journal_of core assembly)) (names_of (accepted_orders core (journal_of sender assembly)))
  pub collections : (sender core : ℕ) → sender ≤ assembly.cores → core < assembly.cores →
      IsPrefix (names_of (collected_outcomes core (journal_of sender assembly))) (names_of (given_outcomes sender (journal_of core assembly)))

-- nothing enters after a close
pub record ClosesAreSound {T : Type 0} (assembly : Assembly T) : Type 0 where
  pub notes : (core : ℕ) → core < assembly.cores → EachNote (RespectsCloses assembly core) (journal_of core assembly)

-- all that was accepted of this core has ended
pub record AllEnded {T : Type 0} (assembly : Assembly T) (core : ℕ) : Type 0 where
  pub jobs : (name : JobId) → name.to ≡ core → IsAcceptedJob name assembly → is_told name_ended name (journal_of core assembly) ≡ true
  pub commands : (name : JobId) → name.to ≡ core → IsAcceptedCommand name assembly → is_told name_answered name (journal_of core assembly) ≡ true

-- nothing ends twice, and a drained core has ended all
pub record OutcomesAreSound {T : Type 0} (assembly : Assembly T) : Type 0 where
  pub notes : (actor : ℕ) → actor ≤ assembly.cores → EachNote (OutcomesRight assembly) (journal_of actor assembly)
  pub all_ended : (core : ℕ) → core < assembly.cores → IsDrained assembly.cores (journal_of core assembly) → AllEnded assembly core

-- each pick takes the least pair (virtual runtime, number) among the queues that have work
pub record PicksAreSound {T : Type 0} (assembly : Assembly T) : Type 0 where
  pub notes : (core : ℕ) → core < assembly.cores → EachNote (PicksRight assembly.burst) (journal_of core assembly)
  pub last_followed : (core : ℕ) → core < assembly.cores → queue_just_picked (journal_of core assembly) ≡ None

pub record IsSound {T : Type 0} (assembly : Assembly T) : Type 0 where
  pub starts : StartsAreSound assembly
  pub order : OrderIsSound assembly
  pub closes : ClosesAreSound assembly
  pub outcomes : OutcomesAreSound assembly
  pub picks : PicksAreSound assembly
