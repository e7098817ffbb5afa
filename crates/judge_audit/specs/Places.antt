-- What each rule asks of one actor.
use Rattle.std.specs.Prelude.{◌≡◌, ℕ, ◌<◌, ◌≤◌, None}
use Rattle.base_words.specs.Assembly.{Assembly, journal_of, IsPrefix, names_of}
use Rattle.base_words.specs.Clauses.{StartsRight, StandsInOrder, RespectsCloses, OutcomesRight, PicksRight, queue_just_picked}
use Rattle.base_words.specs.Closing.{IsDrained}
use Rattle.base_words.specs.Filters.{accepted_orders, delivered_names, given_outcomes, collected_outcomes}
use Rattle.base_words.specs.Journal.{EachNote}
use Rattle.base_words.specs.Sound.{AllEnded}

-- the first rule, of one actor
abbrev pub StartsOf : Assembly ℕ → ℕ → Type 0
StartsOf assembly actor = EachNote (StartsRight assembly) (journal_of actor assembly)

-- what a core was delivered of each actor is a prefix of what that actor sent to it
abbrev pub DeliveriesOf : Assembly ℕ → ℕ → Type 0
DeliveriesOf assembly core =
    (sender : ℕ) → sender ≤ assembly.cores →
    IsPrefix (delivered_names sender (journal_of core assembly)) (names_of (accepted_orders core (journal_of sender assembly)))

-- what an actor collected of each core is a prefix of what that core gave it
abbrev pub CollectionsOf : Assembly ℕ → ℕ → Type 0
CollectionsOf assembly sender =
    (core : ℕ) → core < assembly.cores →
    IsPrefix (names_of (collected_outcomes core (journal_of sender assembly))) (names_of (given_outcomes sender (journal_of core assembly)))

-- the second rule, of one actor
pub record IsInOrder (assembly : Assembly ℕ) (actor : ℕ) : Type 0 where
  pub notes : EachNote (StandsInOrder assembly) (journal_of actor assembly)
  pub deliveries : actor < assembly.cores → DeliveriesOf assembly actor
  pub collections : CollectionsOf assembly actor

-- the third rule, of one core
abbrev pub ClosesOf : Assembly ℕ → ℕ → Type 0
ClosesOf assembly core = EachNote (RespectsCloses assembly core) (journal_of core assembly)

-- an actor that is a drained core has lost nothing
abbrev pub LosesNothing : Assembly ℕ → ℕ → Type 0
LosesNothing assembly actor = actor < assembly.cores → IsDrained assembly.cores (journal_of actor assembly) → AllEnded assembly actor

-- the fourth rule, of one actor
pub record OutcomesOf (assembly : Assembly ℕ) (actor : ℕ) : Type 0 where
  pub notes : EachNote (OutcomesRight assembly) (journal_of actor assembly)
  pub all_ended : LosesNothing assembly actor

-- the fifth rule, of one core
pub record PicksOf (assembly : Assembly ℕ) (core : ℕ) : Type 0 where
  pub notes : EachNote (PicksRight assembly.burst) (journal_of core assembly)
  pub last_followed : queue_just_picked (journal_of core assembly) ≡ None
