-- At which place a rule is broken first.
use Rattle.std.specs.Prelude.{◌≡◌, ℕ, ◌+◌, ◌<◌, ◌⊎◌, Some}
use Rattle.base_words.specs.Assembly.{Assembly, journal_of}
use Rattle.base_words.specs.Clauses.{StartsRight, RespectsCloses, OutcomesRight}
use Rattle.note_facts.specs.Faults.{IsFirstFault}
use Rattle.judge_audit.specs.PickFaults.{IsPickFault}
use Rattle.judge_audit.specs.OrderFaults.{IsLeast, OrderOff}
use Rattle.judge_audit.specs.Places.{StartsOf, IsInOrder, ClosesOf, LosesNothing, OutcomesOf, PicksOf}

-- of so many actors this is the first that doesn't keep to a rule, and this is the line of its fault
pub record IsFirstPlace (count : ℕ) (Keeps : ℕ → Type 0) (IsAt : ℕ → ℕ → Type 0) (actor line : ℕ) : Type 0 where
  pub within : actor < count
  pub before : (other : ℕ) → other < actor → Keeps other
  pub here : IsAt actor line

-- the line of an actor's first fault, of the first rule
abbrev pub StartsFault : Assembly ℕ → ℕ → ℕ → Type 0
StartsFault assembly actor line = IsFirstFault (StartsRight assembly) (journal_of actor assembly) line

-- of the second rule: the least of all lines at which it is broken
abbrev pub OrderFault : Assembly ℕ → ℕ → ℕ → Type 0
OrderFault assembly actor line = IsLeast (OrderOff assembly actor) (Some line)

-- of the third rule
abbrev pub ClosesFault : Assembly ℕ → ℕ → ℕ → Type 0
ClosesFault assembly core line = IsFirstFault (RespectsCloses assembly core) (journal_of core assembly) line

-- of the fourth rule: 0 if a drained core has lost something
abbrev pub OutcomesFault : Assembly ℕ → ℕ → ℕ → Type 0
OutcomesFault assembly actor line =
    ((line ≡ 0) × (LosesNothing assembly actor → ⊥)) ⊎
    (LosesNothing assembly actor × IsFirstFault (OutcomesRight assembly) (journal_of actor assembly) line)

-- of the fifth rule: of a pick that isn't followed as it should be, its own line
abbrev pub PicksFault : Assembly ℕ → ℕ → ℕ → Type 0
PicksFault assembly core line = IsPickFault assembly.burst (journal_of core assembly) line

-- the rule of this number is broken at this place first: at the first actor that doesn't keep to it, at the line of its fault
pub record IsPlaceOf (assembly : Assembly ℕ) (rule actor line : ℕ) : Type 0 where
  pub starts : rule ≡ 1 → IsFirstPlace (assembly.cores + 1) (StartsOf assembly) (StartsFault assembly) actor line
  pub order : rule ≡ 2 → IsFirstPlace (assembly.cores + 1) (IsInOrder assembly) (OrderFault assembly) actor line
  pub closes : rule ≡ 3 → IsFirstPlace assembly.cores (ClosesOf assembly) (ClosesFault assembly) actor line
  pub outcomes : rule ≡ 4 → IsFirstPlace (assembly.cores + 1) (OutcomesOf assembly) (OutcomesFault assembly) actor line
  pub picks : rule ≡ 5 → IsFirstPlace assembly.cores (PicksOf assembly) (PicksFault assembly) actor line
