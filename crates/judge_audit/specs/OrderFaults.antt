-- At which lines the second rule is broken.
use Rattle.std.specs.Prelude.{ℕ, ◌+◌, ◌<◌, ◌≤◌, ◌⊎◌, min, Option, Some, None}
use Rattle.base_words.specs.Assembly.{Assembly, journal_of, names_of}
use Rattle.base_words.specs.Clauses.{StandsInOrder}
use Rattle.base_words.specs.Filters.{accepted_orders, delivered_names, given_outcomes, collected_outcomes}
use Rattle.base_words.specs.Journal.{Journal}
use Rattle.judge_audit.specs.Sides.{TurnsOff}
use Rattle.note_facts.specs.Faults.{IsFirstFault}

-- the lesser of two lines, as far as they are there
abbrev pub lesser : Option ℕ → Option ℕ → Option ℕ
lesser None other = other
lesser (Some line) None = Some line
lesser (Some line) (Some other) = Some (min line other)

-- this is the least line of a fault, if there is any
abbrev pub IsLeast : (ℕ → Type 0) → Option ℕ → Type 0
IsLeast IsAt None = (line : ℕ) → IsAt line → ⊥
IsLeast IsAt (Some line) = IsAt line × ((other : ℕ) → IsAt other → line ≤ other)

-- the first line up to which what a core was delivered of a sender, one of the first, is no prefix of what that sent
pub record DeliveriesOff (assembly : Assembly ℕ) (core count line : ℕ) : Type 0 where
  pub sender : ℕ
  pub few : sender < count
  pub off : TurnsOff (delivered_names sender) (journal_of core assembly) (names_of (accepted_orders core (journal_of sender assembly))) line

-- the first line up to which what an actor collected of a core, one of the first, is no prefix of what that gave
pub record CollectionsOff (assembly : Assembly ℕ) (sender count line : ℕ) : Type 0 where
  pub core : ℕ
  pub few : core < count
  pub off :
      TurnsOff (λ (notes : Journal ℕ). names_of (collected_outcomes core notes)) (journal_of sender assembly)
      (names_of (given_outcomes sender (journal_of core assembly))) line

-- a line at which a link of an actor is off
abbrev pub LinksOff : Assembly ℕ → ℕ → ℕ → Type 0
LinksOff assembly actor line =
    ((actor < assembly.cores) × DeliveriesOff assembly actor (assembly.cores + 1) line) ⊎ CollectionsOff assembly actor assembly.cores line

-- a line at which an actor breaks the second rule: that of its first note that doesn't stand in order, or one at which a link is off
abbrev pub OrderOff : Assembly ℕ → ℕ → ℕ → Type 0
OrderOff assembly actor line = IsFirstFault (StandsInOrder assembly) (journal_of actor assembly) line ⊎ LinksOff assembly actor line
