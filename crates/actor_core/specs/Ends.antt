-- What an end that a core receives from is to the core and its journal.
use Rattle.std.specs.Prelude.{◌≡◌, ℕ, ◌+◌, ◌≤◌, Option, Some, None, List, length, slice_get}
use Rattle.base_words.specs.declared.names.JobId.{JobId}
use Rattle.base_words.specs.declared.order.Order.{Order}
use Rattle.base_words.specs.declared.order.Outcome.{Outcome}
use Rattle.base_words.specs.declared.note.OutcomeNote.{OutcomeNote}
use Rattle.base_words.specs.Journal.{with_last}
use Rattle.base_words.specs.Filters.{delivered_names, given_outcomes}
use Rattle.base_words.specs.Closing.{final_count}
use Rattle.link_ends.specs.declared.ends.Inward.{Inward}
use Rattle.link_ends.specs.Calls.{final_of}
pub use Rattle.link_ends.specs.Calls.{Gives}
pub use Rattle.actor_core.specs.Lists.{KeepsLists, GivesMore, told_under}
use Rattle.actor_desk.specs.Ends.{name_of, named_outcomes}
use Rattle.actor_core.specs.Recorded.{RecordedView, order_taken}

module _ {J T : Type 0} where
  -- the outcome that is owed wasn't given
  abbrev pub IsUngiven : Option (JobId × OutcomeNote T) → List (ℕ × Outcome J T) → Type 0
  IsUngiven None given = Unit {0}
  IsUngiven (Some owed) given = (place : ℕ) (outcome : ℕ × Outcome J T) → slice_get given place ≡ Some outcome → outcome.0 ≡ owed.0.number → ⊥

  -- the receiver's end beside its core and journal: what was taken was delivered, in the order sent; what is told as given was given, except this outcome, if there is one;
  -- the gate is shut where a note says so, at the number of the last order
  pub record IsInOwing (sender : ℕ) (owed : Option (JobId × OutcomeNote T)) (view : RecordedView J T) (inward : Inward J T) : Type 0 where
    pub known : sender ≤ view.core.cores
    pub from : inward.from ≡ sender
    pub to : inward.to ≡ view.core.core
    pub base : inward.base ≡ 0
    pub capacity : inward.capacity ≡ view.cap
    pub gate : final_count sender view.journal.notes ≡ final_of inward inward.shut
    pub taken : length (delivered_names sender view.journal.notes) ≡ inward.taken
    pub behind : inward.taken ≤ length inward.seen
    pub given : given_outcomes sender view.journal.notes ≡ with_last (named_outcomes sender view.core.core inward.given) owed
    pub ungiven : IsUngiven owed inward.given
    pub orders : (name : JobId) (order : Order J) → name.from ≡ sender → order_taken view.took name ≡ Some order →
        (place : ℕ) × (name ≡ name_of sender view.core.core (place + 1)) × (slice_get inward.seen place ≡ Some order)

  -- the same, with no outcome owed
  abbrev pub IsInOf : ℕ → RecordedView J T → Inward J T → Type 0
  IsInOf sender view inward = IsInOwing sender None view inward

  -- a step leaves this outcome owed on the end of this sender, if there is one, and else the end as it is to the core and its journal
  pub record LeavesOwed (sender : ℕ) (owed : Option (JobId × OutcomeNote T)) (old new : RecordedView J T) : Type 0 where
    pub each : (inward : Inward J T) → IsInOf sender old inward → IsInOwing sender owed new inward

  -- a step leaves the end of this sender as it is to the core and its journal
  abbrev pub KeepsIn : ℕ → RecordedView J T → RecordedView J T → Type 0
  KeepsIn sender old new = LeavesOwed sender None old new

  -- what no step changes: the numbers of the core, of the cores, of places and of a turn's polls, the room of the journal, and what it passed on
  pub record IsSameSeat (old new : RecordedView J T) : Type 0 where
    pub number : new.core.core ≡ old.core.core
    pub cores : new.core.cores ≡ old.core.cores
    pub cap : new.cap ≡ old.cap
    pub burst : new.core.bursts.burst ≡ old.core.bursts.burst
    pub room : new.journal.room ≡ old.journal.room
    pub passed : new.journal.passed ≡ old.journal.passed
