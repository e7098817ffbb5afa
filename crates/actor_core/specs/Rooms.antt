-- The room that a turn needs.
use Rattle.std.specs.Prelude.{◌≢◌, ℕ, ◌+◌, ◌-◌, ◌*◌, ◌≤◌, Option, Some, length, sum_by}
use Rattle.base_words.specs.declared.order.Mode.TheVariants.{Return}
use Rattle.base_words.specs.Bursts.{has_bursts, polls_in_turn, queue_in_turn}
use Rattle.base_words.specs.Closing.{core_mode}
use Rattle.base_words.specs.Work.{number_if}
use Rattle.actor_desk.specs.Spending.{left_of}
use Rattle.actor_core.specs.Recorded.{RecordedView}

-- the notes of a turn that aren't posted: three for its pick and its first poll, two for each further poll, and one for its end, if a note of its own ends it
abbrev pub turn_notes : ℕ → ℕ
turn_notes burst = 3 + 2 * (burst - 1) + number_if (has_bursts burst)

module _ {J T : Type 0} where
  -- the queue whose turn is open
  abbrev pub open_queue : RecordedView J T → Option ℕ
  open_queue view = queue_in_turn view.core.bursts.burst view.journal.notes

  -- there is room for a turn with polls: three notes for each place of each link, which its polls may post together, and those of the turn
  abbrev pub HasPollRoom : RecordedView J T → Type 0
  HasPollRoom view = length view.journal.notes + view.core.cores * (3 * view.cap) + turn_notes view.core.bursts.burst ≤ view.journal.room

  -- within a turn there is room for what is left of it: each note that may be posted before the next outcome is collected, two for each further poll, and one for its end
  abbrev pub HasRestRoom : RecordedView J T → Type 0
  HasRestRoom view = length view.journal.notes + sum_by left_of view.lanes + 2 * (view.core.bursts.burst - polls_in_turn view.journal.notes) + 1 ≤ view.journal.room

  -- there is room for a turn: a core that hands back takes two notes and polls nothing
  pub record HasTurnRoom (view : RecordedView J T) : Type 0 where
    pub back : length view.journal.notes + 2 ≤ view.journal.room
    pub poll : core_mode view.journal.notes ≢ Some Return → HasPollRoom view
