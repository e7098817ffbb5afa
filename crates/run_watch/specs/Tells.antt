-- When numbers are those of a journal.
use Rattle.std.specs.Prelude.{◌≡◌, ◌↔◌, ℕ, ◌+◌, ◌<◌, ◌≤◌, Bool, true, IsTrue, List, [], length, Some, slice_get}
use Rattle.std.proofs.Common.{arith}
use Rattle.base_words.specs.Charge.{InRange}
use Rattle.base_words.specs.declared.stats.CoreStats.{CoreStats}
use Rattle.base_words.specs.declared.stats.QueueStats.{QueueStats}
use Rattle.base_words.specs.Closing.{IsDrained}
use Rattle.base_words.specs.Commands.{created_count}
use Rattle.base_words.specs.Journal.{Journal}
use Rattle.base_words.specs.Stats.{core_stats, stats_of}
use Rattle.run_watch.specs.Closed.{closed_by_itself}
use Rattle.run_watch.specs.Words.{core_words, queue_words, place_of, HasAt}
use Rattle.run_watch.specs.declared.board.Terms.{Terms}

-- of a core in a house of so many cores: its turns, its floor and the jobs inside, and whether it is drained
pub record TellsCore (cores : ℕ) (notes : Journal ℕ) (core : CoreStats) : Type 0 where
  pub sums : core ≡ core_stats core.drained notes
  pub drained : IsTrue core.drained ↔ IsDrained cores notes

-- of each queue that there is, by its number, where a turn may have so many polls
pub record TellsQueues (burst : ℕ) (notes : Journal ℕ) (queues : List QueueStats) : Type 0 where
  pub count : length queues ≡ created_count notes + 1
  pub each : (queue : ℕ) → queue < length queues → slice_get queues queue ≡ Some (stats_of burst queue notes)

-- A row of words tells the numbers of the core, and of each queue that has a place. If it tells that the core closed by itself, the notes tell so.
pub record Tells (terms : Terms) (notes : Journal ℕ) (row : List ℕ) : Type 0 where
  pub core : CoreStats
  pub core_is : TellsCore terms.cores notes core
  pub closed : Bool
  pub closed_is : closed ≡ true → closed_by_itself notes ≡ true
  pub core_stands : HasAt row 0 (core_words core (created_count notes + 1) closed)
  pub queue_stands : (queue : ℕ) → queue ≤ created_count notes → queue < terms.places → HasAt row (place_of queue) (queue_words (stats_of terms.burst queue notes))
  pub shares_fit : (queue : ℕ) → queue ≤ created_count notes → queue < terms.places → InRange (stats_of terms.burst queue notes).shares

-- the first queue of a core isn't told
pub first_queue_untold : TellsQueues 1 [] [] → ⊥
first_queue_untold tells = absurd (omega (arith, tells.count))
