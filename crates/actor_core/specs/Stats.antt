-- The numbers of a core and of its queues: the sums over the core's journal.
use Rattle.std.specs.Prelude.{◌≡◌, ◌↔◌, All, ℕ, ◌+◌, ◌-◌, ◌^◌, ◌<◌, ◌≤◌, List, length, Some, slice_get, IsTrue}
use Rattle.base_words.specs.declared.stats.CoreStats.{CoreStats}
use Rattle.base_words.specs.declared.stats.QueueStats.{QueueStats}
use Rattle.base_words.specs.Closing.{IsDrained}
use Rattle.base_words.specs.Commands.{created_count}
use Rattle.base_words.specs.Journal.{Journal}
use Rattle.base_words.specs.Lines.{line}
use Rattle.base_words.specs.Parks.{parked}
use Rattle.base_words.specs.Runtimes.{virtual_runtime}
use Rattle.base_words.specs.Stats.{core_stats, stats_of}

module _ {T : Type 0} where
  -- of a core: its turns, its floor and the jobs inside, and whether it is drained
  pub record TellsCore (cores : ℕ) (journal : Journal T) (told : CoreStats) : Type 0 where
    pub sums : told ≡ core_stats told.drained journal
    pub drained : IsTrue told.drained ↔ IsDrained cores journal

  -- of a queue whose turns have so many polls: all its statistics; its virtual runtime is never cut, and the jobs that wait are those of its line and the parked ones
  pub record TellsQueue (burst queue : ℕ) (journal : Journal T) (told : QueueStats) : Type 0 where
    pub sums : told ≡ stats_of burst queue journal
    pub runtime_is : told.virtual_runtime ≡ virtual_runtime burst queue journal
    pub waiting_are : told.waiting ≡ length (line queue journal) + length (parked queue journal)

  -- of each queue that there is, by its number
  pub record TellsQueues (burst : ℕ) (journal : Journal T) (count : ℕ) (told : List QueueStats) : Type 0 where
    pub count_is : count ≡ created_count journal + 1
    pub each : (queue : ℕ) → queue ≤ created_count journal → (stats : QueueStats) × (slice_get told queue ≡ Some stats) × TellsQueue burst queue journal stats

-- of each queue fewer jobs are told as done than a core counts up to
abbrev pub AreExact : List QueueStats → Type 0
AreExact told = All (λ stats. stats.finished < 2 ^ 64 - 1) told
