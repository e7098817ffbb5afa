-- The statistics of a journal.
use Rattle.std.specs.Prelude.{ℕ, ◌-◌, ◌^◌, min, Bool, nat_le, if◌then◌else◌, Option, Some, None}
use Rattle.base_words.specs.declared.stats.CoreStats.{CoreStats}
use Rattle.base_words.specs.declared.stats.QueueStats.{QueueStats}
use Rattle.base_words.specs.Commands.{created_count}
use Rattle.base_words.specs.HandBacks.{jobs_held, picks_of}
use Rattle.base_words.specs.Journal.{Journal}
use Rattle.base_words.specs.Picks.{turns}
use Rattle.base_words.specs.Runtimes.{shares, floor, virtual_runtime}
use Rattle.base_words.specs.Sums.{run_time, waiting_count, finished_count, returned_count}

-- the statistics of one queue, where a turn may have so many polls; a virtual runtime that no `u128` holds is told as the greatest one
abbrev pub stats_of : {T : Type 0} → ℕ → ℕ → Journal T → QueueStats
stats_of burst queue journal = record {
  shares = shares queue journal;
  selected = picks_of queue journal;
  runtime = run_time burst queue journal;
  virtual_runtime = min (virtual_runtime burst queue journal) (2 ^ 128 - 1);
  waiting = waiting_count queue journal;
  finished = finished_count queue journal;
  returned = returned_count queue journal;
}

-- a queue has statistics if there is such a queue: queue 0, and those that were created behind it
abbrev pub queue_stats : {T : Type 0} → ℕ → ℕ → Journal T → Option QueueStats
queue_stats burst queue journal = if nat_le queue (created_count journal) then Some (stats_of burst queue journal) else None

-- the statistics of a core, which is drained or not
abbrev pub core_stats : {T : Type 0} → Bool → Journal T → CoreStats
core_stats drained journal = record { turns = turns journal; floor = floor journal; held = jobs_held journal; drained = drained }
