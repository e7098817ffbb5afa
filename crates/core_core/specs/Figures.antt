-- What a core tells of itself in numbers.
use Rattle.std.specs.Prelude.{ℕ, ◌+◌, Bool, length}
use Rattle.base_words.specs.declared.stats.CoreStats.{CoreStats}
use Rattle.base_words.specs.declared.stats.QueueStats.{QueueStats}
use Rattle.core_queues.specs.Queues.{waiting_of, parked_of, shares_of}
use Rattle.core_core.specs.State.{CoreView, tally_of, runtime_of, inside_count}

module _ {J : Type 0} where
  -- the numbers of a core, which is drained or not
  abbrev pub core_stats : CoreView J → Bool → CoreStats
  core_stats view drained = record { turns = view.turns; floor = view.floor; held = inside_count view; drained = drained }

  -- the numbers of a queue: parked jobs count among those that wait
  abbrev pub queue_stats : ℕ → CoreView J → QueueStats
  queue_stats queue view = record {
    shares = shares_of queue view.queues;
    selected = (tally_of queue view).selected;
    runtime = (tally_of queue view).time;
    virtual_runtime = runtime_of queue view;
    waiting = length (waiting_of queue view.queues) + length (parked_of queue view.queues);
    finished = (tally_of queue view).finished;
    returned = (tally_of queue view).returned;
  }
