-- What holds inside a core.
use Rattle.std.specs.Prelude.{◌≡◌, ℕ, ◌+◌, ◌*◌, ◌^◌, ◌<◌, ◌≤◌, ◌==◌, ◌&&◌, not, Bool, false, Option, Some, None, is_some, IfSome, List, [], ◌∷◌, length, All, slice_index_or, if◌then◌else◌}
use Rattle.base_words.specs.declared.names.Key.{Key}
use Rattle.base_words.specs.declared.order.Mode.{Mode}
use Rattle.base_words.specs.Limits.{most_queues}
use Rattle.base_words.specs.Names.{is_number}
use Rattle.base_words.specs.Work.{number_if}
use Rattle.base_jobs.specs.Ready.{IsReady}
use Rattle.core_queues.specs.Queues.{QueuesView, waiting_of, parked_of, queue_count, IsWithinLimits}
use Rattle.core_core.specs.declared.bursts.Bursts.{Bursts}
use Rattle.core_core.specs.declared.out.Out.{Out}
use Rattle.core_core.specs.declared.tally.Tally.{Tally}
use Rattle.core_core.specs.Senders.{SendersView}
use Rattle.core_core.specs.State.{CoreView, JobOut, is_any, runtime_of, inside_count}
use Rattle.core_core.specs.Bursts.{queue_held, KeepsTurn}
use Rattle.base_jobs.specs.Meanings.{Meaning}

-- the job that is out, as callers see it
abbrev pub job_out : {J : Type 0} → Option (Out J) → Option (JobOut J)
job_out None = None
job_out (Some out) = Some (record { name = out.name; queue = out.queue; woken = out.woken; job = out.job.value })

-- the virtual runtime of a queue's key, if it is among these keys
abbrev pub runtime_listed : ℕ → List Key → Option ℕ
runtime_listed queue [] = None
runtime_listed queue (key ∷ later) = if queue == key.queue then Some key.vr else runtime_listed queue later

-- what is counted of a queue fits this many turns, of which so many aren't charged yet; the count of done jobs fits a word
pub record FitsTurns (turns unsettled : ℕ) (tally : Tally) : Type 0 where
  pub runtime : tally.runtime + unsettled * 2 ^ 50 ≤ turns * 2 ^ 50
  pub selected : tally.selected ≤ turns
  pub time : tally.time + unsettled * 2 ^ 40 ≤ turns * 2 ^ 40
  pub finished : tally.finished < 2 ^ 64
  pub returned : tally.returned + unsettled ≤ turns

-- a queue has its slip exactly where none of these keys is of it
pub record KeepsSlips (queues : ℕ) (slips : List Bool) (keys : List Key) : Type 0 where
  pub counted : length slips ≡ queues
  pub at : (queue : ℕ) → queue < queues → slice_index_or slips queue false ≡ not (is_some (runtime_listed queue keys))

module _ {J : Type 0} where
  -- what callers see of these fields
  abbrev pub core_view : ℕ → ℕ → QueuesView J → List Tally → ℕ → ℕ → Option (JobOut J) → SendersView → Option Mode → Bursts → CoreView J
  core_view core cores queues tallies floor turns out senders mode bursts = record {
    core = core;
    cores = cores;
    queues = queues;
    tallies = tallies;
    floor = floor;
    turns = turns;
    out = out;
    delivered = senders.delivered;
    gates = senders.gates;
    mode = mode;
    bursts = bursts;
  }

  -- a queue may be picked if a job waits in it and it isn't held
  abbrev pub may_run : ℕ → CoreView J → Bool
  may_run queue view = is_any (waiting_of queue view.queues) && not (is_number queue (queue_held view))

  -- how many turns aren't charged yet
  abbrev pub unsettled_count : CoreView J → ℕ
  unsettled_count view = number_if (is_some (queue_held view))

  -- the counts that a core keeps beside what its callers see
  pub record KeepsCounts (view : CoreView J) (inside room tally_places : ℕ) : Type 0 where
    pub limits : IsWithinLimits view.queues
    pub tallies : length view.tallies ≡ queue_count view.queues
    pub senders : length view.delivered ≡ view.cores + 1
    pub all_inside : inside ≡ inside_count view
    pub within_room : inside ≤ room
    pub same_room : room ≡ view.queues.room
    pub reserved : most_queues ≤ tally_places
    pub out : IfSome view.out (λ job. job.queue < queue_count view.queues)

  -- the keys are those of the queues that may be picked
  pub record IsListed (view : CoreView J) (keys : List Key) : Type 0 where
    pub at : (queue : ℕ) → runtime_listed queue keys ≡ (if may_run queue view then Some (runtime_of queue view) else None)

  -- each job that waits may be polled, and so may each that is parked
  pub record IsPollable {T : Type 0} (meaning : Meaning J T) (view : CoreView J) : Type 0 where
    pub at : (queue : ℕ) → All (λ waiting. IsReady meaning waiting.2) (waiting_of queue view.queues)
    pub parked : (queue : ℕ) → All (λ parked. IsReady meaning parked.1) (parked_of queue view.queues)

  -- no count outgrows the turns
  pub record IsWithinTurns (view : CoreView J) : Type 0 where
    pub tallies : All (FitsTurns view.turns (unsettled_count view)) view.tallies
    pub floor : view.floor + unsettled_count view * 2 ^ 50 ≤ view.turns * 2 ^ 50

  pub record IsCore {T : Type 0} (meaning : Meaning J T) (view : CoreView J) (slips : List Bool) (keys : List Key) (inside room tally_places : ℕ) : Type 0 where
    pub counted : KeepsCounts view inside room tally_places
    pub listed : IsListed view keys
    pub slipped : KeepsSlips (queue_count view.queues) slips keys
    pub pollable : IsPollable meaning view
    pub turns : IsWithinTurns view
    pub turning : KeepsTurn view
