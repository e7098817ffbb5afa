-- What a wake does to a core.
use Rattle.std.specs.Prelude.{◌≡◌, ◌⊎◌, ℕ, ◌<◌, Bool, true, false, Option, Some, None, slice_set}
use Rattle.base_words.specs.declared.names.JobId.{JobId}
use Rattle.base_words.specs.Names.{is_name}
use Rattle.core_queues.specs.Queues.{queue_count}
use Rattle.core_queues.specs.Waking.{WakesParked, KeepsWake, HoldsNone}
use Rattle.core_core.specs.State.{CoreView, JobOut, tally_of, entry_runtime}

module _ {J : Type 0} where
  -- the name of the job that is out
  abbrev pub name_out : Option (JobOut J) → Option JobId
  name_out None = None
  name_out (Some job) = Some job.name

  -- whether the job of this name is out
  abbrev pub is_out : JobId → CoreView J → Bool
  is_out name view = is_name name (name_out view.out)

  -- the job is out, and the wake is kept for its next park
  pub record KeepsOutWake (old : CoreView J) (name : JobId) (new : CoreView J) : Type 0 where
    pub out : JobOut J
    pub was_out : old.out ≡ Some out
    pub named : name ≡ out.name
    pub rest : new ≡ record old { out = Some (record out { woken = true }) }

  -- the job waits, and the wake is kept for its next park
  pub record KeepsLineWake (old : CoreView J) (name : JobId) (new : CoreView J) : Type 0 where
    pub keeps : KeepsWake old.queues new.queues name
    pub rest : new ≡ record old { queues = new.queues }

  -- the job is parked: it comes to the tail of its queue, and the queue is placed as when a job enters it
  pub record EndsPark (old : CoreView J) (name : JobId) (new : CoreView J) : Type 0 where
    pub queue : ℕ
    pub exists : queue < queue_count old.queues
    pub wakes : WakesParked old.queues new.queues name queue
    pub rest : new ≡ record old {
      queues = new.queues;
      tallies = slice_set old.tallies queue (record (tally_of queue old) { runtime = entry_runtime queue old });
    }

  -- a job that is inside is woken; the one that is out is asked first
  abbrev pub WakesJob : CoreView J → JobId → CoreView J → Type 0
  WakesJob old name new = KeepsOutWake old name new ⊎ ((is_out name old ≡ false) × (KeepsLineWake old name new ⊎ EndsPark old name new))

  -- no job of this name is out, waits or is parked
  abbrev pub IsAbsent : JobId → CoreView J → Type 0
  IsAbsent name view = (is_out name view ≡ false) × HoldsNone view.queues name

  -- a wake, by whether the job is inside
  abbrev pub Wakes : CoreView J → JobId → Bool → CoreView J → Type 0
  Wakes old name true new = WakesJob old name new
  Wakes old name false new = IsAbsent name old × (new ≡ old)
