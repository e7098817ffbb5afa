-- What a core is, as its callers see it.
use Rattle.std.specs.Prelude.{ℕ, ◌+◌, ◌*◌, ◌^◌, ◌≤◌, ◌||◌, Bool, true, false, Option, Some, None, is_some, slice_index_or, replicate, List, [], ◌∷◌, if◌then◌else◌}
use Rattle.base_words.specs.Charge.{placed}
use Rattle.base_words.specs.declared.names.JobId.{JobId}
use Rattle.base_words.specs.declared.order.Mode.{Mode}
use Rattle.base_words.specs.Names.{is_number}
use Rattle.base_words.specs.Work.{number_if}
use Rattle.core_core.specs.declared.bursts.Bursts.{Bursts}
use Rattle.core_core.specs.declared.tally.Tally.{Tally}
use Rattle.core_queues.specs.Queues.{QueuesView, waiting_of, held_count}

-- a job that is out: its name, its queue, whether a wake of it is kept, and the job as it was when it left
pub record JobOut (J : Type 0) : Type 0 where
  pub name : JobId
  pub queue : ℕ
  pub woken : Bool
  pub job : J

-- what is counted of a new queue
abbrev pub no_tally : Tally
no_tally = record { runtime = 0; selected = 0; time = 0; finished = 0; returned = 0 }

-- the core's number and how many cores there are, its queues with their tallies, the floor, the turns made, the job that is out, how many submissions of each sender were delivered, the final count of each gate that is shut,
-- the mode in which it was closed, if it was, and how many polls a turn may have, with the turn that is open
pub record CoreView (J : Type 0) : Type 0 where
  pub core : ℕ
  pub cores : ℕ
  pub queues : QueuesView J
  pub tallies : List Tally
  pub floor : ℕ
  pub turns : ℕ
  pub out : Option (JobOut J)
  pub delivered : List ℕ
  pub gates : List (Option ℕ)
  pub mode : Option Mode
  pub bursts : Bursts

-- whether there is any
abbrev pub is_any : {A : Type 0} → List A → Bool
is_any [] = false
is_any (_ ∷ _) = true

module _ {J : Type 0} where
  abbrev pub tally_of : ℕ → CoreView J → Tally
  tally_of queue view = slice_index_or view.tallies queue no_tally

  -- the virtual runtime of a queue
  abbrev pub runtime_of : ℕ → CoreView J → ℕ
  runtime_of queue view = (tally_of queue view).runtime

  -- how many submissions of a sender were delivered
  abbrev pub delivered_of : ℕ → CoreView J → ℕ
  delivered_of sender view = slice_index_or view.delivered sender 0

  -- the final count of a sender's gate, if it is shut
  abbrev pub gate_of : ℕ → CoreView J → Option ℕ
  gate_of sender view = slice_index_or view.gates sender None

  abbrev pub queue_out : Option (JobOut J) → Option ℕ
  queue_out None = None
  queue_out (Some job) = Some job.queue

  -- a queue has work if a job waits in it, or the job that is out is of it
  abbrev pub is_working : ℕ → CoreView J → Bool
  is_working queue view = is_any (waiting_of queue view.queues) || is_number queue (queue_out view.out)

  -- how many jobs are out
  abbrev pub out_count : CoreView J → ℕ
  out_count view = number_if (is_some view.out)

  -- how many jobs are inside: those that wait or are parked, and the one that is out
  abbrev pub inside_count : CoreView J → ℕ
  inside_count view = held_count view.queues + out_count view

  -- where a queue stands as a job enters it: at the floor, if it had no work
  abbrev pub entry_runtime : ℕ → CoreView J → ℕ
  entry_runtime queue view =
      if is_working queue view then runtime_of queue view else placed (runtime_of queue view) view.floor

  -- no virtual runtime wraps: each turn that was charged added at most 2^50
  abbrev pub IsBounded : CoreView J → Type 0
  IsBounded view = (queue : ℕ) → runtime_of queue view ≤ view.turns * 2 ^ 50

  -- a core as it opens: queue 0 alone, with no job, nothing delivered, nothing closed, and no open turn
  abbrev pub opened : ℕ → ℕ → ℕ → ℕ → ℕ → CoreView J
  opened core cores room turns burst = record {
    core = core;
    cores = cores;
    queues = record { queues = record { shares = 1000; mode = None; waiting = []; parked = [] } ∷ []; room = room };
    tallies = no_tally ∷ [];
    floor = 0;
    turns = turns;
    out = None;
    delivered = replicate (cores + 1) 0;
    gates = replicate (cores + 1) None;
    mode = None;
    bursts = record { burst = burst; «open» = None };
  }
