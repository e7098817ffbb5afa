-- The task queues of a core as a caller sees them.
use Rattle.std.specs.Prelude.{ℕ, ◌+◌, ◌≤◌, Bool, true, false, Option, None, List, [], ◌∷◌, length, sum_by, slice_index_or}
use Rattle.base_words.specs.declared.names.JobId.{JobId}
use Rattle.base_words.specs.declared.order.Mode.{Mode}
use Rattle.base_words.specs.Limits.{most_queues}

-- what is marked of a job that waits: whether it was started, and whether a wake of it is kept
pub record Marks : Type 0 where
  pub started : Bool
  pub woken : Bool

-- the jobs that wait in a line, from the head to the tail, each with its name and its marks
abbrev pub Line : Type 0 → Type 0
Line J = List (JobId × Marks × J)

-- the jobs that are parked, in the order in which they were, each with its name
abbrev pub Parks : Type 0 → Type 0
Parks J = List (JobId × J)

-- a queue: its shares, the mode in which it was closed, if it was, the jobs that wait in it, and the parked ones
pub record QueueView (J : Type 0) : Type 0 where
  pub shares : ℕ
  pub mode : Option Mode
  pub waiting : Line J
  pub parked : Parks J

-- all queues of a core by number, and for how many jobs there is room
pub record QueuesView (J : Type 0) : Type 0 where
  pub queues : List (QueueView J)
  pub room : ℕ

module _ {J : Type 0} where
  -- a queue that nobody gave shares, that nobody closed, and in which no job waits
  abbrev pub no_queue : QueueView J
  no_queue = record { shares = 0; mode = None; waiting = []; parked = [] }

  -- how many queues there are
  abbrev pub queue_count : QueuesView J → ℕ
  queue_count view = length view.queues

  -- the shares of a queue, or 0 where there is no such queue
  abbrev pub shares_of : ℕ → QueuesView J → ℕ
  shares_of queue view = (slice_index_or view.queues queue no_queue).shares

  -- the mode in which a queue is closed, if there is such a queue and it is closed
  abbrev pub mode_of : ℕ → QueuesView J → Option Mode
  mode_of queue view = (slice_index_or view.queues queue no_queue).mode

  -- the line of a queue, or the empty one where there is no such queue
  abbrev pub waiting_of : ℕ → QueuesView J → Line J
  waiting_of queue view = (slice_index_or view.queues queue no_queue).waiting

  -- the parked jobs of a queue, or none where there is no such queue
  abbrev pub parked_of : ℕ → QueuesView J → Parks J
  parked_of queue view = (slice_index_or view.queues queue no_queue).parked

  -- how many jobs a queue holds, parked ones counted
  abbrev pub held_in : QueueView J → ℕ
  held_in queue = length queue.waiting + length queue.parked

  -- how many jobs all queues together hold
  abbrev pub held_count : QueuesView J → ℕ
  held_count view = sum_by held_in view.queues

  -- a job that comes to a line again: it was started, and no wake of it is kept
  abbrev pub awake : JobId × J → JobId × Marks × J
  awake parked = (parked.0, record { started = true; woken = false }, parked.1)

  -- one open queue with the default shares and no job, and room for this many jobs
  abbrev pub first_queue : ℕ → QueuesView J
  first_queue room = record { queues = record { shares = 1000; mode = None; waiting = []; parked = [] } ∷ []; room = room }

  -- what holds at any time: queue 0 is there, a number fits a byte, and no more jobs wait than there is room for
  pub record IsWithinLimits (view : QueuesView J) : Type 0 where
    pub some_queue : 1 ≤ queue_count view
    pub few_queues : queue_count view ≤ most_queues
    pub within_room : held_count view ≤ view.room
