-- The representation: all jobs of a core in one slab, each with the key of the next in its line.
use Rattle.std.specs.Prelude.{◌≡◌, ℕ, zero, suc, ◌+◌, ◌≤◌, ◌<◌, Bool, true, false, List, [], ◌∷◌, ◌++◌, length, map, sum_by, Option, Some, None, is_some, IsSome, slice_index_or}
use Rattle.slab.specs.Slab.{Slab, get, slab_len}
use Rattle.base_words.specs.declared.names.JobId.{JobId}
use Rattle.base_words.specs.Limits.{most_queues}
use Rattle.core_queues.specs.declared.waiting.Waiting.{Waiting}
use Rattle.core_queues.specs.declared.line.Line.{Line}
use Rattle.core_queues.specs.declared.line.Queue.{Queue}
use Rattle.core_queues.specs.View.{Marks, QueueView}
use Rattle.core_queues.specs.View.{Line as Says}
use Rattle.core_queues.specs.Slips.{SlippedView}

-- a line in which no job stands
abbrev pub no_line : Line
no_line = record { head = 0; tail = 0; count = 0 }

-- an open queue without shares in which no job waits, and none is parked
abbrev pub no_queue : Queue
no_queue = record { waiting = no_line; parked = no_line; shares = 0; mode = None }

-- one of the two lines of a queue: of those that wait, or of those that are parked
pub record Spot : Type 0 where
  pub queue : ℕ
  pub is_parked : Bool

-- the line of a queue of those that wait, or that of those that are parked
abbrev pub side : Bool → Queue → Line
side false queue = queue.waiting
side true queue = queue.parked

-- the queue of a number, or the empty one
abbrev pub queue_at : List Queue → ℕ → Queue
queue_at queues queue = slice_index_or queues queue no_queue

-- the line at a spot, or the empty one
abbrev pub line_at : List Queue → Spot → Line
line_at queues spot = side spot.is_parked (queue_at queues spot.queue)

-- how many jobs wait or are parked in all queues
abbrev pub job_count : List Queue → ℕ
job_count queues = sum_by (λ queue. queue.waiting.count + queue.parked.count) queues

module _ {J : Type 0} where
  -- the key of the next entry
  abbrev pub next_of : Option (Waiting J) → ℕ
  next_of None = 0
  next_of (Some waiting) = waiting.next

  -- what a line shows of an entry
  abbrev pub shown : Option (Waiting J) → Says J
  shown None = []
  shown (Some waiting) = (waiting.name, record { started = waiting.started; woken = waiting.woken }, waiting.job) ∷ []

  -- what the parked jobs show of one
  abbrev pub shown_parked : JobId × Marks × J → JobId × J
  shown_parked entry = (entry.0, entry.2)

  -- a chain: the key at its first place is this one, and each further key is the next of the entry before it
  abbrev pub key_at : (ℕ → Option (Waiting J)) → ℕ → ℕ → ℕ
  key_at entry head zero = head
  key_at entry head (suc place) = next_of (entry (key_at entry head place))

  -- what the entries of a chain of this length show
  abbrev pub chain : (ℕ → Option (Waiting J)) → ℕ → ℕ → Says J
  chain entry head zero = []
  chain entry head (suc count) = chain entry head count ++ shown (entry (key_at entry head count))

  -- a queue, as a caller sees it
  abbrev pub queue_of : (ℕ → Option (Waiting J)) → Queue → QueueView J
  queue_of entry queue = record {
    shares = queue.shares;
    mode = queue.mode;
    waiting = chain entry queue.waiting.head queue.waiting.count;
    parked = map shown_parked (chain entry queue.parked.head queue.parked.count);
  }

  -- the queues that these entries, lines and slips are
  abbrev pub linked_view : ℕ → Slab (Waiting J) → List Queue → List (Option ℕ) → SlippedView J
  linked_view room jobs queues slips = record { queues = map (queue_of (get jobs)) queues; room = room; slips = map is_some slips }

  -- each line is a chain of entries that have a job, and no key stands at two places, of one line or of two
  pub record IsLinked (entry : ℕ → Option (Waiting J)) (line : Spot → Line) : Type 0 where
    pub filled : (spot : Spot) (place : ℕ) → place < (line spot).count → IsSome (entry (key_at entry (line spot).head place))
    pub apart : (one : Spot) (here : ℕ) (other : Spot) (there : ℕ) → here < (line one).count → there < (line other).count
        → key_at entry (line one).head here ≡ key_at entry (line other).head there → (one ≡ other) × (here ≡ there)
    pub tails : (spot : Spot) (last : ℕ) → (line spot).count ≡ suc last → (line spot).tail ≡ key_at entry (line spot).head last

  -- the lines hold all jobs, and no call except the opening needs memory
  pub record IsKept (room line_places : ℕ) (jobs : Slab (Waiting J)) (queues : List Queue) : Type 0 where
    pub linked : IsLinked (get jobs) (line_at queues)
    pub counted : job_count queues ≡ slab_len jobs
    pub within_room : slab_len jobs ≤ room
    pub reserved : room ≤ jobs.capacity
    pub some_queue : 1 ≤ length queues
    pub few_queues : length queues ≤ most_queues
    pub queues_reserved : most_queues ≤ line_places

-- there is a place for the slip of each queue, and a slip stands at the place of its own queue
pub record HasOwnSlips (count slip_places : ℕ) (slips : List (Option ℕ)) : Type 0 where
  pub own : (queue slip : ℕ) → slice_index_or slips queue None ≡ Some slip → slip ≡ queue
  pub counted : length slips ≡ count
  pub reserved : most_queues ≤ slip_places
