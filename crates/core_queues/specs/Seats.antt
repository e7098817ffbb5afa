-- How a job is found by its name: which key it has, and where it is parked.
use Rattle.std.specs.Prelude.{◌≡◌, ◌⊎◌, ℕ, suc, ◌<◌, true, false, List, length, Option, Some, None, slice_index_or}
use Rattle.slab.specs.Slab.{Slab, get}
use Rattle.base_words.specs.declared.names.JobId.{JobId}
use Rattle.core_index.specs.Buckets.{Names, name_at}
use Rattle.core_queues.specs.declared.waiting.Waiting.{Waiting}
use Rattle.core_queues.specs.declared.seats.ParkedAt.{ParkedAt}
use Rattle.core_queues.specs.declared.seats.Stands.{Stands}
use Rattle.core_queues.specs.declared.seats.Stands.TheVariants.{Parked, Waits}
use Rattle.core_queues.specs.declared.line.Line.{Line}
use Rattle.core_queues.specs.declared.line.Queue.{Queue}
use Rattle.core_queues.specs.Linked.{queue_at, key_at}

-- the seat of a key that no parked job has
abbrev pub no_seat : ParkedAt
no_seat = record { before = 0; queue = 0; parked = false }

-- the seat of a key, or the vacant one
abbrev pub seat_at : List ParkedAt → ℕ → ParkedAt
seat_at seats key = slice_index_or seats key no_seat

-- what a seat tells of where its job stands
abbrev pub Tells : ParkedAt → Stands → Type 0
Tells seat (Parked queue before) = (seat.parked ≡ true) × (seat.queue ≡ queue) × (seat.before ≡ before)
Tells seat Waits = seat.parked ≡ false

-- the job under this key is parked in this queue
abbrev pub HasSeat : List ParkedAt → ℕ → ℕ → Type 0
HasSeat seats key queue = ((seat_at seats key).parked ≡ true) × ((seat_at seats key).queue ≡ queue)

-- a place of the parked jobs of this queue has this key
abbrev pub HasPlace : (ℕ → ℕ) → (ℕ → ℕ → ℕ) → ℕ → ℕ → Type 0
HasPlace counts keys queue key = (place : ℕ) × (place < counts queue) × (keys queue place ≡ key)

-- so many parked jobs of each queue, with these keys, have their seats, and know the one before them; no other key has one
pub record AreSeated (counts : ℕ → ℕ) (keys : ℕ → ℕ → ℕ) (seats : List ParkedAt) : Type 0 where
  pub stands : (queue place : ℕ) → place < counts queue → HasSeat seats (keys queue place) queue
  pub behind : (queue place : ℕ) → suc place < counts queue → (seat_at seats (keys queue (suc place))).before ≡ keys queue place
  pub only : (key : ℕ) → (seat_at seats key).parked ≡ true → HasPlace counts keys (seat_at seats key).queue key

-- the job under a key has no seat any more, and the one behind it is told the key before it, unless this was the last
pub record LeavesSeat (old : List ParkedAt) (line : Line) (key next : ℕ) (new : List ParkedAt) : Type 0 where
  pub size : length new ≡ length old
  pub gone : (seat_at new key).parked ≡ false
  pub parked : (other : ℕ) → (other ≡ key → ⊥) → (seat_at new other).parked ≡ (seat_at old other).parked
  pub queue : (other : ℕ) → (other ≡ key → ⊥) → (seat_at new other).queue ≡ (seat_at old other).queue
  pub before : (other : ℕ) → (other ≡ key → ⊥) → ((line.tail ≡ key → ⊥) → other ≡ next → ⊥) → (seat_at new other).before ≡ (seat_at old other).before
  pub told : (line.tail ≡ key → ⊥) → (seat_at new next).before ≡ (seat_at old key).before

-- the first of these keys have no seat any more, and no other seat changes
pub record Vacates (keys : ℕ → ℕ) (count : ℕ) (old new : List ParkedAt) : Type 0 where
  pub size : length new ≡ length old
  pub vacant : (place : ℕ) → place < count → (seat_at new (keys place)).parked ≡ false
  pub others : (key : ℕ) → ((place : ℕ) → place < count → keys place ≡ key → ⊥) → seat_at new key ≡ seat_at old key
  pub either : (key : ℕ) → (seat_at new key ≡ seat_at old key) ⊎ ((seat_at new key).parked ≡ false)

-- how many jobs of a queue are parked
abbrev pub parked_counts : List Queue → ℕ → ℕ
parked_counts queues queue = (queue_at queues queue).parked.count

module _ {J : Type 0} where
  -- the name of the job of an entry
  abbrev pub name_of : Option (Waiting J) → Option JobId
  name_of None = None
  name_of (Some waiting) = Some waiting.name

  -- the keys of the parked jobs of a queue
  abbrev pub parked_keys : Slab (Waiting J) → List Queue → ℕ → ℕ → ℕ
  parked_keys jobs queues queue = key_at (get jobs) (queue_at queues queue).parked.head

  -- the index knows each job's name, and each parked job has its seat
  pub record AreFound (jobs : Slab (Waiting J)) (queues : List Queue) (names : Names) (seats : List ParkedAt) : Type 0 where
    pub named : (key : ℕ) → name_at names key ≡ name_of (get jobs key)
    pub seated : AreSeated (parked_counts queues) (parked_keys jobs queues) seats
    pub names_size : length names ≡ jobs.capacity
    pub seats_size : length seats ≡ jobs.capacity
