-- What the walk of the second rule knows of the notes that it has read.
use Rattle.std.specs.Prelude.{◌≡◌, ℕ, ◌+◌, ◌*◌, ◌-◌, ◌<◌, ◌≤◌, ◌^◌, ◌⊎◌, true, Option, Some, None, length, get_or}
use Rattle.base_words.specs.declared.names.JobId.{JobId}
use Rattle.base_words.specs.declared.order.Order.{Order}
use Rattle.base_words.specs.declared.order.Order.TheVariants.{Job}
use Rattle.base_words.specs.Assembly.{Assembly, order_of}
use Rattle.base_words.specs.Clauses.{StartsRight, StandsInOrder}
use Rattle.base_words.specs.Filters.{accepted_orders, name_started}
use Rattle.base_words.specs.Journal.{Journal, EachNote, is_told}
use Rattle.base_words.specs.Work.{queue_of}
use Rattle.judge_audit.specs.declared.order.Numbers.{Numbers}

-- the queue that an order is a job for
abbrev pub queue_asked : Option (Order (Unit {0})) → Option ℕ
queue_asked (Some (Job queue task)) = Some queue
queue_asked _ = None

-- the place of a sender and a queue
abbrev pub slot : ℕ → ℕ → ℕ
slot sender queue = sender * 256 + queue

-- how many numbers are kept: 256 for each of 17 senders
abbrev pub all_rows : ℕ
all_rows = 4352

-- the greatest number that a word holds
abbrev pub greatest_word : ℕ
greatest_word = 2 ^ 64 - 1

-- the greatest number that started of a sender in a queue
abbrev pub last_started : Numbers → ℕ → ℕ → ℕ
last_started numbers sender queue = get_or numbers.started (slot sender queue) greatest_word

-- this is a job, and its number is above all that started of its sender in its queue
pub record IsAbove (numbers : Numbers) (order : Option (Order (Unit {0}))) (name : JobId) : Type 0 where
  pub queue : ℕ
  pub asked : queue_asked order ≡ Some queue
  pub above : last_started numbers name.from queue < name.number

-- no job that started has a greater number than is kept for its sender and its queue, and the sends to each core are counted
pub record KnowsNumbers (assembly : Assembly ℕ) (numbers : Numbers) (before : Journal ℕ) : Type 0 where
  pub started : (name : JobId) (queue : ℕ) → is_told name_started name before ≡ true → queue_asked (order_of name assembly) ≡ Some queue →
      name.number ≤ last_started numbers name.from queue
  pub sent : (core : ℕ) → get_or numbers.sent core 0 ≡ length (accepted_orders core before)

-- a job with this number started of this sender and this queue
pub record HasReached (assembly : Assembly ℕ) (sender queue number : ℕ) (before : Journal ℕ) : Type 0 where
  pub name : JobId
  pub started : is_told name_started name before ≡ true
  pub from : name.from ≡ sender
  pub asked : queue_asked (order_of name assembly) ≡ Some queue
  pub at : name.number ≡ number

-- each number that is kept, if it isn't 0, is that of a job that started
abbrev pub AreReached : Assembly ℕ → Numbers → Journal ℕ → Type 0
AreReached assembly numbers before =
    (sender queue : ℕ) → queue < 256 → 0 < last_started numbers sender queue → slot sender queue < length numbers.started →
    HasReached assembly sender queue (last_started numbers sender queue) before

-- the numbers are kept as they were, or this one is kept for this sender and this queue
abbrev pub Raises : Numbers → Numbers → ℕ → ℕ → ℕ → Type 0
Raises old new from queue number =
    (sender other : ℕ) → other < 256 →
    (last_started new sender other ≡ last_started old sender other) ⊎ ((sender ≡ from) × (other ≡ queue) × (last_started new sender other ≡ number))

-- each job is in the queue that it was sent to
abbrev pub EnteredAsSent : Assembly ℕ → Journal ℕ → Type 0
EnteredAsSent assembly before = (name : JobId) (queue : ℕ) → queue_of name before ≡ Some queue → order_of name assembly ≡ Some (Job queue tt)

-- the numbers are known, and each note stood in order
pub record OrderSoFar (assembly : Assembly ℕ) (numbers : Numbers) (before : Journal ℕ) : Type 0 where
  pub known : KnowsNumbers assembly numbers before
  pub right : EachNote (StandsInOrder assembly) before

-- all that tells whether a note stands in order: each sender has its numbers, each number is that of a start, and the starts are right
pub record KnowsOrder (assembly : Assembly ℕ) (numbers : Numbers) (before : Journal ℕ) : Type 0 where
  pub rows : (assembly.cores + 1) * 256 ≤ length numbers.started
  pub known : KnowsNumbers assembly numbers before
  pub reached : AreReached assembly numbers before
  pub entered : EnteredAsSent assembly before
  pub starts : EachNote (StartsRight assembly) before
