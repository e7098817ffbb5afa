-- What becomes of lines as a parked job goes from its place to another line, and as one line goes behind another.
use Rattle.std.specs.Prelude.{◌≡◌, ◌⊎◌, ℕ, ◌+◌, ◌-◌, ◌<◌, true, false, Some, IsSome}
use Rattle.slab.specs.Slab.{Slab, get, slab_len, Updates}
use Rattle.core_queues.specs.declared.waiting.Waiting.{Waiting}
use Rattle.core_queues.specs.declared.line.Line.{Line}
use Rattle.core_queues.specs.Linked.{key_at}
use Rattle.core_queues.specs.Entries.{Relinks, Starts}

-- where the last entry of a line leaves, the one before it is the tail
abbrev pub IsLastOr : Line → ℕ → ℕ → Line → Type 0
IsLastOr line key before shorter = ((line.tail ≡ key) × (shorter.tail ≡ before)) ⊎ ((line.tail ≡ key → ⊥) × (shorter.tail ≡ line.tail))

module _ {J : Type 0} where
  -- each place of a line has an entry
  abbrev pub IsChain : Slab (Waiting J) → Line → Type 0
  IsChain jobs line = (place : ℕ) → place < line.count → IsSome (get jobs (key_at (get jobs) line.head place))

  -- an entry leaves its line, and the one before it gets its next key
  pub record Skips (old : Slab (Waiting J)) (line : Line) (key before next : ℕ) (new : Slab (Waiting J)) (shorter : Line) : Type 0 where
    pub count : shorter.count ≡ line.count - 1
    pub links : ((line.head ≡ key) × (shorter.head ≡ next) × (shorter.tail ≡ line.tail) × (new ≡ old)) ⊎ ((line.head ≡ key → ⊥) × (shorter.head ≡ line.head) × IsLastOr line key before shorter × Relinks old before next new)

  -- an entry is the head of an empty line, or the next of the one at the tail
  pub record Follows (old : Slab (Waiting J)) (line : Line) (key : ℕ) (new : Slab (Waiting J)) (longer : Line) : Type 0 where
    pub links : ((line.count ≡ 0) × (longer.head ≡ key) × (new ≡ old)) ⊎ ((0 < line.count) × (longer.head ≡ line.head) × Relinks old line.tail key new)
    pub tail : longer.tail ≡ key
    pub count : longer.count ≡ line.count + 1

  -- an entry is marked as started, with no wake, leaves its line, and comes behind the tail of another one
  pub record MovesOut (old : Slab (Waiting J)) (from : Line) (key before : ℕ) (to : Line) (new : Slab (Waiting J)) (next : ℕ) (shorter longer : Line) : Type 0 where
    pub gone : Waiting J
    pub started : Slab (Waiting J)
    pub between : Slab (Waiting J)
    pub starts : Starts old key gone false started
    pub next_is : next ≡ gone.next
    pub skips : Skips started from key before gone.next between shorter
    pub follows : Follows between to key new longer

  -- a wake is kept beside the entry at this key, and nothing else changes
  pub record KeepsWakeOf (old : Slab (Waiting J)) (key : ℕ) (new : Slab (Waiting J)) : Type 0 where
    pub waiting : Waiting J
    pub at : get old key ≡ Some waiting
    pub updates : Updates old new key (Some (record waiting { woken = true }))
    pub len : slab_len new ≡ slab_len old
    pub capacity : new.capacity ≡ old.capacity

  -- the jobs of a line go behind those of another one
  abbrev pub JoinsLines : Slab (Waiting J) → Line → Line → Slab (Waiting J) → Line → Type 0
  JoinsLines old front behind new joined =
      ((behind.count ≡ 0) × (joined ≡ front) × (new ≡ old)) ⊎
      (((0 < behind.count) × (front.count ≡ 0) × (joined ≡ behind) × (new ≡ old)) ⊎
      ((0 < behind.count) × (0 < front.count) × (joined ≡ record { head = front.head; tail = behind.tail; count = front.count + behind.count }) × Relinks old front.tail behind.head new))
