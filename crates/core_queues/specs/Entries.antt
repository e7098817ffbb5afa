-- What a call does to the entries of the slab: one gets another next key, another job or other marks; a job comes behind the tail, or goes there from a head.
use Rattle.std.specs.Prelude.{◌≡◌, ◌⊎◌, ℕ, ◌+◌, ◌-◌, ◌<◌, Bool, true, false, Some, None}
use Rattle.slab.specs.Slab.{Slab, get, slab_len, Updates}
use Rattle.core_queues.specs.declared.waiting.Waiting.{Waiting}
use Rattle.core_queues.specs.declared.line.Line.{Line}

module _ {J : Type 0} where
  -- the entry at this key gets another next key, and nothing else changes
  pub record Relinks (old : Slab (Waiting J)) (key next : ℕ) (new : Slab (Waiting J)) : Type 0 where
    pub was : Waiting J
    pub at : get old key ≡ Some was
    pub updates : Updates old new key (Some (record was { next = next }))
    pub len : slab_len new ≡ slab_len old
    pub capacity : new.capacity ≡ old.capacity

  -- a job comes in under a key that was vacant
  pub record Inserts (old : Slab (Waiting J)) (key : ℕ) (last : Waiting J) (new : Slab (Waiting J)) : Type 0 where
    pub vacant : get old key ≡ None
    pub updates : Updates old new key (Some last)
    pub len : slab_len new ≡ slab_len old + 1
    pub capacity : new.capacity ≡ old.capacity

  -- a job comes in, and is the head of an empty line, or the next of the one at the tail
  pub record Appends (old : Slab (Waiting J)) (line : Line) (last : Waiting J) (new : Slab (Waiting J)) (longer : Line) : Type 0 where
    pub key : ℕ
    pub between : Slab (Waiting J)
    pub inserts : Inserts old key last between
    pub links : ((line.count ≡ 0) × (longer.head ≡ key) × (new ≡ between)) ⊎ ((0 < line.count) × (longer.head ≡ line.head) × Relinks between line.tail key new)
    pub tail : longer.tail ≡ key
    pub count : longer.count ≡ line.count + 1

  -- the entry at this key is marked as started, and whether a wake of it is kept; nothing else changes
  pub record Starts (old : Slab (Waiting J)) (key : ℕ) (front : Waiting J) (woken : Bool) (new : Slab (Waiting J)) : Type 0 where
    pub at : get old key ≡ Some front
    pub updates : Updates old new key (Some (record front { started = true; woken = woken }))
    pub len : slab_len new ≡ slab_len old
    pub capacity : new.capacity ≡ old.capacity

  -- the same, and the key of the next entry
  abbrev pub StartsAt : Slab (Waiting J) → ℕ → Bool → Slab (Waiting J) → ℕ → Type 0
  StartsAt old key woken new next = (front : Waiting J) × Starts old key front woken new × (next ≡ front.next)

  -- the head of a line is marked as started and goes behind the tail, where it may stand already
  pub record Requeues (old : Slab (Waiting J)) (line : Line) (woken : Bool) (new : Slab (Waiting J)) (turned : Line) : Type 0 where
    pub front : Waiting J
    pub between : Slab (Waiting J)
    pub starts : Starts old line.head front woken between
    pub links : ((line.count ≡ 1) × (turned.head ≡ line.head) × (new ≡ between)) ⊎ ((line.count ≡ 1 → ⊥) × (turned.head ≡ front.next) × Relinks between line.tail line.head new)
    pub tail : turned.tail ≡ line.head
    pub count : turned.count ≡ line.count

  -- the head of a line is marked as started, with no wake, and goes behind the tail of another one
  pub record MovesHead (old : Slab (Waiting J)) (from to : Line) (new : Slab (Waiting J)) (shorter longer : Line) : Type 0 where
    pub front : Waiting J
    pub between : Slab (Waiting J)
    pub starts : Starts old from.head front false between
    pub links : ((to.count ≡ 0) × (longer.head ≡ from.head) × (new ≡ between)) ⊎ ((0 < to.count) × (longer.head ≡ to.head) × Relinks between to.tail from.head new)
    pub tail : longer.tail ≡ from.head
    pub count : longer.count ≡ to.count + 1
    pub left : shorter ≡ record { head = front.next; tail = from.tail; count = from.count - 1 }

  -- the entry at this key has another job, and nothing else changes
  pub record Renews (old : Slab (Waiting J)) (key : ℕ) (front : Waiting J) (job : J) (new : Slab (Waiting J)) : Type 0 where
    pub at : get old key ≡ Some front
    pub updates : Updates old new key (Some (record front { job = job }))
    pub len : slab_len new ≡ slab_len old
    pub capacity : new.capacity ≡ old.capacity
