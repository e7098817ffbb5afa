-- What a wake does, by what it answers.
use Rattle.std.specs.Prelude.{◌≡◌, ◌⊎◌, ℕ, true, false, [], ◌∷◌, ◌++◌, map}
use Rattle.base_words.specs.Names.{among}
use Rattle.base_words.specs.declared.names.JobId.{JobId}
use Rattle.core_queues.specs.declared.queues.parks.Woke.{Woke}
use Rattle.core_queues.specs.declared.queues.parks.Woke.TheVariants.{Moved, Kept, Absent}
use Rattle.core_queues.specs.View.{Marks, Line, Parks, QueuesView, waiting_of, parked_of, awake}
use Rattle.core_queues.specs.Queues.{ChangesLine}
use Rattle.core_queues.specs.Parks.{Moves}

module _ {J : Type 0} where
  -- a parked job of this queue is woken: it comes to the tail, and the parked ones before and behind it stay
  pub record WakesParked (old new : QueuesView J) (name : JobId) (queue : ℕ) : Type 0 where
    pub before : Parks J
    pub behind : Parks J
    pub job : J
    pub was : parked_of queue old ≡ before ++ (name, job) ∷ behind
    pub moves : Moves old new queue (waiting_of queue old ++ awake (name, job) ∷ []) (before ++ behind)

  -- a job that waits is woken: the wake is kept beside it
  pub record KeepsWake (old new : QueuesView J) (name : JobId) : Type 0 where
    pub queue : ℕ
    pub before : Line J
    pub behind : Line J
    pub marks : Marks
    pub job : J
    pub was : waiting_of queue old ≡ before ++ (name, marks, job) ∷ behind
    pub line : ChangesLine old new queue (before ++ (name, record marks { woken = true }, job) ∷ behind)

  -- this job is parked under this name
  pub record IsParkedAs (view : QueuesView J) (name : JobId) (job : J) : Type 0 where
    pub queue : ℕ
    pub before : Parks J
    pub behind : Parks J
    pub is_there : parked_of queue view ≡ before ++ (name, job) ∷ behind

  -- a job of this name waits in a line
  pub record WaitsAs (view : QueuesView J) (name : JobId) : Type 0 where
    pub queue : ℕ
    pub before : Line J
    pub behind : Line J
    pub marks : Marks
    pub job : J
    pub is_there : waiting_of queue view ≡ before ++ (name, marks, job) ∷ behind

  -- no queue holds a job of this name
  pub record HoldsNone (view : QueuesView J) (name : JobId) : Type 0 where
    pub waits : (queue : ℕ) → among name (map (λ entry. entry.0) (waiting_of queue view)) ≡ false
    pub parks : (queue : ℕ) → among name (map (λ entry. entry.0) (parked_of queue view)) ≡ false

  -- a wake of this name would find no parked job: one waits, or there is none
  abbrev pub FindsNoPark : QueuesView J → JobId → Type 0
  FindsNoPark view name = WaitsAs view name ⊎ HoldsNone view name

  -- a parked job comes to the tail of its queue, the wake of one that waits is kept, and there may be no such job
  abbrev pub Wakes : QueuesView J → JobId → Woke → QueuesView J → Type 0
  Wakes old name (Moved queue) new = WakesParked old new name queue
  Wakes old name Kept new = KeepsWake old new name
  Wakes old name Absent new = HoldsNone old name × (new ≡ old)
