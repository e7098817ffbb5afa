-- The timers of a core, as a contract sees them.
use Rattle.std.specs.Prelude.{◌≡◌, ◌⊎◌, ℕ, ◌<◌, ◌≤◌, List, length, Option, Some, None, IsSome, slice_index_or, slice_set}
use Rattle.base_words.specs.declared.names.JobId.{JobId}

-- a timer: the name of its job, and the time at which it is due
pub record Timer : Type 0 where
  pub name : JobId
  pub time : ℕ

-- for each key the timer that it has, if it has one
abbrev pub Timers : Type 0
Timers = List (Option Timer)

-- the timer of a key, if it has one
abbrev pub timer_at : Timers → ℕ → Option Timer
timer_at timers key = slice_index_or timers key None

-- the key has a timer of this name, due at this time
abbrev pub Has : Timers → ℕ → JobId → ℕ → Type 0
Has timers key name time = timer_at timers key ≡ Some (record { name = name; time = time })

-- the key has a timer of this name
abbrev pub HasName : Timers → ℕ → JobId → Type 0
HasName timers key name = (time : ℕ) × Has timers key name time

-- no key has a timer of this name
abbrev pub LacksName : Timers → JobId → Type 0
LacksName timers name = (key : ℕ) → HasName timers key name → ⊥

-- no key has a timer
abbrev pub IsVacant : Timers → Type 0
IsVacant timers = (key : ℕ) → timer_at timers key ≡ None

-- each key has a timer
abbrev pub IsFull : Timers → Type 0
IsFull timers = (key : ℕ) → key < length timers → IsSome (timer_at timers key)

-- no timer is due before this time
abbrev pub IsFrom : ℕ → Timers → Type 0
IsFrom time timers = (key : ℕ) (name : JobId) (due : ℕ) → Has timers key name due → time ≤ due

-- each timer is due after this time
abbrev pub IsAfter : ℕ → Timers → Type 0
IsAfter time timers = (key : ℕ) (name : JobId) (due : ℕ) → Has timers key name due → time < due

-- a timer is due at this time, and none before
pub record IsNext (time : ℕ) (timers : Timers) : Type 0 where
  pub key : ℕ
  pub name : JobId
  pub had : Has timers key name time
  pub least : IsFrom time timers

-- a name has at most one timer
pub record HasOneEach (timers : Timers) : Type 0 where
  pub same : (one other : ℕ) (name : JobId) → HasName timers one name → HasName timers other name → one ≡ other

-- a key gets the timer: the one that had a timer of this name or, if none had, one without a timer
pub record Sets (old : Timers) (name : JobId) (time : ℕ) (new : Timers) : Type 0 where
  pub key : ℕ
  pub within : key < length old
  pub before : HasName old key name ⊎ ((timer_at old key ≡ None) × LacksName old name)
  pub after : new ≡ slice_set old key (Some (record { name = name; time = time }))

-- no key is free for the timer: each has one of another name, and keeps it
pub record HasNoKey (old : Timers) (name : JobId) (new : Timers) : Type 0 where
  pub full : IsFull old
  pub lacks : LacksName old name
  pub same : new ≡ old

-- a key that had a timer of this name has none any more
pub record Forgets (old : Timers) (name : JobId) (new : Timers) : Type 0 where
  pub key : ℕ
  pub had : HasName old key name
  pub after : new ≡ slice_set old key None

-- a timer of this name is due by this time, and none is due before it
pub record IsDue (timers : Timers) (now : ℕ) (name : JobId) : Type 0 where
  pub time : ℕ
  pub due : time ≤ now
  pub least : IsFrom time timers
  pub key : ℕ
  pub had : Has timers key name time
