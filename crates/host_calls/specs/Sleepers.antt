-- Jobs that sleep: a run that parks until a time, and the wake that comes then. Times are of the host's clock.
use Rattle.std.specs.Prelude.{◌≡◌, ◌⊎◌, ◌-◌, ◌^◌, ◌<◌, ◌≤◌, ◌==◌, if◌then◌else◌, ℕ, Bool, true, false, Option, Some, None, replicate}
use Rattle.base_jobs.specs.declared.job.Step.{Step}
use Rattle.base_jobs.specs.declared.job.Step.TheVariants.{Park}
use Rattle.base_words.specs.declared.names.JobId.{JobId}
use Rattle.core_queues.specs.View.{QueuesView}
use Rattle.core_queues.specs.Waking.{FindsNoPark}
use Rattle.core_timers.specs.Timers.{Timers, Forgets, HasName, HasNoKey, IsAfter, IsDue, IsNext, IsVacant, LacksName, Sets}
use Rattle.host_core.specs.declared.job.HostJob.{HostJob}
use Rattle.host_core.specs.Hosted.{HostedView}
use Rattle.host_core.specs.Waking.{HasParked, WakesItself, name_out}
use Rattle.host_calls.specs.declared.code.Code.{Code}
use Rattle.host_calls.specs.declared.code.Code.TheVariants as code
use Rattle.host_calls.specs.Codes.{Tells}
use Rattle.host_calls.specs.Links.{code_of_shut}
use Rattle.host_calls.specs.Turns.{SettlesTold}

-- as many timers as jobs are asked for, none of them set; as many as one core may hold at most
abbrev pub OpensTimers : ℕ → Code → Option Timers → Type 0
OpensTimers jobs code.Ok new = (1 ≤ jobs) × (jobs ≤ 131070) × (new ≡ Some (replicate jobs None))
OpensTimers jobs code.BadNumber new = ((jobs ≡ 0) ⊎ (131070 < jobs)) × (new ≡ None)
OpensTimers jobs code.NoMemory new = (1 ≤ jobs) × (jobs ≤ 131070) × (new ≡ None)
OpensTimers jobs other new = ⊥

-- the time of the timer that is due next, if there is one
abbrev pub TellsNext : Timers → ℕ → Code → ℕ → Type 0
TellsNext timers before code.Ok after = IsNext after timers
TellsNext timers before code.Idle after = IsVacant timers × (after ≡ before)
TellsNext timers before other after = ⊥

-- the time until which a run that parks lets its job sleep; the last number of 64 bits says no time
abbrev pub sleep_of : Step ℕ → ℕ → Option ℕ
sleep_of Park time = if time == 2 ^ 64 - 1 then None else Some time
sleep_of other time = None

-- a job has no timer any more
abbrev pub LosesTimer : JobId → Timers → Timers → Type 0
LosesTimer name old new = Forgets old name new ⊎ (LacksName old name × (new ≡ old))

-- a job has a timer
abbrev pub IsSet : Timers → JobId → Type 0
IsSet timers name = (key : ℕ) × HasName timers key name

-- a job that is to sleep gets its timer, unless each place has the timer of another job; any other has none
abbrev pub Arms : Option ℕ → JobId → Timers → Bool → Timers → Type 0
Arms (Some time) name old true new = Sets old name time new
Arms (Some time) name old false new = HasNoKey old name new
Arms None name old true new = LosesTimer name old new
Arms None name old false new = ⊥

-- once its run is settled a job that didn't park has no timer
abbrev pub Disarms : Code → JobId → Timers → Timers → Type 0
Disarms code.Parked name old new = new ≡ old
Disarms told name old new = LosesTimer name old new

-- a timer that was due is gone if its job was woken, and stays if the core took no wake
abbrev pub GoesIfWoken : Code → JobId → Timers → Timers → Type 0
GoesIfWoken code.Ok name old new = Forgets old name new
GoesIfWoken told name old new = new ≡ old

module _ {V : Type 0} where
  -- A run is settled, and its job sleeps from then on if it parks and says until when. Without a place for its timer the run isn't settled.
  abbrev pub SettlesAsleep : (V → Code → V → Type 0) → JobId → Option ℕ → V → Timers → Code → V → Timers → Type 0
  SettlesAsleep settles name sleep old timers told new after =
      (Arms sleep name timers false after × (told ≡ code.Full) × (new ≡ old)) ⊎ ((middle : Timers) × Arms sleep name timers true middle × settles old told new × Disarms told name middle after)

  -- the same for the job of this name, which the host runs; a number that is no step comes before a job that isn't there
  abbrev pub SettlesNamed : (V → Code → V → Type 0) → Option (Step ℕ) → ℕ → Option JobId → V → Timers → Code → V → Timers → Type 0
  SettlesNamed settles None until name old timers told new after = (told ≡ code.BadNumber) × (new ≡ old) × (after ≡ timers)
  SettlesNamed settles (Some step) until None old timers told new after = (told ≡ code.NoJob) × (new ≡ old) × (after ≡ timers)
  SettlesNamed settles (Some step) until (Some name) old timers told new after = SettlesAsleep settles name (sleep_of step until) old timers told new after

  module _ (queues : V → QueuesView HostJob) (wakes : JobId → V → Code → V → Type 0) where
    -- a timer of this name is due: its job is woken if it is parked; if it isn't any more, that is told, and the timer goes
    abbrev pub WakesName : JobId → V → Timers → Code → V → Timers → Type 0
    WakesName name old timers told new after =
        (FindsNoPark (queues old) name × (told ≡ code.Absent) × (new ≡ old) × Forgets timers name after) ⊎ (HasParked (queues old) name × wakes name old told new × GoesIfWoken told name timers after)

    -- the job of the timer that is due next is woken, unless none is due by now
    abbrev pub WakesDue : ℕ → V → Timers → Code → V → Timers → Type 0
    WakesDue now old timers told new after =
        (IsAfter now timers × (told ≡ code.Idle) × (new ≡ old) × (after ≡ timers)) ⊎ ((name : JobId) × IsDue timers now name × WakesName name old timers told new after)

-- what is told of a wake that a core of a house sends itself
abbrev pub WakesItselfTold : JobId → HostedView → Code → HostedView → Type 0
WakesItselfTold name old told new = Tells (λ answer. WakesItself name old answer new) code_of_shut told

-- the same of a core of a house
abbrev pub WakesDueTold : ℕ → HostedView → Timers → Code → HostedView → Timers → Type 0
WakesDueTold = WakesDue (λ (view : HostedView). view.recorded.core.queues) WakesItselfTold

-- how long a run took, and until when its job sleeps if it parks
pub record RunTimes : Type 0 where
  pub spent : ℕ
  pub until : ℕ

-- the run of the job that is out is settled, and it sleeps from then on if it parks and says until when
abbrev pub SettlesUntil : Option (Step ℕ) → RunTimes → HostedView → Timers → Code → HostedView → Timers → Type 0
SettlesUntil step times old = SettlesNamed (λ before code behind. SettlesTold before step times.spent code behind) step times.until (name_out old.recorded.core.out) old
