-- A script keeps within the limits of a system.
use Rattle.std.specs.Prelude.{◌≡◌, ℕ, ◌≤◌, ◌<◌, [], ◌∷◌, List, Option, Some, None, All, length}
use Rattle.base_words.specs.declared.order.Order.TheVariants as order
use Rattle.base_words.specs.Limits.{most_burst, most_capacity, most_cores}
use Rattle.base_jobs.specs.Scripts.{Script}
use Rattle.fairexec_script.specs.declared.event.ScriptEvent.{ScriptEvent}
use Rattle.fairexec_script.specs.declared.event.ScriptEvent.TheVariants.{Send, Deliver, Turn, Shut, Collect, Redeem, Detach}
use Rattle.base_jobs.specs.declared.poll.Poll.TheVariants.{Yield}
use Rattle.fairexec_script.specs.declared.line.Line.{Line}
use Rattle.fairexec_script.specs.declared.line.Line.TheVariants.{Size, Queue, Step}
use Rattle.fairexec_script.specs.Drafts.{Drafted, queue_lines}

-- 1 to 16 cores, and a capacity of 1 to 1024
pub record IsSize (cores cap : ℕ) : Type 0 where
  pub some_cores : 1 ≤ cores
  pub few_cores : cores ≤ most_cores
  pub some_cap : 1 ≤ cap
  pub small_cap : cap ≤ most_capacity

-- a turn may have 1 to 64 polls
pub record IsBurst (burst : ℕ) : Type 0 where
  pub some_poll : 1 ≤ burst
  pub few_polls : burst ≤ most_burst

-- the size, once it is told, is one
abbrev pub IsSized : Option (ℕ × ℕ) → Type 0
IsSized None = Unit {0}
IsSized (Some size) = IsSize size.0 size.1

-- each `queue` line is of one of the cores, and none comes before they are told
abbrev pub ArePlaced : Option (ℕ × ℕ) → List (ℕ × ℕ) → Type 0
ArePlaced None queues = queues ≡ []
ArePlaced (Some size) queues = All (λ queue. queue.0 < size.0) queues

-- each core has 255 `queue` lines at most
abbrev pub HasFewQueues : List (ℕ × ℕ) → Type 0
HasFewQueues queues = (core : ℕ) → queue_lines core queues ≤ 255

-- the two ends of an event; a turn has its core at both
abbrev pub sender_of : ScriptEvent → ℕ
sender_of (Send sender core order) = sender
sender_of (Deliver core sender) = sender
sender_of (Turn core) = core
sender_of (Shut core sender) = sender
sender_of (Collect sender core) = sender
sender_of (Redeem name) = name.from
sender_of (Detach name) = name.from

abbrev pub core_of : ScriptEvent → ℕ
core_of (Send sender core order) = core
core_of (Deliver core sender) = core
core_of (Turn core) = core
core_of (Shut core sender) = core
core_of (Collect sender core) = core
core_of (Redeem name) = name.to
core_of (Detach name) = name.to

-- the job that an event sends; where it sends none, one of a single poll that isn't made
abbrev pub job_of : ScriptEvent → Script
job_of (Send sender core (order.Job queue job)) = job
job_of _ = record { polls = Yield 0 ∷ []; polled = 0 }

-- an event of a system of so many cores: its ends exist, and its job has polls and has made none
pub record IsEventOf (cores : ℕ) (event : ScriptEvent) : Type 0 where
  pub sender : sender_of event ≤ cores
  pub core : core_of event < cores
  pub some_polls : 1 ≤ length (job_of event).polls
  pub none_made : (job_of event).polled ≡ 0

-- each event is one of these cores, and none comes before they are told
abbrev pub AreEventsOf : Option (ℕ × ℕ) → List ScriptEvent → Type 0
AreEventsOf None events = events ≡ []
AreEventsOf (Some size) events = All (IsEventOf size.0) events

pub record IsWithinLimits (draft : Drafted) : Type 0 where
  pub sized : IsSized draft.size
  pub bursts : IsBurst draft.burst
  pub placed : ArePlaced draft.size draft.queues
  pub few : HasFewQueues draft.queues
  pub happen : AreEventsOf draft.size draft.events

-- a queue of a core that is there
abbrev pub IsCoreOf : Option (ℕ × ℕ) → ℕ → Type 0
IsCoreOf None core = ⊥
IsCoreOf (Some size) core = core < size.0

abbrev pub IsEventFor : Option (ℕ × ℕ) → ScriptEvent → Type 0
IsEventFor None event = ⊥
IsEventFor (Some size) event = IsEventOf size.0 event

-- what a line may say, where the size is this one so far
abbrev pub MayFollow : Option (ℕ × ℕ) → Line → Type 0
MayFollow size (Size cores cap burst) = (size ≡ None) × IsSize cores cap × IsBurst burst
MayFollow size (Queue core shares) = IsCoreOf size core
MayFollow size (Step event) = IsEventFor size event
