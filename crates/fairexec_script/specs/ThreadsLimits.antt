-- A script for threads keeps within the limits of a runtime.
use Rattle.std.specs.Prelude.{◌≡◌, ℕ, ◌≤◌, ◌<◌, Bool, true, false, [], ◌∷◌, List, Option, Some, None, All, length}
use Rattle.std.specs.List.{list_any}
use Rattle.base_words.specs.declared.order.Order.{Order}
use Rattle.base_words.specs.declared.order.Order.TheVariants as order
use Rattle.base_jobs.specs.declared.poll.Poll.{Poll}
use Rattle.base_jobs.specs.declared.poll.Poll.TheVariants.{Yield, Park}
use Rattle.base_jobs.specs.Scripts.{Script}
use Rattle.fairexec_script.specs.Counts.{count_of}
use Rattle.fairexec_script.specs.Drafts.{queue_lines}
use Rattle.fairexec_script.specs.Limits.{IsSized, IsBurst, ArePlaced, HasFewQueues}
use Rattle.fairexec_script.specs.declared.event.ScriptEvent.{ScriptEvent}
use Rattle.fairexec_script.specs.declared.event.ScriptEvent.TheVariants.{Send}
use Rattle.fairexec_script.specs.declared.line.Line.{Line}
use Rattle.fairexec_script.specs.declared.line.Line.TheVariants.{Step}
use Rattle.fairexec_script.specs.Orders.{Told, orders_to}
use Rattle.fairexec_script.specs.ThreadsDrafts.{Drafted}

-- the job of an order; if it is none, one of a single poll that isn't made
abbrev pub job_in : Order Script → Script
job_in (order.Job queue job) = job
job_in _ = record { polls = Yield 0 ∷ []; polled = 0 }

-- a poll that parks
abbrev pub is_parking : Poll → Bool
is_parking (Park told) = true
is_parking _ = false

-- none of these polls parks
abbrev pub NeverParks : List Poll → Type 0
NeverParks polls = list_any is_parking polls ≡ false

-- an event that sends a job sends one that never parks, and so does a line
abbrev pub SendsNoPark : ScriptEvent → Type 0
SendsNoPark (Send sender core order) = NeverParks (job_in order).polls
SendsNoPark _ = Unit {0}

abbrev pub TellsNoPark : Line → Type 0
TellsNoPark (Step event) = SendsNoPark event
TellsNoPark _ = Unit {0}

-- an order to one of so many cores, whose job has polls, has made none, and never parks
pub record IsToldOf (cores : ℕ) (told : Told) : Type 0 where
  pub core : told.0 < cores
  pub some_polls : 1 ≤ length (job_in told.1).polls
  pub none_made : (job_in told.1).polled ≡ 0
  pub never_parks : NeverParks (job_in told.1).polls

-- the same of the cores that are told
abbrev pub IsToldFor : Option (ℕ × ℕ) → Told → Type 0
IsToldFor None told = ⊥
IsToldFor (Some size) told = IsToldOf size.0 told

-- each order is to one of the cores, and none comes before they are told
abbrev pub AreTold : Option (ℕ × ℕ) → List Told → Type 0
AreTold None orders = orders ≡ []
AreTold (Some size) orders = All (IsToldOf size.0) orders

-- one place of each link stays for the order that closes its core: a core gets fewer orders than the capacity
abbrev pub HasSpare : Option (ℕ × ℕ) → List Told → Type 0
HasSpare None orders = Unit {0}
HasSpare (Some size) orders = (core : ℕ) → orders_to core orders < size.1

pub record IsWithinLimits (draft : Drafted) : Type 0 where
  pub sized : IsSized draft.size
  pub bursts : IsBurst draft.burst
  pub placed : ArePlaced draft.size draft.queues
  pub few : HasFewQueues draft.queues
  pub told : AreTold draft.size draft.orders
  pub spare : HasSpare draft.size draft.orders

-- the `queue` lines and the orders of each core are counted
pub record AreCounted (queues : List (ℕ × ℕ)) (orders : List Told) (lines sent : List ℕ) : Type 0 where
  pub lines_are : (core : ℕ) → count_of core lines ≡ queue_lines core queues
  pub sent_are : (core : ℕ) → count_of core sent ≡ orders_to core orders
