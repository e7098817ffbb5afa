-- A whole run of a script on threads.
use Rattle.std.specs.Prelude.{◌≡◌, ◌<◌, ℕ, ◌++◌, Bool, List, Option, Some, Ok}
use Rattle.std.specs.Option.{IfSome}
use Rattle.base_words.specs.Assembly.{Assembly, journal_of}
use Rattle.base_jobs.specs.ScriptMeaning.{script_meaning}
use Rattle.base_jobs.specs.Scripts.{Script}
use Rattle.fairexec_report.specs.Writing as writing
use Rattle.run_runtime.specs.Calls.{IsStarted, HasFinished}
use Rattle.run_runtime.specs.State.{RuntimeView}
use Rattle.run_config.specs.Configs.{Entry}
use Rattle.fairexec_script.specs.declared.fault.ThreadsFault.{ThreadsFault}
use Rattle.fairexec_script.specs.declared.fault.ThreadsFault.TheVariants.{Of, Thread}
use Rattle.text_words.specs.Faults.{IfUnjudged}
use Rattle.fairexec_script.specs.Orders.{Told}
use Rattle.fairexec_script.specs.ThreadsDrafts.{Drafted}
use Rattle.fairexec_script.specs.ThreadsScripts.{threads_script_of}
use Rattle.fairexec_threads.specs.Accepted.{AreAnswered, AreHeard, room_of}
use Rattle.fairexec_threads.specs.Offers.{OffersAll, closings}
use Rattle.fairexec_threads.specs.Polled.{ArePolledAsTold}
use Rattle.run_worker.specs.Queues.{creations}
use Rattle.actor_seat.specs.Queues.{opening_of}
use Rattle.text_words.specs.declared.fault.Fault.TheVariants.{Memory}

-- A runtime of these numbers and queues is started, the orders are sent, each core is closed from 0 upwards, and the runtime is finished. The
-- journal of each core begins with the creation of its queues. Each order is accepted, unless its core has closed. What the journals tell of an
-- order is what it asks. Each poll that they tell of the job of an order is the one that its words say.
pub record RunsOrders (cores cap burst : ℕ) (queues : List Entry) (orders : List Told) (assembly : Assembly ℕ) : Type 0 where
  pub started : RuntimeView Script ℕ
  pub ended : RuntimeView Script ℕ
  pub starts : IsStarted cores cap burst (room_of cores cap burst) queues started
  pub offers : OffersAll (orders ++ closings cores) started ended
  pub finishes : HasFinished script_meaning ended assembly
  pub opened : (core : ℕ) → core < cores → opening_of (journal_of core assembly) ≡ creations core queues
  pub heard : AreHeard (orders ++ closings cores) started ended offers assembly
  pub answered : AreAnswered (orders ++ closings cores) started ended offers assembly
  pub polled : ArePolledAsTold finishes.orders assembly (orders ++ closings cores) started ended offers

-- the same of a script that told its size
abbrev pub RunsScript : Drafted → Assembly ℕ → Type 0
RunsScript draft assembly = (size : ℕ × ℕ) × (draft.size ≡ Some size) × RunsOrders size.0 size.1 draft.burst draft.queues draft.orders assembly

-- the journals are those of a run of the script that the source tells
abbrev pub TellsRun : Option (List ℕ) → Assembly ℕ → Type 0
TellsRun source assembly = IfSome source (λ text. (draft : Drafted) × (threads_script_of text ≡ Ok draft) × RunsScript draft assembly)

-- what became of the orders of such a run is written, its journals and statistics if they are wanted, and the verdict of its journals; the
-- answer tells whether they are sound
pub record IsRun (journal stats : Bool) (source sink_old sink_new : Option (List ℕ)) (answer : Bool) : Type 0 where
  pub assembly : Assembly ℕ
  pub runs : TellsRun source assembly
  pub told : writing.IsTold journal stats assembly sink_old sink_new answer

-- a first part of that is written
pub record IsCutShort (journal stats : Bool) (source sink_old sink_new : Option (List ℕ)) : Type 0 where
  pub assembly : Assembly ℕ
  pub runs : TellsRun source assembly
  pub told : writing.IsCutShort journal stats assembly sink_old sink_new

-- a fact of each fault but a failed write, before which nothing is written
abbrev pub IfUntold : Type 0 → ThreadsFault → Type 0
IfUntold fact (Of fault) = IfUnjudged fact fault
IfUntold fact Thread = fact

-- why a runtime doesn't start: want of memory, or of a thread
abbrev pub IsOfStart : ThreadsFault → Type 0
IsOfStart (Of Memory) = Unit {0}
IsOfStart (Of _) = ⊥
IsOfStart Thread = Unit {0}
