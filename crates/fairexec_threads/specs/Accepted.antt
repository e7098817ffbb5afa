-- Which orders of a script were accepted, why another was not, and what the journals tell of them.
use Rattle.std.specs.Prelude.{◌≡◌, ◌⊎◌, ℕ, ◌+◌, ◌-◌, ◌*◌, ◌^◌, ◌<◌, ◌≤◌, ◌++◌, List, [], ◌∷◌, Some, Result, Ok, Err, length, None, IfOk}
use Rattle.base_words.specs.declared.names.JobId.{JobId}
use Rattle.base_words.specs.declared.note.Note.TheVariants.{Sent, CoreClosed, Shut}
use Rattle.base_words.specs.declared.order.Mode.{Mode}
use Rattle.base_words.specs.declared.order.Mode.TheVariants.{Return}
use Rattle.base_words.specs.declared.order.Order.TheVariants.{CloseCore}
use Rattle.base_words.specs.declared.order.SendError.{SendError}
use Rattle.base_words.specs.declared.order.SendError.TheVariants.{Closed}
use Rattle.base_words.specs.Assembly.{Assembly, journal_of, order_of}
use Rattle.base_words.specs.Filters.{accepted_orders}
use Rattle.base_words.specs.Journal.{Journal}
use Rattle.base_words.specs.Orders.{without_job}
use Rattle.base_jobs.specs.Scripts.{Script}
use Rattle.run_runtime.specs.State.{RuntimeView}
use Rattle.run_worker.specs.Rooms.{least_free}
use Rattle.fairexec_script.specs.Orders.{Told}
use Rattle.fairexec_threads.specs.Offers.{OffersAll}
use Rattle.base_words.specs.Closing.{core_mode}
use Rattle.base_jobs.specs.ScriptMeaning.{script_meaning}
use Rattle.run_runtime.specs.Laws.{IsToldOf}

-- how many notes each journal of a script's runtime has room for
abbrev pub room_of : ℕ → ℕ → ℕ → ℕ
room_of cores cap burst = 2 ^ 16 + 16 * ((cores + 1) * (cap + 1)) + 4 * (burst - 1)

-- the outside actor's journal tells that this order was sent under this name
pub record IsSent (told : Told) (name : JobId) (assembly : Assembly ℕ) : Type 0 where
  pub to : name.to ≡ told.0
  pub later : Journal ℕ
  pub before : Journal ℕ
  pub notes : journal_of assembly.cores assembly ≡ later ++ Sent name (without_job told.1) ∷ before

-- a core closed by itself behind these notes: in mode `Return`, and its journal was short
pub record ClosesItself (mode : Mode) (before : Journal ℕ) (assembly : Assembly ℕ) : Type 0 where
  pub returning : mode ≡ Return
  pub fits : length before ≤ room_of assembly.cores assembly.cap assembly.burst
  pub short : room_of assembly.cores assembly.cap assembly.burst - length before < least_free assembly.cores assembly.cap assembly.burst

-- an actor had sent the core an order to close it; where that was the outside actor, it is one of its first orders, up to this number
pub record IsToldToClose (core final : ℕ) (mode : Mode) (assembly : Assembly ℕ) : Type 0 where
  pub name : JobId
  pub to : name.to ≡ core
  pub order : order_of name assembly ≡ Some (CloseCore mode)
  pub early : name.from ≡ assembly.cores → name.number ≤ final

-- The core closed, by itself or by an order sent before, and then shut the gate of the outside actor. So many orders of this actor were accepted
-- before, and none behind.
pub record HasClosed (core final : ℕ) (assembly : Assembly ℕ) : Type 0 where
  pub mode : Mode
  pub later : Journal ℕ
  pub between : Journal ℕ
  pub before : Journal ℕ
  pub notes : journal_of core assembly ≡ later ++ Shut assembly.cores final ∷ (between ++ CoreClosed mode ∷ before)
  pub why : ClosesItself mode before assembly ⊎ IsToldToClose core final mode assembly
  pub accepted : length (accepted_orders core (journal_of assembly.cores assembly)) ≡ final

-- an order is accepted, unless its core has closed
abbrev pub IsHeard : Assembly ℕ → Told → Result JobId (SendError Script) → Type 0
IsHeard assembly told (Ok name) = IsSent told name assembly
IsHeard assembly told (Err (Closed back final)) = HasClosed told.0 final assembly
IsHeard assembly told (Err _) = ⊥

-- so is each of these orders
abbrev pub AreHeard : (orders : List Told) (old new : RuntimeView Script ℕ) → OffersAll orders old new → Assembly ℕ → Type 0
AreHeard [] old new offers assembly = Unit {0}
AreHeard (told ∷ rest) old new offers assembly = IsHeard assembly told offers.1.answer × AreHeard rest offers.0 new offers.2 assembly

-- a core whose journal tells of no closing refuses no order
abbrev pub OpenCoresRefuseNone : Type 0
OpenCoresRefuseNone = (core final : ℕ) (assembly : Assembly ℕ) → core_mode (journal_of core assembly) ≡ None → HasClosed core final assembly → ⊥

-- The journals tell an outcome of each order that was accepted, and it fits the order: a job is finished with the value of its last poll, or comes
-- back with its polls; a command is answered.
abbrev pub AreAnswered : (orders : List Told) (old new : RuntimeView Script ℕ) → OffersAll orders old new → Assembly ℕ → Type 0
AreAnswered [] old new offers assembly = Unit {0}
AreAnswered (told ∷ rest) old new offers assembly =
    IfOk offers.1.answer (λ name. IsToldOf script_meaning assembly name told.1) × AreAnswered rest offers.0 new offers.2 assembly
