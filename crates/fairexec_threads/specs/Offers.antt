-- The orders that a script's outside actor sends, one after another.
use Rattle.std.specs.Prelude.{◌≡◌, ℕ, zero, suc, ◌<◌, ◌++◌, List, [], ◌∷◌, Result, Ok, Err}
use Rattle.base_words.specs.declared.names.JobId.{JobId}
use Rattle.base_words.specs.declared.order.Mode.TheVariants.{Finish}
use Rattle.base_words.specs.declared.order.Order.{Order}
use Rattle.base_words.specs.declared.order.Order.TheVariants.{CloseCore, Job}
use Rattle.base_words.specs.declared.order.SendError.{SendError}
use Rattle.base_words.specs.declared.order.SendError.TheVariants.{Closed}
use Rattle.base_jobs.specs.Scripts.{Script, IsScript}
use Rattle.run_runtime.specs.Sends.{SendsTo}
use Rattle.run_runtime.specs.State.{RuntimeView}
use Rattle.fairexec_script.specs.Orders.{Told}

-- a send is accepted, or the core is closed already
abbrev pub IsTaken : Result JobId (SendError Script) → Type 0
IsTaken (Ok name) = Unit {0}
IsTaken (Err (Closed back final)) = Unit {0}
IsTaken (Err _) = ⊥

-- the polls of a job that is sent are a script's: at most 64, and exactly the last one is done
abbrev pub HasWords : Order Script → Type 0
HasWords (Job queue job) = IsScript job.polls
HasWords _ = Unit {0}

-- one order is sent to its core: it is accepted, unless its gate is found shut
pub record Offers (told : Told) (old new : RuntimeView Script ℕ) : Type 0 where
  pub there : told.0 < old.desk.cores
  pub words : HasWords told.1
  pub answer : Result JobId (SendError Script)
  pub taken : IsTaken answer
  pub sends : SendsTo told.0 told.1 old answer new

-- orders are sent in this order, each to its core
abbrev pub OffersAll : List Told → RuntimeView Script ℕ → RuntimeView Script ℕ → Type 0
OffersAll [] old new = new ≡ old
OffersAll (told ∷ rest) old new = (between : RuntimeView Script ℕ) × Offers told old between × OffersAll rest between new

-- the orders to close the first cores in mode `Finish`, from core 0 upwards
abbrev pub closings : ℕ → List Told
closings zero = []
closings (suc core) = closings core ++ (core, CloseCore Finish) ∷ []
