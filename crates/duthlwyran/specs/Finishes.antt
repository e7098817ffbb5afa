-- How a node finishes.
use Rattle.std.specs.Prelude.{◌≡◌, ℕ, zero, suc, Result, Ok, Err}
use Rattle.base_words.specs.declared.names.JobId.{JobId}
use Rattle.base_words.specs.declared.order.Mode.{Mode}
use Rattle.base_words.specs.declared.order.Order.TheVariants.{CloseCore}
use Rattle.run_runtime.specs.declared.error.FinishError.{FinishError}
use Rattle.run_runtime.specs.declared.error.FinishError.TheVariants.{NotClosed}
use Rattle.actor_caller.specs.declared.error.SubmitError.{SubmitError}
use Rattle.run_runtime.specs.Sends.{SubmitsTo}
use Rattle.run_runtime.specs.State.{RuntimeView}

-- what comes back of a finish that was refused
abbrev pub not_closed : {N : Type 0} → FinishError N → N
not_closed (NotClosed core node) = node

-- a refusal, where in place of the node that comes back stands this of it
abbrev pub by_error : {N V : Type 0} → (N → V) → FinishError N → FinishError V
by_error of (NotClosed core node) = NotClosed core (of node)

-- the same of what a finish answers
abbrev pub by_back : {P N V : Type 0} → (N → V) → Result P (FinishError N) → Result P (FinishError V)
by_back of (Ok both) = Ok both
by_back of (Err error) = Err (by_error of error)

module _ {J T : Type 0} where
  -- `close_core` of this core in this mode, whatever it answers
  pub record ClosesAt (mode : Mode) (core : ℕ) (old new : RuntimeView J T) : Type 0 where
    pub answer : Result JobId (SubmitError J)
    pub closes : SubmitsTo 0 core (CloseCore mode) old answer new

  -- the same of each core below this number, in their order
  abbrev pub ClosesBelow : Mode → ℕ → RuntimeView J T → RuntimeView J T → Type 0
  ClosesBelow mode zero old new = new ≡ old
  ClosesBelow mode (suc core) old new = (between : RuntimeView J T) × ClosesBelow mode core old between × ClosesAt mode core between new

  -- each core below this number is closed, and then the runtime below finishes
  pub record ClosesAndFinishes (finishes : RuntimeView J T → Type 0) (mode : Mode) (cores : ℕ) (old : RuntimeView J T) : Type 0 where
    pub closed : RuntimeView J T
    pub closes : ClosesBelow mode cores old closed
    pub does : finishes closed
