-- The place of a worker.
use Rattle.std.specs.Prelude.{◌≡◌, List}
use Rattle.run_team.specs.declared.seat.WorkerAt.{WorkerAt}
use Rattle.run_team.specs.declared.seat.WorkerAt.TheVariants.{Thread, Here}
use Rattle.run_team.specs.declared.work.Left.{Left}
use Rattle.run_team.specs.Works.{IsLeft, HasEndedFrom}

module _ {W E : Type 0} (keeps : W → E → Type 0) where
  -- it is on a thread that promised to give it back or what it owes, or what became of it is there
  abbrev pub IsSeatOf : W → WorkerAt W E → Type 0
  IsSeatOf worker (Thread handle) = handle.promise.0.value ≡ worker
  IsSeatOf worker (Here left) = IsLeft keeps worker left

  -- what became of it: its thread has ended, or it had none
  abbrev pub Leaves : WorkerAt W E → Left W E → Type 0
  Leaves (Thread handle) left = IsLeft keeps handle.promise.0.value left
  Leaves (Here same) left = left ≡ same

  -- the same, brought to its end
  abbrev pub Ends : WorkerAt W E → E → Type 0
  Ends seat end = (left : Left W E) × Leaves seat left × HasEndedFrom keeps left end
