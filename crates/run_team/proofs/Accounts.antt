-- What became of each worker, by its seat.
use Rattle.std.proofs.Common.{◌≡◌, List, sym, subst}
use Rattle.run_team.specs.declared.seat.WorkerAt.{WorkerAt}
use Rattle.run_team.specs.declared.seat.WorkerAt.TheVariants.{Thread, Here}
use Rattle.run_team.specs.declared.work.Left.{Left}
use Rattle.run_team.specs.declared.work.Left.TheVariants.{Unbegun, Ended}
use Rattle.run_team.specs.Works.{IsLeft, HasEndedFrom, Together}
use Rattle.run_team.specs.Seats.{IsSeatOf, Leaves, Ends}
use Rattle.run_team.proofs.Lists.{together_along}

module _ {W E : Type 0} (keeps : W → E → Type 0) where
  left_along : (worker : W) (seat : WorkerAt W E) (left : Left W E) → IsSeatOf keeps worker seat → Leaves keeps seat left → IsLeft keeps worker left
  left_along worker (Thread handle) left one two = subst (λ (w : W). IsLeft keeps w left) one two
  left_along worker (Here same) left one two = subst (IsLeft keeps worker) (sym two) one

  kept_along : (worker : W) (left : Left W E) (end : E) → IsLeft keeps worker left → HasEndedFrom keeps left end → keeps worker end
  kept_along worker (Unbegun same) end one two = subst (λ (w : W). keeps w end) one two
  kept_along worker (Ended same) end one two = subst (keeps worker) (sym two) one

  -- each worker is accounted for, if its seat is
  pub all_left : (workers : List W) (seats : List (WorkerAt W E)) (lefts : List (Left W E)) → Together (IsSeatOf keeps) workers seats → Together (Leaves keeps) seats lefts
      → Together (IsLeft keeps) workers lefts
  all_left = together_along (IsSeatOf keeps) (Leaves keeps) (IsLeft keeps) left_along

  pub all_kept : (workers : List W) (seats : List (WorkerAt W E)) (ends : List E) → Together (IsSeatOf keeps) workers seats → Together (Ends keeps) seats ends
      → Together keeps workers ends
  all_kept =
      together_along (IsSeatOf keeps) (Ends keeps) keeps
      (λ worker seat end one two. kept_along worker two.0 end (left_along worker seat two.0 one two.1) two.2)
