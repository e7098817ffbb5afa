-- Workers on threads of their own.
use Rattle.std.specs.Prelude.{◌≡◌, ℕ, ◌≤◌, List, [], length}
use Rattle.run_team.specs.declared.seat.WorkerAt.{WorkerAt}
use Rattle.run_team.specs.declared.team.NotStarted.{NotStarted}
use Rattle.run_team.specs.declared.team.NotStarted.TheVariants.{Memory, Thread}
use Rattle.run_team.specs.Works.{IsLeft, Together}
use Rattle.run_team.specs.Seats.{IsSeatOf}

module _ {W E : Type 0} (keeps : W → E → Type 0) where
  -- each worker has its seat, and there is room for what they give back
  pub record IsTeam (given : List W) (seats : List (WorkerAt W E)) (ended : List E) (room : ℕ) : Type 0 where
    pub seated : Together (IsSeatOf keeps) given seats
    pub none_ended : ended ≡ []
    pub reserved : length seats ≤ room

  -- no worker is on a thread: each is back as it was given, or has ended with what it owes
  abbrev pub AccountsFor : List W → NotStarted W E → Type 0
  AccountsFor given (Memory same) = same.items ≡ given
  AccountsFor given (Thread lefts) = Together (IsLeft keeps) given lefts.items
