-- The workers beside which a caller stands, as the caller sees them.
use Rattle.std.specs.Prelude.{◌≡◌, ℕ, List, [], ◌∷◌, ◌++◌, map}
use Rattle.actor_seat.specs.Linked.{LinkedView}
use Rattle.actor_caller.specs.State.{RuntimeView}

-- The workers as they began, and of each: the names of the bells that it rings, the board on which it publishes, the mark of its sink, and after how many
-- rounds in which nothing was done it parks.
pub record TeamView (J T : Type 0) : Type 0 where
  pub workers : List (LinkedView J T)
  pub bells : List (List ℕ)
  pub boards : List (List ℕ)
  pub marks : List ℕ
  pub tries : List ℕ

-- These workers are the ones that the caller sees beside it: by what they began with, the bells that they ring, their boards, the marks of their sinks, and
-- when they park.
pub record IsBeside {J T : Type 0} (team : TeamView J T) (view : RuntimeView J T) : Type 0 where
  pub workers : team.workers ≡ view.workers
  pub bells : team.bells ≡ view.bells
  pub boards : team.boards ≡ map (λ watcher. watcher.board) view.watched
  pub marks : (last : ℕ) × (view.marks ≡ team.marks ++ last ∷ [])
  pub tries : team.tries ≡ view.tries
