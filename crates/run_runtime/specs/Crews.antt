-- The workers of a runtime on their threads, as their caller sees them, and what stands beside them.
use Rattle.std.specs.Prelude.{◌≡◌, ℕ, ◌+◌, ◌≤◌, List, [], length, map}
use Rattle.run_worker.specs.Workers.{WorkerView}
use Rattle.actor_caller.specs.Teams.{TeamView}

-- what a caller sees of these workers
abbrev pub team_of : {J T C G S : Type 0} → (S → ℕ) → List (WorkerView J T C G S) → TeamView J T
team_of mark workers = record {
  workers = map (λ worker. worker.linked) workers;
  bells = map (λ worker. worker.bells) workers;
  boards = map (λ worker. worker.shown.board) workers;
  marks = map (λ worker. mark worker.sink) workers;
  tries = map (λ worker. worker.tries) workers;
}

-- an empty list, with room for what each of these workers and the caller give back
abbrev pub IsSpare : {A B : Type 0} → List B → List A → ℕ → Type 0
IsSpare workers items capacity = (items ≡ []) × (length workers + 1 ≤ capacity)
