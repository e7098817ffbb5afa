-- What no caller of a runtime, no worker and no watch sees, each refused by the definition that judges it.
use Rattle.std.specs.Prelude.{◌≡◌, ℕ, Bool, true, false, List, [], ◌∷◌, length, Option, None, Err}
use Rattle.std.proofs.Common.{ap, sym, ◌∙◌, arith}
use Rattle.base_words.specs.declared.stats.CoreStats.{CoreStats}
use Rattle.base_words.specs.Journal.{Journal}
use Rattle.base_jobs.specs.Meanings.{Meaning}
use Rattle.text_words.specs.declared.fault.Fault.TheVariants.{Read}
use Rattle.run_team.specs.declared.team.NotStarted.{NotStarted}
use Rattle.run_team.specs.declared.team.NotStarted.TheVariants as why
use Rattle.run_team.specs.Teams.{AccountsFor}
use Rattle.run_watch.specs.Tells.{TellsCore}
use Rattle.run_worker.specs.Workers.{HasNotBegun, WorkerView}
use Rattle.actor_caller.specs.Closings.{TellsOpen}
use Rattle.actor_caller.specs.State.{RuntimeView, closing_at}
use Rattle.actor_caller.specs.Teams.{TeamView}
use Rattle.actor_caller.specs.Watching.{AreWatched}
use Rattle.run_runtime.specs.declared.error.FinishError.TheVariants.{NotClosed}
use Rattle.run_runtime.specs.WithSinks.{FinishesWithSinks}
use Rattle.fairexec_script.specs.Faults.{IfOf}
use Rattle.fairexec_script.specs.declared.fault.ThreadsFault.TheVariants.{Of, Thread}
use Rattle.fairexec_threads.specs.Runs.{IfUntold}

-- each of these faults has its fact
pub no_thread : IfUntold ⊥ Thread → ⊥
no_thread fact = fact

pub failed_read : IfOf (λ fault. ⊥) (Of Read) → ⊥
failed_read fact = fact

-- a core is told a turn that its journal hasn't
pub turn_out_of_nothing : (floor held : ℕ) (drained : Bool) → TellsCore 1 [] (record { turns = 1; floor = floor; held = held; drained = drained }) → ⊥
turn_out_of_nothing floor held drained tells = absurd (omega (arith, ap (λ (told : CoreStats). told.turns) tells.sums))

-- a worker that took time hasn't begun
pub begun_by_time : (worker : WorkerView ℕ ℕ ℕ ℕ ℕ) → worker.taken ≡ 1 → HasNotBegun worker → ⊥
begun_by_time worker taken has = absurd (omega (arith, taken, has.taken))

-- a worker that was handed in is lost where there is no memory
abbrev LosesAll : NotStarted ℕ ℕ → Type 0
LosesAll (why.Memory same) = same.items ≡ []
LosesAll (why.Thread lefts) = ⊥

pub worker_lost : (keeps : ℕ → ℕ → Type 0) (left : NotStarted ℕ ℕ) → LosesAll left → AccountsFor keeps (7 ∷ []) left → ⊥
worker_lost keeps (why.Memory same) none accounts = let both : ◌≡◌ {A = List ℕ} [] (7 ∷ []) = sym none ∙ accounts in cc
worker_lost keeps (why.Thread lefts) none accounts = none

-- a worker has no board, and an open core is told as closed
pub worker_without_board : (team : TeamView ℕ ℕ) → length team.boards ≡ 0 → length team.workers ≡ 1 → AreWatched team [] → ⊥
worker_without_board team none one watched = absurd (omega (arith, none, one, watched.boards))

pub open_core_is_closed : (view : RuntimeView ℕ ℕ) → view.desk.cores ≡ 1 → closing_at 0 view ≡ false → TellsOpen view None → ⊥
open_core_is_closed view one still told = let both : true ≡ false = sym (told 0 (omega (arith, one))) ∙ still in cc

-- another runtime comes back than the one that isn't closed
module _ {S : Type 0} (meaning : Meaning ℕ ℕ) (has : S → Journal ℕ) (refused : S → ℕ → Type 0) (asks : S → Option ℕ) (mark : S → ℕ) where
  pub another_comes_back : (view back : RuntimeView ℕ ℕ) → view.room ≡ 1 → back.room ≡ 2 → FinishesWithSinks meaning has refused asks mark view (Err (NotClosed 0 back)) → ⊥
  another_comes_back view back one two finishes = absurd (omega (arith, one, two, ap (λ (runtime : RuntimeView ℕ ℕ). runtime.room) finishes.1))
