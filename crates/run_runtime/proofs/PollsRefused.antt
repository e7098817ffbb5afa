-- Polls that no finish tells: one more than the job owes, and a yield of a job that answers at once.
use Rattle.std.proofs.Common.{◌≡◌, ℕ, ◌<◌, List, false, arith}
use Rattle.std.specs.Prelude.{Option, None}
use Rattle.base_words.specs.declared.names.JobId.{JobId}
use Rattle.base_words.specs.Assembly.{Assembly}
use Rattle.base_jobs.specs.Calls.{Call}
use Rattle.base_jobs.specs.Meanings.{Meaning}
use Rattle.base_jobs.specs.Steps.{AnswersAtOnce, IfUndone}
use Rattle.base_jobs.specs.declared.job.Step.{Step}
use Rattle.base_jobs.specs.declared.job.Step.TheVariants.{Yield}
use Rattle.actor_core.specs.Polls.{polls_made}
use Rattle.run_runtime.specs.Laws.{TellsPoll}
use Rattle.run_runtime.specs.Outcomes.{TellsOrders}
use Rattle.actor_caller.specs.State.{RuntimeView}
use Rattle.run_runtime.proofs.PollsOwed.{unowed_polls_refused}

-- work that is a number of yields, and then answers
abbrev yielding : Meaning ℕ ℕ
yielding = record {
  same = λ a b. a ≡ b;
  done = λ job. false;
  can_poll = λ job. Unit {0};
  made = λ job. 0;
  says = λ job. None;
  polls = λ job made calls step told. IfUndone step (made < job);
  answers = λ job out. Unit {0};
}

-- a third yield of a job that yields twice
third_yield_refused : (view : RuntimeView ℕ ℕ) (assembly : Assembly ℕ) (name : JobId) (tells : TellsPoll view assembly name 2 Yield) → polls_made name tells.before ≡ 2 → TellsOrders yielding view assembly → ⊥
third_yield_refused view assembly name tells twice finished =
    unowed_polls_refused yielding view assembly name 2 Yield tells (λ calls told owed. omega (arith, owed, twice)) finished

-- a yield of a job that answers at once
yield_refused : {J : Type 0} (meaning : Meaning J ℕ) → ((job : J) (made : ℕ) (calls : List (Call J ℕ)) (step : Step ℕ) (told : Option ℕ) → meaning.polls job made calls step told → AnswersAtOnce calls step told) →
    (view : RuntimeView J ℕ) (assembly : Assembly ℕ) (name : JobId) (job : J) → TellsPoll view assembly name job Yield → TellsOrders meaning view assembly → ⊥
yield_refused meaning at_once view assembly name job tells finished =
    unowed_polls_refused meaning view assembly name job Yield tells (λ calls told owed. let done = (at_once job _ calls Yield told owed).1 in absurd cc) finished
