-- What a job means: one record, and the laws that it keeps.
use Rattle.std.specs.Prelude.{ℕ, Bool, Option, List}
use Rattle.base_jobs.specs.Calls.{Call}
use Rattle.base_jobs.specs.declared.job.Step.{Step}

-- what a poll owes: of the job before it, the polls made, the calls of its post with their answers, the step and the told time
abbrev pub Owed : Type 0 → Type 0 → Type 1
Owed J T = J → ℕ → List (Call J T) → Step T → Option ℕ → Type 0

-- what jobs `J` with answers `T` mean: which two have the same task, whether one has answered, what a poll needs of it beside that,
-- how many polls it has made where it counts them, the time that its last poll states of itself, what each poll owes, and which answers its task may have
pub record Meaning (J T : Type 0) : Type 1 where
  pub same : J → J → Type 0
  pub done : J → Bool
  pub can_poll : J → Type 0
  pub made : J → ℕ
  pub says : J → Option ℕ
  pub polls : Owed J T
  pub answers : J → T → Type 0

-- to have the same task is an equivalence
pub record IsSameTask {J : Type 0} (same : J → J → Type 0) : Type 0 where
  pub itself : (a : J) → same a a
  pub back : (a b : J) → same a b → same b a
  pub along : (a b c : J) → same a b → same b c → same a c

-- the four laws: to have the same task is an equivalence; jobs of one task have the same answers, owe the same polls, and can be polled alike,
-- so a job that comes back can be sent again where it isn't done
pub record IsMeaning {J T : Type 0} (meaning : Meaning J T) : Type 0 where
  pub same_task : IsSameTask meaning.same
  pub answers_same : (a b : J) (out : T) → meaning.same a b → meaning.answers a out → meaning.answers b out
  pub polls_same : (a b : J) (made : ℕ) (calls : List (Call J T)) (step : Step T) (told : Option ℕ) →
      meaning.same a b → meaning.polls a made calls step told → meaning.polls b made calls step told
  pub can_poll_same : (a b : J) → meaning.same a b → meaning.can_poll a → meaning.can_poll b
