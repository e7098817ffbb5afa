-- What a step says.
use Rattle.std.specs.Prelude.{◌≡◌, ℕ, ◌+◌, Bool, true, false, Option, None, List, []}
use Rattle.base_jobs.specs.Calls.{Call, Doing, Makes}
use Rattle.base_jobs.specs.declared.job.Step.{Step}
use Rattle.base_jobs.specs.declared.job.Step.TheVariants.{Done, Yield, Park}
use Rattle.base_jobs.specs.Meanings.{Meaning}

-- whether a poll answered
abbrev pub is_done_step : {T : Type 0} → Step T → Bool
is_done_step (Done out) = true
is_done_step Yield = false
is_done_step Park = false

-- a fact of the answer, if there is one
abbrev pub IfDone : {T : Type 0} → Step T → (T → Type 0) → Type 0
IfDone (Done out) fact = fact out
IfDone Yield fact = Unit {0}
IfDone Park fact = Unit {0}

-- a fact, if the job wants another poll, at once or when it is woken
abbrev pub IfUndone : {T : Type 0} → Step T → Type 0 → Type 0
IfUndone (Done out) fact = Unit {0}
IfUndone Yield fact = fact
IfUndone Park fact = fact

-- after a poll of the old job, each poll of the new one owes what that poll of the old one owed: both are counted alike
abbrev pub OwesOn : {J T : Type 0} → Meaning J T → J → J → Type 0
OwesOn {J} {T} meaning old new =
    (more : ℕ) (calls : List (Call J T)) (step : Step T) (told : Option ℕ)
    → meaning.polls new (meaning.made new + more) calls step told → meaning.polls old (meaning.made old + 1 + more) calls step told

-- a poll of the job that was made with some post owes so
abbrev pub OwesOnce : {J T : Type 0} → Meaning J T → J → Step T → Option ℕ → Type 0
OwesOnce {J} {T} meaning job step told = (calls : List (Call J T)) × meaning.polls job (meaning.made job) calls step told

-- a poll of the job with this post owes so: it made these calls of the post, and no other
pub record OwesAt {P J T : Type 0} (meaning : Meaning J T) (does : Doing P J T) (job : J) (old new : P) (step : Step T) (told : Option ℕ) : Type 0 where
  pub calls : List (Call J T)
  pub owed : meaning.polls job (meaning.made job) calls step told
  pub makes : Makes does calls old new

-- the only poll of a job: it answers, states no time of its own, and calls nothing of its post
abbrev pub AnswersAtOnce : {J T : Type 0} → List (Call J T) → Step T → Option ℕ → Type 0
AnswersAtOnce calls step told = (calls ≡ []) × (is_done_step step ≡ true) × (told ≡ None)

-- a poll that calls nothing of its post and states no time of its own
abbrev pub PostsNothing : {J T : Type 0} → List (Call J T) → Option ℕ → Type 0
PostsNothing calls told = (calls ≡ []) × (told ≡ None)

-- a job after one poll, and as it was before
pub record AfterPoll (J T : Type 0) : Type 0 where
  pub job : J
  pub step : Step T
  pub told : Option ℕ
  pub before : J
