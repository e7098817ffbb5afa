-- What a boxed job holds.
use Rattle.std.specs.Prelude.{ℕ, Bool, Some, None, is_none}
use Rattle.base_jobs.specs.declared.boxed.Body.{Body}
use Rattle.base_jobs.specs.declared.boxed.Body.TheVariants.{Polled, Once}
use Rattle.base_jobs.specs.declared.job.Step.{Step}
use Rattle.base_jobs.specs.declared.job.Step.TheVariants.{Done, Yield, Park}

-- whether nothing is left to poll or to call
abbrev pub is_ended : {B C : Type 0} → Body B C → Bool
is_ended (Polled job) = is_none job
is_ended (Once call) = is_none call

-- the step is one that the next poll of the work may come to, or the call gives its answer; a call answers if it is for that key, and yields otherwise
abbrev pub IsStepOf : {B C K : Type 0} → (B → K → Step ℕ → Type 0) → (C → K → Type 0) → (C → ℕ → Type 0) → K → Body B C → Step ℕ → Type 0
IsStepOf steps is_for gives key (Polled (Some work)) step = steps work key step
IsStepOf steps is_for gives key (Once (Some call)) (Done out) = is_for call key × gives call out
IsStepOf steps is_for gives key (Once (Some call)) Yield = ¬ (is_for call key)
IsStepOf steps is_for gives key (Once (Some call)) Park = ⊥
IsStepOf steps is_for gives key (Polled None) step = ⊥
IsStepOf steps is_for gives key (Once None) step = ⊥
