-- Steps of a boxed job that aren't its body's own, and polls that aren't counted.
use Rattle.std.specs.Prelude.{◌≡◌, ℕ, true, false, Some, None, [], refl}
use Rattle.std.proofs.Common.{arith}
use Rattle.base_jobs.specs.Bodies.{IsStepOf, is_ended}
use Rattle.base_jobs.specs.Example as example
use Rattle.base_jobs.specs.Meanings.{Meaning}
use Rattle.base_jobs.specs.Ranges.{IsWithin}
use Rattle.base_jobs.specs.Steps.{OwesOn, OwesOnce}
use Rattle.base_jobs.specs.declared.any.Range.{Range}
use Rattle.base_jobs.specs.declared.boxed.Body.TheVariants.{Polled, Once}
use Rattle.base_jobs.specs.declared.example.Work.TheVariants as work
use Rattle.base_jobs.specs.declared.job.Step.{Step}
use Rattle.base_jobs.specs.declared.job.Step.TheVariants.{Done, Yield, Park}

-- work and a call that are numbers: the next poll of the work yields, and the call gives its number; the key must be the number
abbrev pub OnlyYields : ℕ → ℕ → Step ℕ → Type 0
OnlyYields work key step = step ≡ Yield

abbrev pub IsNumber : ℕ → ℕ → Type 0
IsNumber call number = number ≡ call

-- work that yields is answered for
pub answered_unasked : IsStepOf OnlyYields IsNumber IsNumber 7 (Polled (Some 7)) (Done 7) → ⊥
answered_unasked own = cc

-- a call that gives seven is answered with zero
pub call_not_called : IsStepOf OnlyYields IsNumber IsNumber 7 (Once (Some 7)) (Done 0) → ⊥
call_not_called own = cc own.1

-- a call that is for the key is put off
pub call_put_off : IsStepOf OnlyYields IsNumber IsNumber 7 (Once (Some 7)) Yield → ⊥
call_put_off own = own refl

-- work that yields is parked
pub parked_unasked : IsStepOf OnlyYields IsNumber IsNumber 7 (Polled (Some 7)) Park → ⊥
parked_unasked own = cc

-- a call is parked, one that is for the key and one that isn't
pub call_parked : IsStepOf OnlyYields IsNumber IsNumber 7 (Once (Some 7)) Park → ⊥
call_parked own = own

pub other_call_parked : IsStepOf OnlyYields IsNumber IsNumber 7 (Once (Some 8)) Park → ⊥
other_call_parked own = own

-- a box that has work has ended, and work that has answered hasn't
pub ended_early : is_ended {B = ℕ} {C = ℕ} (Polled (Some 7)) ≡ true → ⊥
ended_early ended = cc

pub ended_goes_on : example.is_ended work.Ended ≡ false → ⊥
ended_goes_on ended = cc

-- an answer is past its range
pub past_its_range : IsWithin (record { least = 0; greatest = 7 }) 8 → ⊥
past_its_range within = absurd (omega (arith, within.1))

-- numbers that count their polls: each poll states as its time how many were made before it
abbrev pub states_its_place : Meaning ℕ ℕ
states_its_place = record {
  same = λ a b. Unit {0};
  done = λ job. false;
  can_poll = λ job. Unit {0};
  made = λ job. job;
  says = λ job. None;
  polls = λ job made calls step told. told ≡ Some made;
  answers = λ job out. Unit {0};
}

-- a poll isn't counted
pub poll_uncounted : OwesOn states_its_place 0 0 → ⊥
poll_uncounted on = cc (on 0 [] Yield (Some 0) refl)

-- the first poll states the time of the second
pub stated_too_early : OwesOnce states_its_place 0 Yield (Some 1) → ⊥
stated_too_early once = cc once.1
