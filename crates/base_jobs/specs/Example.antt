-- What the example's work answers.
use Rattle.std.specs.Prelude.{◌≡◌, ℕ, ◌+◌, Bool, true, false}
use Rattle.std.specs.Int.{IsGcd}
use Rattle.base_jobs.specs.declared.example.Work.{Work}
use Rattle.base_jobs.specs.declared.example.Work.TheVariants.{Sum, Divisor, Later, Ended}

-- the numbers that may answer the work
abbrev pub MayAnswer : Work → ℕ → Type 0
MayAnswer (Sum left right) out = out ≡ left + right
MayAnswer (Divisor left right) out = IsGcd left right out
MayAnswer (Later yields number) out = out ≡ number
MayAnswer Ended out = ⊥

-- whether it has answered
abbrev pub is_ended : Work → Bool
is_ended (Sum left right) = false
is_ended (Divisor left right) = false
is_ended (Later yields number) = false
is_ended Ended = true
