-- Ranges of numbers.
use Rattle.std.specs.Prelude.{ℕ, ◌≤◌, ◌-◌, ◌^◌}
use Rattle.base_jobs.specs.declared.any.Range.{Range}

-- a number of the range
abbrev pub IsWithin : Range → ℕ → Type 0
IsWithin range out = (range.least ≤ out) × (out ≤ range.greatest)

-- the range of every number that an answer can be
abbrev pub any_number : Range
any_number = record { least = 0; greatest = 2 ^ 64 - 1 }
