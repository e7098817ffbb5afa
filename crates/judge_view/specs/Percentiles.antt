-- Percentiles of numbers, and the first of the greatest.
use Rattle.std.specs.Prelude.{ℕ, ◌*◌, ◌<◌, ◌≤◌, nat_lt, nat_le, List, length, count_by, slice_index}
use Rattle.judge_view.specs.declared.percentiles.Percentiles.{Percentiles}

-- how many of the numbers are at most this one
abbrev pub count_at_most : ℕ → List ℕ → ℕ
count_at_most value numbers = count_by (λ number. nat_le number value) numbers

-- how many of the numbers are below this one
abbrev pub count_below : ℕ → List ℕ → ℕ
count_below value numbers = count_by (λ number. nat_lt number value) numbers

-- the least number that so many thousandths of the numbers don't pass
pub record IsPercentile (thousandths value : ℕ) (numbers : List ℕ) : Type 0 where
  pub reached : thousandths * length numbers ≤ 1000 * count_at_most value numbers
  pub least : 1000 * count_below value numbers < thousandths * length numbers

-- a half of the numbers are at most the first percentile, nine tenths at most the second, and so on
pub record ArePercentiles (told : Percentiles) (numbers : List ℕ) : Type 0 where
  pub p50 : IsPercentile 500 told.p50 numbers
  pub p90 : IsPercentile 900 told.p90 numbers
  pub p99 : IsPercentile 990 told.p99 numbers
  pub p999 : IsPercentile 999 told.p999 numbers

-- at this place stands the greatest number, and none as great before it
pub record IsFirstGreatest (place : ℕ) (numbers : List ℕ) : Type 0 where
  pub there : place < length numbers
  pub greatest : (other : ℕ) → other < length numbers → slice_index numbers other ≤ slice_index numbers place
  pub first : (other : ℕ) → other < place → slice_index numbers other < slice_index numbers place
