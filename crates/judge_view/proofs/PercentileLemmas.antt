-- Percentiles of numbers that rise.
use Rattle.std.proofs.Common.{◌≡◌, ℕ, zero, suc, ◌+◌, ◌-◌, ◌*◌, ◌/◌, ◌<◌, ◌≤◌, Bool, true, false, List, [], ◌∷◌, length, get_or, ap, arith}
use Rattle.std.specs.Prelude.{count_by, nat_lt, nat_le}
use Rattle.base_words.specs.Work.{number_if}
use Rattle.std.specs.List.Sorted.{IsNonDecreasing, IsPermutation}
use Rattle.std.proofs.lemmas.Bool.{le-leb, le-ltb}
use Rattle.std.proofs.lemmas.List.Sums.{sum_by-cons}
use Rattle.std.proofs.lemmas.List.Sorted.{sum_by-IsPermutation, length_permutation}
use Rattle.std.proofs.Math.Nat.{mul_comm}
use Rattle.judge_view.specs.Percentiles.{ArePercentiles, IsPercentile, count_at_most, count_below}
use Rattle.judge_view.specs.declared.percentiles.Percentiles.{Percentiles}

module _ (test : ℕ → Bool) where
  first_counts : (number : ℕ) (numbers : List ℕ) → count_by test (number ∷ numbers) ≡ number_if (test number) + count_by test numbers
  first_counts number numbers = sum_by-cons (λ number. number_if (test number)) number numbers

  -- numbers that pass at the front are counted
  at_least : (numbers : List ℕ) (count : ℕ) → count ≤ length numbers → ((place : ℕ) → place < count → test (get_or numbers place 0) ≡ true) →
      count ≤ count_by test numbers
  at_least numbers zero within pass = omega arith
  at_least [] (suc count) within pass = absurd (omega arith)
  at_least (number ∷ numbers) (suc count) within pass =
      let rest : count ≤ count_by test numbers = at_least numbers count (omega arith) (λ place less. pass (suc place) (omega arith)) in
      let one : number_if (test number) ≡ 1 = ap number_if (pass 0 (omega arith)) in
      omega (arith, first_counts number numbers)

  few : (passes : Bool) → number_if passes ≤ 1
  few true = omega arith
  few false = omega arith

  -- numbers that don't pass, from a place on, are not counted
  at_most : (numbers : List ℕ) (count : ℕ) → ((place : ℕ) → count ≤ place → place < length numbers → test (get_or numbers place 0) ≡ false) →
      count_by test numbers ≤ count
  at_most [] count fail = omega arith
  at_most (number ∷ numbers) zero fail =
      let rest : count_by test numbers ≤ 0 = at_most numbers zero (λ place past within. fail (suc place) (omega arith) (omega arith)) in
      let none : number_if (test number) ≡ 0 = ap number_if (fail 0 (omega arith) (omega arith)) in
      omega (arith, first_counts number numbers)
  at_most (number ∷ numbers) (suc count) fail =
      let rest : count_by test numbers ≤ count = at_most numbers count (λ place past within. fail (suc place) (omega arith) (omega arith)) in
      omega (arith, first_counts number numbers, few (test number))

module _ (numbers : List ℕ) (rising : IsNonDecreasing numbers) (place : ℕ) (there : place < length numbers) where
  reached_there : place + 1 ≤ count_at_most (get_or numbers place 0) numbers
  reached_there =
      at_least (λ number. nat_le number (get_or numbers place 0)) numbers (place + 1) (omega arith)
      (λ other less. le-leb (get_or numbers other 0) (get_or numbers place 0) (rising other place 0 (omega arith) there))

  not_before_there : count_below (get_or numbers place 0) numbers ≤ place
  not_before_there =
      at_most (λ number. nat_lt number (get_or numbers place 0)) numbers place
      (λ other past within. le-ltb (get_or numbers other 0) (get_or numbers place 0) (rising place other 0 past within))

-- a part of some numbers is some, and not more than all
part_within : (count thousandths : ℕ) → thousandths ≤ 1000 → count * thousandths ≤ count * 1000
part_within zero thousandths within = omega arith
part_within (suc count) thousandths within = let rest = part_within count thousandths within in grind (arith, rest)

part_some : (count thousandths : ℕ) → 0 < count → 0 < thousandths → 0 < count * thousandths
part_some zero thousandths some positive = absurd (omega arith)
part_some (suc count) thousandths some positive = grind arith

-- the place of the rank, and what stands there
pub rank_within : (count thousandths : ℕ) → 0 < count → 0 < thousandths → thousandths ≤ 1000 → (count * thousandths + 999) / 1000 - 1 < count
rank_within count thousandths some positive within =
    let low : 0 < count * thousandths = part_some count thousandths some positive in
    let high : count * thousandths ≤ count * 1000 = part_within count thousandths within in
    omega arith

pub percentile_there : (thousandths : ℕ) (numbers : List ℕ) → 0 < length numbers → IsNonDecreasing numbers → 0 < thousandths → thousandths ≤ 1000 →
    IsPercentile thousandths (get_or numbers ((length numbers * thousandths + 999) / 1000 - 1) 0) numbers
percentile_there thousandths numbers some rising positive within =
    let rank = (length numbers * thousandths + 999) / 1000 in
    let there : rank - 1 < length numbers = rank_within (length numbers) thousandths some positive within in
    let low : 0 < length numbers * thousandths = part_some (length numbers) thousandths some positive in
    let share : thousandths * length numbers ≡ length numbers * thousandths = mul_comm thousandths (length numbers) in
    let reached = reached_there numbers rising (rank - 1) there in
    let before = not_before_there numbers rising (rank - 1) there in
    record { reached = omega (arith, reached, share); least = omega (arith, before, share) }

-- the order of the numbers doesn't matter
pub percentile_moved : (thousandths value : ℕ) (numbers moved : List ℕ) → IsPermutation numbers moved → IsPercentile thousandths value moved →
    IsPercentile thousandths value numbers
percentile_moved thousandths value numbers moved same is =
    let count : length moved ≡ length numbers = length_permutation numbers moved same in
    let counted : count_at_most value moved ≡ count_at_most value numbers = sum_by-IsPermutation (λ number. number_if (nat_le number value)) numbers moved same in
    let below : count_below value moved ≡ count_below value numbers = sum_by-IsPermutation (λ number. number_if (nat_lt number value)) numbers moved same in
    let share : thousandths * length moved ≡ thousandths * length numbers = ap (λ n. thousandths * n) count in
    record { reached = omega (arith, is.reached, counted, share); least = omega (arith, is.least, below, share) }

pub percentiles_moved : (told : Percentiles) (numbers moved : List ℕ) → IsPermutation numbers moved → ArePercentiles told moved → ArePercentiles told numbers
percentiles_moved told numbers moved same are = record {
  p50 = percentile_moved 500 told.p50 numbers moved same are.p50;
  p90 = percentile_moved 900 told.p90 numbers moved same are.p90;
  p99 = percentile_moved 990 told.p99 numbers moved same are.p99;
  p999 = percentile_moved 999 told.p999 numbers moved same are.p999;
}
