use Rattle.std.proofs.Common.{ℕ, List, sym, subst}
use Rattle.std.specs.List.Sorted.{IsNonDecreasing}
use Rattle.std.proofs.lemmas.List.Sorted.{IsNonDecreasingBy-from_sort}
use Rattle.judge_view.specs.Percentiles.{ArePercentiles}
use Rattle.judge_view.proofs.PercentileLemmas.{percentiles_moved}
use Rattle.judge_view.proofs.percentiles.percentiles_of.Goals as goal

pub of_rising-requires-clause-rising : goal.of_rising-requires-clause-rising
of_rising-requires-clause-rising c =
    subst (λ (numbers : List ℕ). IsNonDecreasing numbers) (sym c.deref.ensures.value)
    (IsNonDecreasingBy-from_sort (λ (number : ℕ). number) c.sort.new.self.items c.in_ok-sort.ensures.sorted)

pub returns : goal.returns
returns c =
    percentiles_moved c.of_rising.result c.args.numbers.items c.sort.new.self.items c.sort.ensures.permutation
    (subst (λ (numbers : List ℕ). ArePercentiles c.of_rising.result numbers) c.deref.ensures.value c.of_rising.ensures)
