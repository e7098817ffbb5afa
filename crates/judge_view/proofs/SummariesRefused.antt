-- Numbers that are told wrongly are refused.
use Rattle.std.proofs.Common.{◌≡◌, ℕ, zero, suc, ap, arith}
use Rattle.std.specs.Prelude.{Option, Some, None, slice_get}
use Rattle.judge_view.specs.BadSummaries.{SummariesAreRefused, two_spans}
use Rattle.judge_view.specs.Percentiles.{IsFirstGreatest}
use Rattle.judge_view.specs.Rows.{span_row}
use Rattle.judge_view.specs.Summaries.{lengths}
use Rattle.judge_view.specs.declared.spans.Span.{Span}
use Rattle.judge_view.specs.declared.summaries.Measure.TheVariants.{Turns}

abbrev turns_of : Option Span → ℕ
turns_of None = 0
turns_of (Some span) = span.turns

-- the second span, if it stands at the place, is not the longer one
not_longest : (place : ℕ) → slice_get two_spans place ≡ Some (span_row 2 1 90) → IsFirstGreatest place (lengths Turns two_spans) → ⊥
not_longest zero there greatest = let turns : 3 ≡ 1 = ap turns_of there in absurd (omega (arith, turns))
not_longest (suc zero) there greatest = absurd (omega (arith, greatest.greatest 0 (omega arith)))
not_longest (suc (suc place)) there greatest = absurd (omega (arith, greatest.there))

pub refused : SummariesAreRefused
refused = record {
  one_too_far = λ is. absurd (omega (arith, is.least));
  too_small = λ is. absurd (omega (arith, is.reached));
  between = λ is. absurd (omega (arith, is.least));
  second = λ is. absurd (omega (arith, is.first 0 (omega arith)));
  lesser = λ is. absurd (omega (arith, is.greatest 1 (omega arith)));
  past = λ is. absurd (omega (arith, is.there));
  silent = λ is. cc;
  invented = λ summary is. absurd (omega (arith, is.longest.greatest.there));
  other_measure = λ is. not_longest is.place is.there is.greatest;
  miscounted = λ summary one is. absurd (omega (arith, one, is.jobs));
}
