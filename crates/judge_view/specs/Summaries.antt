-- What is told of many spans.
use Rattle.std.specs.Prelude.{◌≡◌, ℕ, Option, Some, None, List, [], map, length, slice_get}
use Rattle.judge_view.specs.Percentiles.{ArePercentiles, IsFirstGreatest}
use Rattle.judge_view.specs.declared.spans.Span.{Span}
use Rattle.judge_view.specs.declared.summaries.Measure.{Measure}
use Rattle.judge_view.specs.declared.summaries.Measure.TheVariants.{Turns, Time}
use Rattle.judge_view.specs.declared.summaries.Summary.{Summary}

-- how long a span is
abbrev pub length_in : Measure → Span → ℕ
length_in Turns span = span.turns
length_in Time span = span.time

-- how long each span is
abbrev pub lengths : Measure → List Span → List ℕ
lengths measure spans = map (length_in measure) spans

-- the first of the longest spans
pub record IsFirstLongest (measure : Measure) (longest : Span) (spans : List Span) : Type 0 where
  pub place : ℕ
  pub there : slice_get spans place ≡ Some longest
  pub greatest : IsFirstGreatest place (lengths measure spans)

-- how many spans there are, percentiles of their lengths, and the first of the longest with its length
pub record Summarizes (measure : Measure) (summary : Summary) (spans : List Span) : Type 0 where
  pub jobs : summary.jobs ≡ length spans
  pub percentiles : ArePercentiles summary.percentiles (lengths measure spans)
  pub greatest : summary.greatest ≡ length_in measure summary.longest
  pub longest : IsFirstLongest measure summary.longest spans

-- of no span nothing is told
abbrev pub IsSummary : Measure → List Span → Option Summary → Type 0
IsSummary measure spans None = spans ≡ []
IsSummary measure spans (Some summary) = Summarizes measure summary spans
