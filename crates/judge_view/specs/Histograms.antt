-- How many spans are about so long.
use Rattle.std.specs.Prelude.{ℕ, Bool, ◌&&◌, nat_le, List, count_by}
use Rattle.judge_view.specs.Summaries.{length_in}
use Rattle.judge_view.specs.declared.spans.Span.{Span}
use Rattle.judge_view.specs.declared.summaries.Measure.{Measure}

-- a number is within a range
abbrev pub is_within : ℕ → ℕ → ℕ → Bool
is_within number from to = nat_le from number && nat_le number to

-- how many spans are within a range
abbrev pub count_within : Measure → ℕ → ℕ → List Span → ℕ
count_within measure from to spans = count_by (λ span. is_within (length_in measure span) from to) spans
