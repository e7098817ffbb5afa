-- How long the jobs of each core waited and ran, as text.
use Rattle.std.specs.Prelude.{◌≡◌, ℕ, ◌-◌, ◌^◌, ◌==◌, Bool, Option, Some, None, List, [], ◌++◌, codes, decimal, if◌then◌else◌}
use Rattle.base_words.specs.Assembly.{Assembly, journal_of}
use Rattle.base_words.specs.Journal.{Journal}
use Rattle.text_words.specs.Notes.{name_text}
use Rattle.judge_view.specs.Histograms.{count_within}
use Rattle.judge_view.specs.Summaries.{IsSummary}
use Rattle.judge_view.specs.Waits.{waits, runs}
use Rattle.judge_view.specs.declared.percentiles.Percentiles.{Percentiles}
use Rattle.judge_view.specs.declared.spans.Span.{Span}
use Rattle.judge_view.specs.declared.summaries.Measure.{Measure}
use Rattle.judge_view.specs.declared.summaries.Measure.TheVariants.{Turns, Time}
use Rattle.judge_view.specs.declared.summaries.Summary.{Summary}
use Rattle.fairview_marks.specs.Lists.{lists_below}
use Rattle.fairview_report.specs.Texts.{right, bar, AreTextsBelow}
use Rattle.fairview_report.specs.declared.wait.Kind.{Kind}
use Rattle.fairview_report.specs.declared.wait.Kind.TheVariants.{Wait, Run}

-- the word of a kind of span, and that of a measure
abbrev pub kind_word : Kind → List ℕ
kind_word Wait = codes "wait"
kind_word Run = codes "run"

abbrev pub measure_word : Measure → List ℕ
measure_word Turns = codes "turns"
measure_word Time = codes "ns"

-- four percentiles
abbrev pub percentiles_text : Percentiles → List ℕ
percentiles_text told =
    codes "p50 " ++ decimal told.p50 ++ codes " p90 " ++ decimal told.p90 ++ codes " p99 " ++ decimal told.p99 ++ codes " p99.9 " ++ decimal told.p999

-- whose spans a line tells of
abbrev pub whose_text : ℕ → Kind → Measure → List ℕ
whose_text core kind measure = codes "core " ++ decimal core ++ codes " " ++ kind_word kind ++ codes " " ++ measure_word measure

-- how many spans there are, their percentiles, and the greatest length
abbrev pub summary_text : Summary → List ℕ
summary_text summary =
    codes "jobs " ++ decimal summary.jobs ++ codes " " ++ percentiles_text summary.percentiles ++ codes " greatest " ++ decimal summary.greatest

-- the line of a summary
abbrev pub summary_line : ℕ → Kind → Measure → Summary → List ℕ
summary_line core kind measure summary =
    whose_text core kind measure ++ codes " " ++ summary_text summary ++ codes " of " ++ name_text summary.longest.name

-- the least and the greatest number with so many binary digits
abbrev pub least_with : ℕ → ℕ
least_with digits = if digits == 0 then 0 else 2 ^ (digits - 1)

abbrev pub greatest_with : ℕ → ℕ
greatest_with digits = 2 ^ digits - 1

-- the line of the spans within a range, with a bar of 40 marks for all of them; without such spans there is no line
abbrev pub range_text : Bool → ℕ → ℕ → ℕ → ℕ → List ℕ
range_text plain from to count jobs =
    if count == 0 then [] else right 14 (decimal from) ++ codes " " ++ right 14 (decimal to) ++ codes " " ++ right 8 (decimal count)
    ++ codes " " ++ bar plain 40 count jobs ++ codes "\n"

-- the line of the spans whose length has so many binary digits
abbrev pub digits_text : Bool → Measure → List Span → ℕ → ℕ → List ℕ
digits_text plain measure spans jobs digits =
    range_text plain (least_with digits) (greatest_with digits) (count_within measure (least_with digits) (greatest_with digits) spans) jobs

-- the histogram of spans, by their binary digits
abbrev pub histogram_text : Bool → Measure → List Span → ℕ → List ℕ
histogram_text plain measure spans jobs = lists_below (digits_text plain measure spans jobs) 129

-- the summary of the spans, if there are any, and behind it their histogram
abbrev pub spans_text : Bool → ℕ → Kind → Measure → List Span → Option Summary → List ℕ
spans_text plain core kind measure spans None = []
spans_text plain core kind measure spans (Some summary) =
    summary_line core kind measure summary ++ codes "\n" ++ histogram_text plain measure spans summary.jobs

-- the same, of a summary of these spans
abbrev pub IsSpansText : Bool → ℕ → Kind → Measure → List Span → List ℕ → Type 0
IsSpansText plain core kind measure spans text =
    (summary : Option Summary) × IsSummary measure spans summary × (text ≡ spans_text plain core kind measure spans summary)

-- both measures of the spans of a kind
pub record IsKindText (plain : Bool) (core : ℕ) (kind : Kind) (spans : List Span) (text : List ℕ) : Type 0 where
  pub turns : List ℕ
  pub time : List ℕ
  pub in_turns : IsSpansText plain core kind Turns spans turns
  pub in_time : IsSpansText plain core kind Time spans time
  pub both : text ≡ turns ++ time

-- the waits of a core, and behind them its runs
pub record IsCoreText (plain : Bool) (core : ℕ) (journal : Journal ℕ) (text : List ℕ) : Type 0 where
  pub waited : List ℕ
  pub ran : List ℕ
  pub waits : IsKindText plain core Wait (waits journal) waited
  pub runs : IsKindText plain core Run (runs journal) ran
  pub both : text ≡ waited ++ ran

-- the same of all cores, by number
abbrev pub IsWaitText : Bool → Assembly ℕ → List ℕ → Type 0
IsWaitText plain assembly text = AreTextsBelow (λ core. IsCoreText plain core (journal_of core assembly)) assembly.cores text
