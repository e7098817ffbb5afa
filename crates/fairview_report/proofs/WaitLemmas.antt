-- The text of waits and runs, part after part.
use Rattle.std.proofs.Common.{◌≡◌, ℕ, List, [], ◌++◌, Bool, refl, sym, ap, ◌∙◌, subst, append_assoc, append-nil}
use Rattle.std.specs.Prelude.{Some, None, codes}
use Rattle.base_words.specs.Journal.{Journal}
use Rattle.judge_view.specs.Histograms.{count_within}
use Rattle.judge_view.specs.Summaries.{IsSummary}
use Rattle.judge_view.specs.Waits.{waits, runs}
use Rattle.judge_view.specs.declared.spans.Span.{Span}
use Rattle.judge_view.specs.declared.summaries.Measure.{Measure}
use Rattle.judge_view.specs.declared.summaries.Measure.TheVariants.{Turns, Time}
use Rattle.judge_view.specs.declared.summaries.Summary.{Summary}
use Rattle.fairview_report.specs.Texts.{Puts}
use Rattle.fairview_report.specs.WaitTexts.{IsCoreText, IsKindText, IsSpansText, digits_text, greatest_with, histogram_text, least_with, range_text, summary_line}
use Rattle.fairview_report.specs.declared.wait.Kind.{Kind}
use Rattle.fairview_report.specs.declared.wait.Kind.TheVariants.{Wait, Run}

-- the waits of a core, and behind them its runs
pub core_put : (plain : Bool) (core : ℕ) (journal : Journal ℕ) (waited ran : List Span) (old mid new : List ℕ) → waited ≡ waits journal → ran ≡ runs journal →
    Puts (IsKindText plain core Wait waited) old mid → Puts (IsKindText plain core Run ran) mid new → Puts (IsCoreText plain core journal) old new
core_put plain core journal waited ran old mid new waits_are runs_are (front, one, mid_is) (rear, two, new_is) = (
  front ++ rear,
  record {
    waited = front;
    ran = rear;
    waits = subst (λ spans. IsKindText plain core Wait spans front) waits_are one;
    runs = subst (λ spans. IsKindText plain core Run spans rear) runs_are two;
    both = refl;
  },
  new_is ∙ (ap (λ bytes. bytes ++ rear) mid_is ∙ append_assoc old front rear),
)

-- both measures of the spans of a kind
pub kind_put : (plain : Bool) (core : ℕ) (kind : Kind) (spans : List Span) (old mid new : List ℕ) →
    Puts (IsSpansText plain core kind Turns spans) old mid → Puts (IsSpansText plain core kind Time spans) mid new → Puts (IsKindText plain core kind spans) old new
kind_put plain core kind spans old mid new (front, one, mid_is) (rear, two, new_is) = (
  front ++ rear,
  record { turns = front; time = rear; in_turns = one; in_time = two; both = refl },
  new_is ∙ (ap (λ bytes. bytes ++ rear) mid_is ∙ append_assoc old front rear),
)

-- of no span nothing is put
pub no_spans : (plain : Bool) (core : ℕ) (kind : Kind) (measure : Measure) (spans : List Span) (page : List ℕ) → IsSummary measure spans None →
    Puts (IsSpansText plain core kind measure spans) page page
no_spans plain core kind measure spans page none = ([], (None, none, refl), sym (append-nil page))

-- the line of a summary, and behind it the histogram
pub spans_put : (plain : Bool) (core : ℕ) (kind : Kind) (measure : Measure) (spans : List Span) (summary : Summary) (old mid new : List ℕ) → IsSummary measure spans (Some summary) →
    mid ≡ old ++ (summary_line core kind measure summary ++ codes "\n") → new ≡ mid ++ histogram_text plain measure spans summary.jobs →
    Puts (IsSpansText plain core kind measure spans) old new
spans_put plain core kind measure spans summary old mid new some one two =
    let line = summary_line core kind measure summary in
    let histogram = histogram_text plain measure spans summary.jobs in (
      line ++ codes "\n" ++ histogram,
      (Some summary, some, refl),
      two ∙ (ap (λ bytes. bytes ++ histogram) one ∙ append_assoc old (line ++ codes "\n") histogram),
    )

-- the line of a range, by the binary digits
pub range_put : (plain : Bool) (measure : Measure) (spans : List Span) (jobs digits from to count : ℕ) (old new : List ℕ) → from ≡ least_with digits → to ≡ greatest_with digits →
    count ≡ count_within measure from to spans → new ≡ old ++ range_text plain from to count jobs → new ≡ old ++ digits_text plain measure spans jobs digits
range_put plain measure spans jobs digits from to count old new from_is to_is count_is put =
    put ∙ (λ i. old ++ range_text plain (from_is i) (to_is i) ((count_is ∙ (λ j. count_within measure (from_is j) (to_is j) spans)) i) jobs)
