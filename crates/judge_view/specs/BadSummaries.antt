-- Numbers that are told wrongly of two or three spans, and walks that know something else than the notes.
use Rattle.std.specs.Prelude.{◌≡◌, ℕ, List, [], ◌∷◌, Some, None, get_or}
use Rattle.std.proofs.Common.{ap, arith}
use Rattle.judge_view.specs.Percentiles.{IsPercentile, IsFirstGreatest}
use Rattle.judge_view.specs.Rows.{span_row}
use Rattle.judge_view.specs.Summaries.{IsFirstLongest, IsSummary, Summarizes}
use Rattle.base_words.specs.declared.names.JobId.{JobId}
use Rattle.base_words.specs.declared.note.Note.{Note}
use Rattle.base_words.specs.declared.note.Note.TheVariants.{Took}
use Rattle.base_words.specs.Filters.{name_started}
use Rattle.note_facts.specs.Names.{Entries, known}
use Rattle.judge_view.specs.Spans.{KnowsSpans}
use Rattle.judge_view.specs.Waits.{AreSpans, KnowsWalk, StopsWithin, name_taken}
use Rattle.judge_view.specs.Watches.{KnowsShares, KnowsWatches, no_watch}
use Rattle.judge_view.specs.declared.clocks.CoreTime.{CoreTime}
use Rattle.judge_view.specs.declared.shares.CoreShares.{CoreShares}
use Rattle.judge_view.specs.declared.spans.Span.{Span}
use Rattle.judge_view.specs.declared.spans.Spans.{Spans}
use Rattle.judge_view.specs.declared.waits.JobSpans.{JobSpans}
use Rattle.judge_view.specs.declared.waits.JobWalk.{JobWalk}
use Rattle.judge_view.specs.declared.watches.Watch.{Watch}
use Rattle.judge_view.specs.declared.watches.Watches.{Watches}
use Rattle.judge_view.specs.declared.summaries.Measure.TheVariants.{Turns, Time}
use Rattle.judge_view.specs.declared.summaries.Summary.{Summary}

-- two numbers, one span, and two spans of which the first is longer in turns and the second in time
abbrev pub two : List ℕ
two = 1 ∷ 2 ∷ []

abbrev pub one_span : List Span
one_span = span_row 1 3 10 ∷ []

abbrev pub two_spans : List Span
two_spans = span_row 1 3 10 ∷ span_row 2 1 90 ∷ []

-- none of them is right
pub record SummariesAreRefused : Type 0 where
  -- the number behind the half
  pub one_too_far : IsPercentile 500 2 two → ⊥
  -- a number that too few don't pass
  pub too_small : IsPercentile 900 1 two → ⊥
  -- a number between two of them, which is none of them
  pub between : IsPercentile 500 3 (2 ∷ 4 ∷ []) → ⊥
  -- the second of two equal ones
  pub second : IsFirstGreatest 1 (5 ∷ 5 ∷ []) → ⊥
  -- a lesser one
  pub lesser : IsFirstGreatest 0 (4 ∷ 5 ∷ []) → ⊥
  -- a place past the end
  pub past : IsFirstGreatest 2 two → ⊥
  -- nothing is told of one span
  pub silent : IsSummary Turns one_span None → ⊥
  -- something is told of no span
  pub invented : (summary : Summary) → IsSummary Turns [] (Some summary) → ⊥
  -- the longest in time is told as the longest in turns
  pub other_measure : IsFirstLongest Turns (span_row 2 1 90) two_spans → ⊥
  -- the count of other spans
  pub miscounted : (summary : Summary) → summary.jobs ≡ 1 → Summarizes Time summary two_spans → ⊥

-- a job that entered isn't known to wait
pub wait_unknown : (spans : Spans) → spans.began ≡ [] → KnowsSpans {T = ℕ} name_taken name_started spans (Took (record { from = 1; to = 0; number = 1 }) 0 ∷ []) → ⊥
wait_unknown spans none knows =
    let job : JobId = record { from = 1; to = 0; number = 1 } in
    let nothing : known spans.began job ≡ None = ap (λ (began : Entries CoreTime). known began job) none in
    let began = knows.began job in cc

-- before the first note a turn was made, a job waited, and a queue is due something
pub turn_of_no_note : (walk : JobWalk) → walk.clock ≡ record { turns = 1; time = 0 } → KnowsWalk walk [] → ⊥
turn_of_no_note walk ran knows = absurd (omega (arith, ap (λ (clock : CoreTime). clock.turns) ran, ap (λ (clock : CoreTime). clock.turns) knows.clock))

pub wait_of_no_note : (told : JobSpans) (span : Span) → told.waits.items ≡ span ∷ [] → AreSpans told [] → ⊥
wait_of_no_note told span waits are = let none = are.waits in cc

pub due_for_no_note : (watches : Watches) → get_or watches.each 0 no_watch ≡ record { due = 1; most_waiting = 0 } → KnowsWatches {T = ℕ} watches [] → ⊥
due_for_no_note watches due knows = absurd (omega (arith, ap (λ (watch : Watch). watch.due) due, (knows.each 0 (omega arith)).due))

pub shares_of_no_note : (shares : CoreShares) → shares.clock ≡ record { turns = 1; time = 0 } → KnowsShares {T = ℕ} 1 shares [] → ⊥
shares_of_no_note shares ran knows = absurd (omega (arith, ap (λ (clock : CoreTime). clock.turns) ran, ap (λ (clock : CoreTime). clock.turns) knows.clock))

-- a note was refused, and the clock ran on
pub clock_of_a_refusal : (old new : JobWalk) (note : Note ℕ) → old.clock ≡ record { turns = 1; time = 0 } → new.clock ≡ record { turns = 2; time = 0 } → StopsWithin old new note → ⊥
clock_of_a_refusal old new note was is stops =
    let turns = λ (clock : CoreTime). clock.turns in absurd (omega (arith, ap turns was, ap turns is, ap turns stops.0))
