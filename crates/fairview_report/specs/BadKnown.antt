-- Walks that know something else than the notes that they read, each refused by the definition that judges it.
use Rattle.std.specs.Prelude.{◌≡◌, ℕ, List, [], ◌∷◌, Some, None}
use Rattle.std.proofs.Common.{ap, sym, ◌∙◌, arith}
use Rattle.base_words.specs.declared.names.JobId.{JobId}
use Rattle.base_words.specs.declared.note.Note.{Note}
use Rattle.judge_view.specs.declared.clocks.CoreTime.{CoreTime}
use Rattle.judge_view.specs.declared.percentiles.Percentiles.{Percentiles}
use Rattle.judge_view.specs.declared.polls.Poll.{Poll}
use Rattle.judge_view.specs.declared.polls.PollWalk.{PollWalk}
use Rattle.judge_view.specs.declared.spans.Span.{Span}
use Rattle.judge_view.specs.declared.spans.Spans.{Spans}
use Rattle.judge_view.specs.declared.stories.Chapter.{Chapter}
use Rattle.judge_view.specs.declared.stories.Part.{Part}
use Rattle.judge_view.specs.declared.stories.StoryWalk.{StoryWalk}
use Rattle.judge_view.specs.Percentiles.{ArePercentiles}
use Rattle.judge_view.specs.Polls.{KnowsTurns, TellsPoll}
use Rattle.judge_view.specs.Spans.{AreSameSpans, GoesOn}
use Rattle.judge_view.specs.Stories.{IsRead, KnowsStory}
use Rattle.fairview_marks.specs.declared.polls.Polls.{Polls}
use Rattle.fairview_marks.specs.declared.standing.Lead.{Lead}
use Rattle.fairview_marks.specs.declared.standing.Standing.{Standing}
use Rattle.fairview_marks.specs.Bars.{KnowsPolls}
use Rattle.fairview_marks.specs.Leads.{IsGreatestLead, KnowsStanding}
use Rattle.fairview_lag.specs.declared.stretch.Begun.{Begun}
use Rattle.fairview_lag.specs.declared.stretch.Stretch.{Stretch}
use Rattle.fairview_lag.specs.Stretches.{KnowsStretch}
use Rattle.fairview_report.specs.BadViews.{none_some}

-- of no note a clock went on, and a poll is told
module _ (walk : PollWalk) where
  pub turn_of_no_note : walk.clock.turns ≡ 1 → KnowsTurns walk [] → ⊥
  turn_of_no_note turned knows = absurd (omega (arith, turned, ap (λ (clock : CoreTime). clock.turns) knows.clock))

  pub poll_without_pick : (poll : Poll) (note : Note ℕ) → TellsPoll (Some poll) walk note [] → ⊥
  poll_without_pick poll note tells = none_some (sym tells.poll)

-- spans end by a note that ends none
module _ (old new : Spans) (span : Span) (none : old.ended.items ≡ []) (one : new.ended.items ≡ span ∷ []) where
  some_none : new.ended.items ≡ old.ended.items → ⊥
  some_none same = let both : ◌≡◌ {A = List Span} (span ∷ []) [] = sym one ∙ same ∙ none in cc

  pub span_by_nothing : AreSameSpans old new → ⊥
  span_by_nothing same = some_none same.1

  pub span_without_end : (now : CoreTime) → GoesOn old new now None None → ⊥
  span_without_end now goes = some_none goes.ended

-- a story has a place, and a chapter, of no note
module _ (part : Part) (name : JobId) (walk : StoryWalk) where
  pub place_of_no_note : walk.place ≡ 1 → KnowsStory part name walk [] → ⊥
  place_of_no_note place knows = absurd (omega (arith, place, knows.place))

  pub chapter_of_no_note : (chapter : Chapter) → IsRead part name (Some chapter) walk [] → ⊥
  chapter_of_no_note chapter read = none_some (sym read.told)

-- of no numbers percentiles are told, of no note a turn, and of a lead nothing
pub percentiles_of_nothing : (told : Percentiles) → ArePercentiles told [] → ⊥
percentiles_of_nothing told are = absurd (omega (arith, are.p50.least))

pub clock_of_no_note : (polls : Polls) → polls.clock.turns ≡ 1 → KnowsPolls {T = ℕ} polls [] → ⊥
clock_of_no_note polls turned knows = absurd (omega (arith, turned, ap (λ (clock : CoreTime). clock.turns) knows.clock))

pub untold_lead : (lead : Lead) → IsGreatestLead (lead ∷ []) None → ⊥
untold_lead lead told = cc told

-- turns have other polls than they may, and a stretch begins where no queue has work
pub other_turns : (standing : Standing) → standing.burst ≡ 1 → KnowsStanding {T = ℕ} 2 standing [] → ⊥
other_turns standing single knows = absurd (omega (arith, single, knows.same_burst))

pub begins_without_work : (stretch : Stretch) (begins : Begun) → stretch.begun ≡ Some begins → KnowsStretch {T = ℕ} 1 0 1 stretch [] → ⊥
begins_without_work stretch begins here knows = none_some (sym knows.begun ∙ here)
