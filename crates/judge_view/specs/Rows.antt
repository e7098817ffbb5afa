-- Worked rows: two jobs of two queues with equal shares, with all numbers on paper.
use Rattle.std.specs.Prelude.{◌≡◌, ℕ, List, [], ◌∷◌}
use Rattle.base_words.specs.declared.names.JobId.{JobId}
use Rattle.base_words.specs.declared.note.Note.TheVariants.{Took, Pick, Start, Resume, Yield, Park, Done}
use Rattle.base_words.specs.Journal.{Journal}
use Rattle.judge_view.specs.Polls.{polls}
use Rattle.judge_view.specs.Shares.{due, most_waiting}
use Rattle.judge_view.specs.Stories.{chapters}
use Rattle.judge_view.specs.Waits.{waits, runs}
use Rattle.judge_view.specs.declared.clocks.CoreTime.{CoreTime}
use Rattle.judge_view.specs.declared.ends.End.{End}
use Rattle.judge_view.specs.declared.ends.End.TheVariants as ends
use Rattle.judge_view.specs.declared.polls.Poll.{Poll}
use Rattle.judge_view.specs.declared.spans.Span.{Span}
use Rattle.judge_view.specs.declared.stories.Chapter.{Chapter}
use Rattle.judge_view.specs.declared.stories.Part.TheVariants.{Serving}

-- two jobs of one sender
abbrev pub job : ℕ → JobId
job number = record { from = 0; to = 0; number = number }

-- both enter, the first in queue 0 and the second in queue 1; the first is polled twice and the second once
abbrev pub entered : Journal ℕ
entered = Took (job 2) 1 ∷ Took (job 1) 0 ∷ []

abbrev pub first_poll : Journal ℕ
first_poll = Yield (job 1) 30 ∷ Start (job 1) ∷ Pick 0 0 ∷ entered

abbrev pub second_poll : Journal ℕ
second_poll = Done (job 2) 20 5 ∷ Start (job 2) ∷ Pick 1 0 ∷ first_poll

abbrev pub row : Journal ℕ
row = Done (job 1) 10 7 ∷ Resume (job 1) ∷ Pick 0 30 ∷ second_poll

abbrev pub span_row : ℕ → ℕ → ℕ → Span
span_row number turns time = record { name = job number; turns = turns; time = time }

abbrev pub clock_row : ℕ → ℕ → CoreTime
clock_row turns time = record { turns = turns; time = time }

-- in the second row the first job is parked after its poll
abbrev pub parked_row : Journal ℕ
parked_row = Yield (job 2) 20 ∷ Start (job 2) ∷ Pick 1 0 ∷ Park (job 1) 30 ∷ Start (job 1) ∷ Pick 0 0 ∷ entered

abbrev pub poll_row : ℕ → ℕ → ℕ → ℕ → ℕ → ℕ → End → Poll
poll_row turn queue runtime number step time end =
    record { turn = turn; picked = record { queue = queue; virtual_runtime = runtime }; name = job number; step = step; time = time; end = end }

-- the notes of the second job, with their places and clocks
abbrev pub second_story : List Chapter
second_story =
    record { place = 2; from = clock_row 0 0; clock = clock_row 0 0; note = Took (job 2) 1 }
    ∷ record { place = 7; from = clock_row 0 0; clock = clock_row 2 30; note = Start (job 2) }
    ∷ record { place = 8; from = clock_row 2 30; clock = clock_row 2 50; note = Done (job 2) 20 5 } ∷ []

-- what the definitions say of the row
pub record RowsHold : Type 0 where
  pub waited : waits row ≡ span_row 1 1 0 ∷ span_row 2 2 30 ∷ []
  pub ran : runs row ≡ span_row 2 0 20 ∷ span_row 1 2 60 ∷ []
  -- half of 30 and of 20, and all of the last 10
  pub first_due : due 0 row ≡ 35000
  -- half of 30 and of 20; from then on it has no work
  pub second_due : due 1 row ≡ 25000
  pub third_due : due 2 row ≡ 0
  pub most : most_waiting 0 row ≡ 1
  pub nobody : most_waiting 2 row ≡ 0
  pub polled : polls row ≡ poll_row 1 0 0 1 1 30 ends.Yield ∷ poll_row 2 1 0 2 1 20 ends.Done ∷ poll_row 3 0 30 1 2 10 ends.Done ∷ []
  pub told : chapters Serving (job 2) row ≡ second_story
  -- half of 30; from then on it has no work, since its job is parked
  pub parked_due : due 0 parked_row ≡ 15000
  -- half of 30, and all of 20
  pub awake_due : due 1 parked_row ≡ 35000
  pub parked_waits : most_waiting 0 parked_row ≡ 1
  pub parks : polls parked_row ≡ poll_row 1 0 0 1 1 30 ends.Park ∷ poll_row 2 1 0 2 1 20 ends.Yield ∷ []
