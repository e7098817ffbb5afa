-- How long the jobs of a core waited, and how long they ran.
use Rattle.std.specs.Prelude.{◌≡◌, ◌⊎◌, ℕ, Option, Some, None, List}
use Rattle.base_words.specs.declared.names.JobId.{JobId}
use Rattle.base_words.specs.declared.note.Note.{Note}
use Rattle.base_words.specs.declared.note.Note.TheVariants.{Took}
use Rattle.base_words.specs.Filters.{name_started, name_finished}
use Rattle.base_words.specs.Journal.{Journal}
use Rattle.judge_view.specs.Clocks.{clock_after, clock_of}
use Rattle.judge_view.specs.Spans.{AreSameSpans, GoesOn, KnowsSpans, spans}
use Rattle.judge_view.specs.declared.spans.Span.{Span}
use Rattle.judge_view.specs.declared.waits.JobSpans.{JobSpans}
use Rattle.judge_view.specs.declared.waits.JobWalk.{JobWalk}

-- the job that a note says entered a queue
abbrev pub name_taken : {T : Type 0} → Note T → Option JobId
name_taken (Took name queue) = Some name
name_taken _ = None

-- a job waits from where it enters a queue until its first poll begins
abbrev pub waits : {T : Type 0} → Journal T → List Span
waits = spans name_taken name_started

-- a job runs from where its first poll begins until it is done
abbrev pub runs : {T : Type 0} → Journal T → List Span
runs = spans name_started name_finished

-- the clock, and the spans of both kinds, are those of these notes
pub record KnowsWalk (walk : JobWalk) (journal : Journal ℕ) : Type 0 where
  pub clock : walk.clock ≡ clock_of journal
  pub waits : KnowsSpans name_taken name_started walk.waits journal
  pub runs : KnowsSpans name_started name_finished walk.runs journal

-- the spans of both kinds are those of these notes
pub record AreSpans (told : JobSpans) (journal : Journal ℕ) : Type 0 where
  pub waits : told.waits.items ≡ waits journal
  pub runs : told.runs.items ≡ runs journal

-- a note was read in part, or not at all: the clock and the runs are the same, and so are the waits, if they don't know the note
abbrev pub StopsWithin : JobWalk → JobWalk → Note ℕ → Type 0
StopsWithin old new note =
    (new.clock ≡ old.clock) × AreSameSpans old.runs new.runs ×
    (AreSameSpans old.waits new.waits ⊎ GoesOn old.waits new.waits (clock_after note old.clock) (name_taken note) (name_started note))
