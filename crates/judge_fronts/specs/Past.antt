-- What a core's own notes tell of a job.
use Rattle.std.specs.Prelude.{Option, Some, None}
use Rattle.base_words.specs.declared.names.JobId.{JobId}
use Rattle.base_words.specs.declared.note.Note.{Note}
use Rattle.base_words.specs.declared.note.Note.TheVariants.{Took}
use Rattle.base_words.specs.Filters.{name_started, name_ended}
use Rattle.judge_fronts.specs.declared.past.Step.{Step}
use Rattle.judge_fronts.specs.declared.past.Step.TheVariants.{Entered, Started, Ended}

-- the job that a note says entered a queue
abbrev pub name_entered : {T : Type 0} → Note T → Option JobId
name_entered (Took name queue) = Some name
name_entered _ = None

-- the job of which a note tells this step
abbrev pub name_at : {T : Type 0} → Step → Note T → Option JobId
name_at Entered = name_entered
name_at Started = name_started
name_at Ended = name_ended
