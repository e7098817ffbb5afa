-- Facts of the job that is out and of its answer, and the note of a delivery's answer.
use Rattle.std.specs.Prelude.{ℕ, Option, Some, None, Result, Ok, Err}
use Rattle.base_words.specs.declared.names.JobId.{JobId}
use Rattle.base_words.specs.declared.note.Note.{Note}
use Rattle.base_words.specs.declared.note.Note.TheVariants as notes
use Rattle.base_jobs.specs.Meanings.{Meaning}
use Rattle.base_jobs.specs.Ready.{IsReady, HasReadyJob}
use Rattle.core_core.specs.declared.delivery.Delivered.{Delivered}
use Rattle.core_core.specs.declared.delivery.Delivered.TheVariants as delivered
use Rattle.core_core.specs.declared.turn.Turn.{Turn}
use Rattle.core_core.specs.declared.turn.Turn.TheVariants.{Start, Resume, Back, Idle}
use Rattle.core_core.specs.declared.turn.PickError.{PickError}
use Rattle.core_core.specs.declared.turn.Settled.{Settled}
use Rattle.core_core.specs.declared.turn.Settled.TheVariants.{Yielded, Parked, Stayed, Finished}
use Rattle.core_core.specs.State.{JobOut}

module _ {J : Type 0} where
  -- the job of a turn is ready to be polled, also one that is handed back
  abbrev pub IsReadyTurn : {T : Type 0} → Meaning J T → Result (Turn J) PickError → Type 0
  IsReadyTurn meaning (Ok (Start name queue job)) = IsReady meaning job
  IsReadyTurn meaning (Ok (Resume name queue job)) = IsReady meaning job
  IsReadyTurn meaning (Ok (Back name order reason)) = HasReadyJob meaning order
  IsReadyTurn meaning (Ok Idle) = Unit {0}
  IsReadyTurn meaning (Err error) = Unit {0}

  -- the job has the task of the one that is out
  abbrev pub IsTaskOut : {T : Type 0} → Meaning J T → Option (JobOut J) → J → Type 0
  IsTaskOut meaning None job = ⊥
  IsTaskOut meaning (Some out) job = meaning.same out.job job

  -- the answer is one of the job that is out
  abbrev pub AnswersOut : {T : Type 0} → Meaning J T → Option (JobOut J) → Settled T → Type 0
  AnswersOut meaning (Some out) (Finished answer) = meaning.answers out.job answer
  AnswersOut meaning None (Finished answer) = ⊥
  AnswersOut meaning out Yielded = Unit {0}
  AnswersOut meaning out Parked = Unit {0}
  AnswersOut meaning out Stayed = Unit {0}

  -- the note of what became of a submission: a job entered its queue or goes back, a command is answered
  abbrev pub note_told : {T : Type 0} → JobId → ℕ → Delivered J → Note T
  note_told name queue delivered.Took = notes.Took name queue
  note_told name queue (delivered.Back reason order) = notes.Back name reason
  note_told name queue (delivered.Answered answer) = notes.Answered name answer
