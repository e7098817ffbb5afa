-- What one note tells under a name.
use Rattle.std.specs.Prelude.{ℕ, Option, Some, None}
use Rattle.base_words.specs.declared.names.JobId.{JobId}
use Rattle.base_words.specs.declared.note.Note.{Note}
use Rattle.base_words.specs.declared.note.Note.TheVariants.{Sent, Took, Back, Answered, Done, Returned, Collected}
use Rattle.base_words.specs.declared.note.OutcomeNote.{OutcomeNote}
use Rattle.base_words.specs.declared.note.OutcomeNote.TheVariants as outcome
use Rattle.base_words.specs.declared.order.Order.{Order}

-- a job, with the queue that it enters
abbrev pub queue_told : {T : Type 0} → Note T → Option (JobId × ℕ)
queue_told (Took name queue) = Some (name, queue)
queue_told _ = None

-- a submission, with its order
abbrev pub order_told : {T : Type 0} → Note T → Option (JobId × Order (Unit {0}))
order_told (Sent name order) = Some (name, order)
order_told _ = None

-- a submission, with the outcome that it is given
abbrev pub outcome_told : {T : Type 0} → Note T → Option (JobId × OutcomeNote T)
outcome_told (Done name time value) = Some (name, outcome.Finished value)
outcome_told (Back name reason) = Some (name, outcome.Returned reason)
outcome_told (Returned name reason) = Some (name, outcome.Returned reason)
outcome_told (Answered name answer) = Some (name, outcome.Answered answer)
outcome_told _ = None

-- a submission, with the outcome that is collected
abbrev pub collected_told : {T : Type 0} → Note T → Option (JobId × OutcomeNote T)
collected_told (Collected name what) = Some (name, what)
collected_told _ = None
