-- What is told of an outcome that was collected.
use Rattle.std.specs.Prelude.{ℕ, Option, Some, None}
use Rattle.base_words.specs.declared.names.JobId.{JobId}
use Rattle.base_words.specs.declared.note.OutcomeNote.{OutcomeNote}
use Rattle.base_words.specs.declared.order.Outcome.{Outcome}
use Rattle.base_words.specs.Outcomes.{outcome_note}

-- its name and what became of the submission, if there is one
abbrev pub told_of : {J T : Type 0} → ℕ → ℕ → Option (ℕ × Outcome J T) → Option (JobId × OutcomeNote T)
told_of actor core None = None
told_of actor core (Some found) = Some (record { from = actor; to = core; number = found.0 }, outcome_note found.1)
