-- The journal of a core in which a queue was made.
use Rattle.std.proofs.Common.{ℕ, [], ◌∷◌, ap, Result, Ok, Err}
use Rattle.base_words.specs.declared.note.Note.TheVariants.{Created}
use Rattle.core_queues.specs.declared.queues.CreateError.{CreateError}
use Rattle.core_queues.specs.declared.queues.CreateError.TheVariants.{Memory, TooMany}
use Rattle.note_journal.specs.Journals.{JournalView}
use Rattle.actor_core.specs.Recorded.{RecordedView}
use Rattle.actor_core.specs.Steps.{CreatesQueue}
use Rattle.actor_seat.specs.Linked.{Grows}
use Rattle.host_core.specs.declared.job.HostJob.{HostJob}

-- its notes stand behind those that it had
pub created_grows : (weight : ℕ) (old new : RecordedView HostJob ℕ) (made : Result ℕ CreateError) → CreatesQueue weight old made new → Grows old.journal.notes new.journal.notes
created_grows weight old new (Ok queue) does = (Created queue weight ∷ [], ap (λ (journal : JournalView ℕ). journal.notes) does.2)
created_grows weight old new (Err TooMany) does = ([], ap (λ (view : RecordedView HostJob ℕ). view.journal.notes) does.1)
created_grows weight old new (Err Memory) does = ([], ap (λ (view : RecordedView HostJob ℕ). view.journal.notes) does.1)
