-- The queue of a job.
use Rattle.std.specs.Prelude.{ℕ, if◌then◌else◌, Option, Some, None, [], ◌∷◌}
use Rattle.base_words.specs.declared.names.JobId.{JobId}
use Rattle.base_words.specs.declared.note.Note.{Note}
use Rattle.base_words.specs.declared.note.Note.TheVariants.{Took}
use Rattle.base_words.specs.Names.{same_name}
use Rattle.base_words.specs.Journal.{Journal, or_else}

-- the queue that a note says this job entered
abbrev pub queue_entered : {T : Type 0} → JobId → Note T → Option ℕ
queue_entered name (Took other queue) = if same_name name other then Some queue else None
queue_entered name _ = None

-- the queue of a job is the one that it entered
abbrev pub queue_of : {T : Type 0} → JobId → Journal T → Option ℕ
queue_of name [] = None
queue_of name (note ∷ before) = or_else (queue_entered name note) (queue_of name before)
