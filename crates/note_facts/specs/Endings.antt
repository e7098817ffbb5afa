-- How often all parks of a queue were ended.
use Rattle.std.specs.Prelude.{◌≡◌, ℕ, ◌+◌, min, Bool, false, if◌then◌else◌, Option, Some, None, get_or}
use Rattle.base_words.specs.declared.note.Note.{Note}
use Rattle.base_words.specs.declared.note.Note.TheVariants.{QueueClosed, CoreClosed}
use Rattle.base_words.specs.Names.{is_number}
use Rattle.base_words.specs.Parks.{is_return}
use Rattle.base_words.specs.Work.{number_if}
use Rattle.note_facts.specs.Limits.{greatest_count}
use Rattle.note_facts.specs.declared.endings.Endings.{Endings}

-- the queue that a note closes in mode `Return`
abbrev pub queue_ended : {T : Type 0} → Note T → Option ℕ
queue_ended (QueueClosed queue mode) = if is_return mode then Some queue else None
queue_ended _ = None

-- whether a note closes the core in mode `Return`
abbrev pub core_ended : {T : Type 0} → Note T → Bool
core_ended (CoreClosed mode) = is_return mode
core_ended _ = false

-- how often a queue, or the core, was closed in mode `Return`
abbrev pub endings_of : Endings → ℕ → ℕ
endings_of endings queue = min (get_or endings.queues queue 0 + endings.core) greatest_count

-- a note may be one more for a queue
abbrev pub CountsEndings : {T : Type 0} → Endings → Endings → Note T → Type 0
CountsEndings old new note =
    (queue : ℕ) → endings_of new queue ≡
    min (endings_of old queue + number_if (is_number queue (queue_ended note)) + number_if (core_ended note)) greatest_count
