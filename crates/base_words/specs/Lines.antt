-- The jobs that are out, and the line of a queue.
use Rattle.std.specs.Prelude.{ℕ, ◌==◌, if◌then◌else◌, Option, Some, None, List, [], ◌∷◌}
use Rattle.base_words.specs.declared.names.JobId.{JobId}
use Rattle.base_words.specs.declared.note.Note.{Note}
use Rattle.base_words.specs.declared.note.Note.TheVariants.{Took, Start, Resume, Yield, Stayed, Done, Returned}
use Rattle.base_words.specs.Names.{is_number}
pub use Rattle.base_words.specs.Names.{names_but, names_but_for}
use Rattle.base_words.specs.Journal.{Journal, or_else, with_last, with_all}
use Rattle.base_words.specs.Parks.{parked, unparked}
pub use Rattle.base_words.specs.Polls.{name_polled, name_settled}
use Rattle.base_words.specs.Work.{queue_of}

-- a job is out from its poll until the poll is settled
abbrev pub jobs_out : {T : Type 0} → Journal T → List JobId
jobs_out [] = []
jobs_out (note ∷ before) =
    with_last (names_but_for (or_else (name_settled note) (name_polled note)) (jobs_out before)) (name_polled note)

-- the job that a note puts at the tail of this queue
abbrev pub name_joining : {T : Type 0} → ℕ → Note T → Journal T → Option JobId
name_joining queue (Took name other) before = if queue == other then Some name else None
name_joining queue (Yield name time) before = if is_number queue (queue_of name before) then Some name else None
name_joining queue (Stayed name time) before = if is_number queue (queue_of name before) then Some name else None
name_joining queue _ before = None

-- the job that a note takes out of the line of its queue
abbrev pub name_leaving : {T : Type 0} → Note T → Option JobId
name_leaving (Start name) = Some name
name_leaving (Resume name) = Some name
name_leaving (Returned name reason) = Some name
name_leaving (Done name time value) = Some name
name_leaving _ = None

-- the line of a queue: the jobs that wait in it, in the order in which they last came to its tail; a park that ends puts its job there
abbrev pub line : {T : Type 0} → ℕ → Journal T → List JobId
line queue [] = []
line queue (note ∷ before) =
    with_all (with_last (names_but_for (name_leaving note) (line queue before)) (name_joining queue note before))
    (unparked queue note (parked queue before))

-- the queue of the first of these jobs, if there is one
abbrev pub queue_of_first : {T : Type 0} → List JobId → Journal T → Option ℕ
queue_of_first [] journal = None
queue_of_first (name ∷ names) journal = queue_of name journal

-- the queue of the job that is out
abbrev pub queue_out : {T : Type 0} → Journal T → Option ℕ
queue_out journal = queue_of_first (jobs_out journal) journal
