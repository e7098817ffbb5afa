-- Sums over the notes of a journal.
use Rattle.std.specs.Prelude.{ℕ, ◌+◌, ◌-◌, if◌then◌else◌, Option, Some, None, [], ◌∷◌}
use Rattle.base_words.specs.Charge.{clamped}
use Rattle.base_words.specs.declared.names.JobId.{JobId}
use Rattle.base_words.specs.declared.note.Note.{Note}
use Rattle.base_words.specs.declared.note.Note.TheVariants.{Returned}
use Rattle.base_words.specs.Bursts.{turn_told}
use Rattle.base_words.specs.Filters.{name_finished}
use Rattle.base_words.specs.HandBacks.{jobs_inside}
use Rattle.base_words.specs.Journal.{Journal, or_else}
use Rattle.base_words.specs.Lines.{name_polled, name_settled}
use Rattle.base_words.specs.Names.{is_number}
use Rattle.base_words.specs.Polls.{poll_settled}
use Rattle.base_words.specs.Runtimes.{charge_noted, poll_charged, turn_charged}
use Rattle.base_words.specs.Work.{queue_of, number_if}

-- the queue of a job, if there is a job
abbrev pub queue_of_told : {T : Type 0} → Option JobId → Journal T → Option ℕ
queue_of_told None before = None
queue_of_told (Some name) before = queue_of name before

-- how many notes tell a job of this queue
abbrev pub count_of : {T : Type 0} → (Note T → Option JobId) → ℕ → Journal T → ℕ
count_of says queue [] = 0
count_of says queue (note ∷ before) = count_of says queue before + number_if (is_number queue (queue_of_told (says note) before))

-- the job that a pick hands back
abbrev pub name_returned : {T : Type 0} → Note T → Option JobId
name_returned (Returned name reason) = Some name
name_returned _ = None

-- how many polls of jobs of the queue were begun, and how many of them are settled
abbrev pub begun_count : {T : Type 0} → ℕ → Journal T → ℕ
begun_count = count_of name_polled

abbrev pub settled_count : {T : Type 0} → ℕ → Journal T → ℕ
settled_count = count_of name_settled

-- how many jobs of the queue are done, and how many a pick handed back
abbrev pub finished_count : {T : Type 0} → ℕ → Journal T → ℕ
finished_count = count_of name_finished

abbrev pub returned_count : {T : Type 0} → ℕ → Journal T → ℕ
returned_count = count_of name_returned

-- a time that is charged to the queue, as it counts for the charge
abbrev pub time_of : ℕ → Option (Option ℕ × ℕ) → ℕ
time_of queue None = 0
time_of queue (Some charged) = if is_number queue charged.0 then clamped charged.1 else 0

-- the same of the turn that a note ends
abbrev pub time_noted : {T : Type 0} → ℕ → ℕ → Note T → Journal T → ℕ
time_noted burst queue note before = time_of queue (or_else (turn_charged burst (turn_told note)) (poll_charged burst (poll_settled note) before))

-- the time of all turns of the queue
abbrev pub run_time : {T : Type 0} → ℕ → ℕ → Journal T → ℕ
run_time burst queue [] = 0
run_time burst queue (note ∷ before) = run_time burst queue before + time_noted burst queue note before

-- all that the queue was charged
abbrev pub charges : {T : Type 0} → ℕ → ℕ → Journal T → ℕ
charges burst queue [] = 0
charges burst queue (note ∷ before) = charges burst queue before + charge_noted burst queue note before

-- the jobs inside a queue that aren't being polled, parked ones counted too
abbrev pub waiting_count : {T : Type 0} → ℕ → Journal T → ℕ
waiting_count queue journal = jobs_inside queue journal - (begun_count queue journal - settled_count queue journal)
