-- The jobs that are parked, and the wakes that are kept.
use Rattle.std.specs.Prelude.{ℕ, Bool, true, false, ◌==◌, ◌&&◌, if◌then◌else◌, Option, Some, None, unwrap_or, List, [], ◌∷◌}
use Rattle.base_words.specs.declared.names.JobId.{JobId}
use Rattle.base_words.specs.declared.note.Note.{Note}
use Rattle.base_words.specs.declared.note.Note.TheVariants.{QueueClosed, CoreClosed, Woken, Park, Stayed}
use Rattle.base_words.specs.declared.order.Mode.{Mode}
use Rattle.base_words.specs.declared.order.Mode.TheVariants.{Finish, Return}
use Rattle.base_words.specs.Entries.{queue_of}
use Rattle.base_words.specs.Journal.{Journal, with_last}
use Rattle.base_words.specs.Names.{same_name, is_number, among, names_but_for, names_like}

-- the job that a note wakes
abbrev pub name_woken : {T : Type 0} → Note T → Option JobId
name_woken (Woken name) = Some name
name_woken _ = None

-- whether what is inside is handed back in this mode
abbrev pub is_return : Mode → Bool
is_return Finish = false
is_return Return = true

-- whether a note ends all parks of a queue: it closes the queue, or the core, in mode `Return`
abbrev pub ends_parks : {T : Type 0} → ℕ → Note T → Bool
ends_parks queue (QueueClosed other mode) = queue == other && is_return mode
ends_parks queue (CoreClosed mode) = is_return mode
ends_parks queue _ = false

-- of the parked jobs of a queue those that a note leaves parked
abbrev pub still_parked : {T : Type 0} → ℕ → Note T → List JobId → List JobId
still_parked queue note names = if ends_parks queue note then [] else names_but_for (name_woken note) names

-- and those whose park it ends, in their order
abbrev pub unparked : {T : Type 0} → ℕ → Note T → List JobId → List JobId
unparked queue note names = if ends_parks queue note then names else names_like (name_woken note) names

-- the job that a note parks
abbrev pub name_parked : {T : Type 0} → Note T → Option JobId
name_parked (Park name time) = Some name
name_parked _ = None

-- the same, if it is of this queue
abbrev pub name_parking : {T : Type 0} → ℕ → Note T → Journal T → Option JobId
name_parking queue (Park name time) before = if is_number queue (queue_of name before) then Some name else None
name_parking queue _ before = None

-- the parked jobs of a queue, in the order in which they were last parked: no job is parked twice, nor in two queues
abbrev pub parked : {T : Type 0} → ℕ → Journal T → List JobId
parked queue [] = []
parked queue (note ∷ before) =
    with_last (names_but_for (name_parked note) (still_parked queue note (parked queue before))) (name_parking queue note before)

-- whether a job of this queue is parked
abbrev pub is_parked_in : {T : Type 0} → Option ℕ → JobId → Journal T → Bool
is_parked_in None name journal = false
is_parked_in (Some queue) name journal = among name (parked queue journal)

-- whether a job is parked
abbrev pub is_parked : {T : Type 0} → JobId → Journal T → Bool
is_parked name journal = is_parked_in (queue_of name journal) name journal

-- a wake that finds its job parked isn't kept, and any other is
abbrev pub kept_unless : Bool → Option Bool
kept_unless true = None
kept_unless false = Some true

-- what a note tells of a kept wake of this job: a wake may be kept, and a job that stays uses it up
abbrev pub wake_told : {T : Type 0} → JobId → Note T → Journal T → Option Bool
wake_told name (Woken other) before = if same_name name other then kept_unless (is_parked name before) else None
wake_told name (Stayed other time) before = if same_name name other then Some false else None
wake_told name _ before = None

-- whether a wake of a job is kept: several count as one
abbrev pub is_wake_kept : {T : Type 0} → JobId → Journal T → Bool
is_wake_kept name [] = false
is_wake_kept name (note ∷ before) = unwrap_or (wake_told name note before) (is_wake_kept name before)
