-- Whether a queue has work.
use Rattle.std.specs.Prelude.{ℕ, ◌+◌, Bool, nat_lt, if◌then◌else◌, Option, Some, None, [], ◌∷◌, length}
use Rattle.base_words.specs.declared.note.Note.{Note}
use Rattle.base_words.specs.declared.note.Note.TheVariants.{Took, Done, Returned}
pub use Rattle.base_words.specs.Entries.{queue_entered, queue_of}
use Rattle.base_words.specs.Names.{is_number}
use Rattle.base_words.specs.Journal.{Journal}
use Rattle.base_words.specs.Parks.{parked}

abbrev pub number_if : Bool → ℕ
number_if test = if test then 1 else 0

-- the queue that a note says a job entered
abbrev pub queue_joined : {T : Type 0} → Note T → Option ℕ
queue_joined (Took name queue) = Some queue
queue_joined _ = None

-- the queue that a note says a job left for good
abbrev pub queue_left : {T : Type 0} → Note T → Journal T → Option ℕ
queue_left (Done name time value) before = queue_of name before
queue_left (Returned name reason) before = queue_of name before
queue_left _ before = None

-- how many jobs entered the queue
abbrev pub entered_count : {T : Type 0} → ℕ → Journal T → ℕ
entered_count queue [] = 0
entered_count queue (note ∷ before) = entered_count queue before + number_if (is_number queue (queue_joined note))

-- how many jobs of the queue are done or handed back
abbrev pub left_count : {T : Type 0} → ℕ → Journal T → ℕ
left_count queue [] = 0
left_count queue (note ∷ before) = left_count queue before + number_if (is_number queue (queue_left note before))

-- a queue has work if more jobs entered it than left it and are parked
abbrev pub has_work : {T : Type 0} → ℕ → Journal T → Bool
has_work queue journal = nat_lt (left_count queue journal + length (parked queue journal)) (entered_count queue journal)
