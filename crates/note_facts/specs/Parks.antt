-- The queue in which each job of a journal is parked, told so that one note changes little.
use Rattle.std.specs.Prelude.{◌≡◌, ℕ, ◌≤◌, Bool, false, ◌==◌, if◌then◌else◌, Option, Some, None, unwrap_or, [], ◌∷◌, length}
use Rattle.base_words.specs.declared.names.JobId.{JobId}
use Rattle.base_words.specs.declared.note.Note.{Note}
use Rattle.base_words.specs.declared.note.Note.TheVariants.{Woken, Park}
use Rattle.base_words.specs.Entries.{queue_of}
use Rattle.base_words.specs.Journal.{Journal}
use Rattle.base_words.specs.Names.{is_number}
use Rattle.base_words.specs.Parks.{ends_parks}
use Rattle.note_facts.specs.Endings.{endings_of}
use Rattle.note_facts.specs.Names.{Entries, known, value_under}
use Rattle.note_facts.specs.declared.endings.Endings.{Endings}
use Rattle.note_facts.specs.declared.parks.Nap.{Nap}
use Rattle.note_facts.specs.declared.parks.Parks.{Parks}

-- a job, with the queue in which a note parks it, if any: a wake ends its park
abbrev pub park_told : {T : Type 0} → Note T → Journal T → Option (JobId × Option ℕ)
park_told (Park name time) before = Some (name, queue_of name before)
park_told (Woken name) before = Some (name, None)
park_told _ before = None

-- a job stays parked in its queue unless a note ends all parks there
abbrev pub stays_parked : {T : Type 0} → Note T → Option ℕ → Option ℕ
stays_parked note None = None
stays_parked note (Some queue) = if ends_parks queue note then None else Some queue

-- the queue in which a job is parked, if it is parked
abbrev pub park_of : {T : Type 0} → JobId → Journal T → Option ℕ
park_of name [] = None
park_of name (note ∷ before) = unwrap_or (value_under name (park_told note before)) (stays_parked note (park_of name before))

-- whether it is the same queue, if there are two
abbrev pub is_same_queue : Option ℕ → Option ℕ → Bool
is_same_queue None other = false
is_same_queue (Some queue) other = is_number queue other

-- the queue of each job is known
abbrev pub KnowsQueues : {T : Type 0} → Entries ℕ → Journal T → Type 0
KnowsQueues queues journal = (name : JobId) → known queues name ≡ queue_of name journal

-- of a job that isn't parked
abbrev pub awake : Nap
awake = record { queue = None; endings = 0 }

-- what is known of a job
abbrev pub nap_of : Parks → JobId → Nap
nap_of parks name = unwrap_or (known parks.naps name) awake

-- what is known of a job that a note parks in a queue, or outside all of them
abbrev pub nap_in : Endings → Option ℕ → Nap
nap_in endings None = awake
nap_in endings (Some queue) = record { queue = Some queue; endings = endings_of endings queue }

-- a job, with what is known of it once a note parks or wakes it
abbrev pub nap_told : {T : Type 0} → Parks → Note T → Option (JobId × Nap)
nap_told parks (Park name time) = Some (name, nap_in parks.endings (known parks.queues name))
nap_told parks (Woken name) = Some (name, awake)
nap_told parks _ = None

-- a job is parked in a queue until the parks there are ended once more
abbrev pub resting_in : Endings → Option ℕ → ℕ → Option ℕ
resting_in endings None count = None
resting_in endings (Some queue) count = if endings_of endings queue == count then Some queue else None

abbrev pub resting : Endings → Nap → Option ℕ
resting endings nap = resting_in endings nap.queue nap.endings

-- no park knows of an ending to come
abbrev pub IsPast : Endings → Nap → Type 0
IsPast endings nap = (queue : ℕ) → nap.queue ≡ Some queue → nap.endings ≤ endings_of endings queue

-- queues and parks are known as these notes tell them
pub record KnowsParks {T : Type 0} (parks : Parks) (journal : Journal T) : Type 0 where
  pub queues : KnowsQueues parks.queues journal
  pub naps : (name : JobId) → resting parks.endings (nap_of parks name) ≡ park_of name journal
  pub past : (name : JobId) → IsPast parks.endings (nap_of parks name)
  pub few : (queue : ℕ) → endings_of parks.endings queue ≤ length journal
