-- Shares, the floor, and the virtual runtime of a queue.
use Rattle.std.specs.Prelude.{ℕ, ◌+◌, max, Bool, not, ◌==◌, ◌&&◌, ◌||◌, nat_lt, if◌then◌else◌, Option, Some, None, unwrap_or, [], ◌∷◌, length}
use Rattle.base_words.specs.Charge.{charge}
use Rattle.base_words.specs.declared.names.JobId.{JobId}
use Rattle.base_words.specs.declared.note.Note.{Note}
use Rattle.base_words.specs.declared.note.Note.TheVariants.{Created, SharesSet, Pick}
use Rattle.base_words.specs.Names.{is_number}
use Rattle.base_words.specs.Bursts.{has_bursts, turn_told}
use Rattle.base_words.specs.Journal.{Journal, or_else}
use Rattle.base_words.specs.Parks.{parked, unparked}
use Rattle.base_words.specs.Polls.{poll_settled}
use Rattle.base_words.specs.Work.{queue_of, queue_joined, has_work}

-- the shares that a note gives the queue
abbrev pub shares_told : {T : Type 0} → ℕ → Note T → Option ℕ
shares_told queue (Created other weight) = if queue == other then Some weight else None
shares_told queue (SharesSet other weight) = if queue == other then Some weight else None
shares_told queue _ = None

-- a queue has the shares that it was last given, else 1000, as queue 0
abbrev pub shares : {T : Type 0} → ℕ → Journal T → ℕ
shares queue [] = 1000
shares queue (note ∷ before) = unwrap_or (shares_told queue note) (shares queue before)

-- the virtual runtime at which a note picks a queue
abbrev pub runtime_picked : {T : Type 0} → Note T → ℕ
runtime_picked (Pick queue runtime) = runtime
runtime_picked _ = 0

-- the floor is the greatest virtual runtime of a pick
abbrev pub floor : {T : Type 0} → Journal T → ℕ
floor [] = 0
floor (note ∷ before) = max (floor before) (runtime_picked note)

-- a turn that a note of its own ends is charged to its queue, with its time
abbrev pub turn_charged : ℕ → Option (ℕ × ℕ) → Option (Option ℕ × ℕ)
turn_charged burst None = None
turn_charged burst (Some turn) = if has_bursts burst then Some (Some turn.0, turn.1) else None

-- a settled poll that ends its turn is charged to the queue of its job, with its time
abbrev pub poll_charged : {T : Type 0} → ℕ → Option (JobId × ℕ) → Journal T → Option (Option ℕ × ℕ)
poll_charged burst None journal = None
poll_charged burst (Some poll) journal = if has_bursts burst then None else Some (queue_of poll.0 journal, poll.1)

-- what is charged to a queue costs it that time under the shares of this moment
abbrev pub charge_of : {T : Type 0} → ℕ → Option (Option ℕ × ℕ) → Journal T → ℕ
charge_of queue None journal = 0
charge_of queue (Some charged) journal = if is_number queue charged.0 then charge charged.1 (shares queue journal) else 0

-- a note costs a queue the turn that it ends
abbrev pub charge_noted : {T : Type 0} → ℕ → ℕ → Note T → Journal T → ℕ
charge_noted burst queue note before =
    charge_of queue (or_else (turn_charged burst (turn_told note)) (poll_charged burst (poll_settled note) before)) before

-- a note brings work to a queue if a job enters it, or if the park of a job of it ends
abbrev pub brings_work : {T : Type 0} → ℕ → Note T → Journal T → Bool
brings_work queue note before = is_number queue (queue_joined note) || nat_lt 0 (length (unparked queue note (parked queue before)))

-- work that comes to a queue without work places it at the floor
abbrev pub place_noted : {T : Type 0} → ℕ → Note T → Journal T → ℕ
place_noted queue note before =
    if brings_work queue note before && not (has_work queue before) then floor before else 0

-- a note may raise the virtual runtime to where it places the queue, or add what it costs the queue
abbrev pub virtual_runtime : {T : Type 0} → ℕ → ℕ → Journal T → ℕ
virtual_runtime burst queue [] = 0
virtual_runtime burst queue (note ∷ before) =
    max (virtual_runtime burst queue before) (place_noted queue note before) + charge_noted burst queue note before
