-- Turns: which note begins one, which ends it, and how many polls and how much time it has had so far. With a burst of one a turn is a single poll, and its settling ends it; with a greater burst it may have as many polls as the burst says, and a note of its own ends it.
use Rattle.std.specs.Prelude.{ℕ, ◌+◌, ◌-◌, ◌^◌, max, min, nat_lt, if◌then◌else◌, Bool, true, false, Option, Some, None, [], ◌∷◌}
use Rattle.base_words.specs.declared.names.JobId.{JobId}
use Rattle.base_words.specs.declared.note.Note.{Note}
use Rattle.base_words.specs.declared.note.Note.TheVariants.{Pick, Start, Resume, Turned}
use Rattle.base_words.specs.Journal.{Journal, or_else}
use Rattle.base_words.specs.Polls.{poll_settled}

-- whether a note of its own ends a turn
abbrev pub has_bursts : ℕ → Bool
has_bursts burst = nat_lt 1 burst

-- the queue of the pick that is the last note
abbrev pub queue_just_picked : {T : Type 0} → Journal T → Option ℕ
queue_just_picked (Pick queue runtime ∷ before) = Some queue
queue_just_picked _ = None

-- the turn that a note of its own ends: its queue and its time
abbrev pub turn_told : {T : Type 0} → Note T → Option (ℕ × ℕ)
turn_told (Turned queue time) = Some (queue, time)
turn_told _ = None

-- a note that parts one turn from the next
abbrev pub parts_turns : {T : Type 0} → Note T → Bool
parts_turns (Pick queue runtime) = true
parts_turns (Turned queue time) = true
parts_turns _ = false

-- the queue whose turn a note begins: that of the pick before its first poll
abbrev pub queue_begun : {T : Type 0} → Note T → Journal T → Option ℕ
queue_begun (Start name) before = queue_just_picked before
queue_begun (Resume name) before = queue_just_picked before
queue_begun _ before = None

-- the queue of the turn that was begun and not ended by a note of its own
abbrev pub queue_begun_last : {T : Type 0} → Journal T → Option ℕ
queue_begun_last [] = None
queue_begun_last (note ∷ before) = if parts_turns note then None else or_else (queue_begun note before) (queue_begun_last before)

-- the queue whose turn is open: none is where each settled poll ends its turn
abbrev pub queue_in_turn : {T : Type 0} → ℕ → Journal T → Option ℕ
queue_in_turn burst journal = if has_bursts burst then queue_begun_last journal else None

-- one for a poll
abbrev pub poll_count : {T : Type 0} → Note T → ℕ
poll_count (Start name) = 1
poll_count (Resume name) = 1
poll_count _ = 0

-- how many polls the turn has had
abbrev pub polls_in_turn : {T : Type 0} → Journal T → ℕ
polls_in_turn [] = 0
polls_in_turn (note ∷ before) = if parts_turns note then 0 else polls_in_turn before + poll_count note

-- the time of a poll, which is at least 1
abbrev pub time_of_poll : Option (JobId × ℕ) → ℕ
time_of_poll None = 0
time_of_poll (Some poll) = max poll.1 1

-- the sum of the times of its settled polls
abbrev pub time_summed : {T : Type 0} → Journal T → ℕ
time_summed [] = 0
time_summed (note ∷ before) = if parts_turns note then 0 else time_summed before + time_of_poll (poll_settled note)

-- the time of the turn, which is at most what counts
abbrev pub time_in_turn : {T : Type 0} → Journal T → ℕ
time_in_turn journal = min (time_summed journal) (2 ^ 40 - 1)
