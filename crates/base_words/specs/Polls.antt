-- The polls that notes begin and settle.
use Rattle.std.specs.Prelude.{ℕ, Option, Some, None}
use Rattle.base_words.specs.declared.names.JobId.{JobId}
use Rattle.base_words.specs.declared.note.Note.{Note}
use Rattle.base_words.specs.declared.note.Note.TheVariants.{Start, Resume, Yield, Park, Stayed, Done}

-- the job that a note says is polled
abbrev pub name_polled : {T : Type 0} → Note T → Option JobId
name_polled (Start name) = Some name
name_polled (Resume name) = Some name
name_polled _ = None

-- the poll that a note settles: its job and its time
abbrev pub poll_settled : {T : Type 0} → Note T → Option (JobId × ℕ)
poll_settled (Yield name time) = Some (name, time)
poll_settled (Park name time) = Some (name, time)
poll_settled (Stayed name time) = Some (name, time)
poll_settled (Done name time value) = Some (name, time)
poll_settled _ = None

-- the job of a poll, if there is one
abbrev pub name_of_poll : Option (JobId × ℕ) → Option JobId
name_of_poll None = None
name_of_poll (Some poll) = Some poll.0

-- the job whose poll a note settles
abbrev pub name_settled : {T : Type 0} → Note T → Option JobId
name_settled note = name_of_poll (poll_settled note)
