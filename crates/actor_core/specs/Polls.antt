-- How often a job was polled, and the notes of a poll.
use Rattle.std.specs.Prelude.{ℕ, ◌+◌, Bool, true, false, [], ◌∷◌}
use Rattle.base_words.specs.declared.names.JobId.{JobId}
use Rattle.base_words.specs.declared.note.Note.{Note}
use Rattle.base_words.specs.declared.note.Note.TheVariants as writes
use Rattle.base_words.specs.Names.{is_name}
use Rattle.base_words.specs.Journal.{Journal}
use Rattle.base_words.specs.Work.{number_if}
use Rattle.base_words.specs.Lines.{name_settled}
use Rattle.core_core.specs.declared.turn.Settled.{Settled}
use Rattle.core_core.specs.declared.turn.Settled.TheVariants.{Yielded, Parked, Stayed, Finished}

-- how often the job was polled
abbrev pub polls_made : {T : Type 0} → JobId → Journal T → ℕ
polls_made name [] = 0
polls_made name (note ∷ before) = polls_made name before + number_if (is_name name (name_settled note))

-- a poll is a job's first, or a further one
abbrev pub poll_note : {T : Type 0} → JobId → Bool → Note T
poll_note name false = writes.Start name
poll_note name true = writes.Resume name

-- the note of a settled poll, by what became of its job
abbrev pub settle_note : {T : Type 0} → JobId → ℕ → Settled T → Note T
settle_note name time Yielded = writes.Yield name time
settle_note name time Parked = writes.Park name time
settle_note name time Stayed = writes.Stayed name time
settle_note name time (Finished answer) = writes.Done name time answer
