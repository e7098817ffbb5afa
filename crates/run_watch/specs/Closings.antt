-- Notes that tell that a core closed by itself, and notes that don't.
use Rattle.std.specs.Prelude.{◌≡◌, ℕ, true, false, [], ◌∷◌}
use Rattle.base_words.specs.declared.names.JobId.{JobId}
use Rattle.base_words.specs.declared.note.Note.TheVariants.{Answered, Created, CoreClosed, QueueClosed}
use Rattle.base_words.specs.declared.order.Answer.TheVariants.{Closed, AlreadyClosed}
use Rattle.base_words.specs.declared.order.Mode.TheVariants.{Finish, Return}
use Rattle.base_words.specs.Journal.{Journal}
use Rattle.run_watch.specs.Closed.{closed_by_itself}
use Rattle.run_watch.specs.Growth.{Grows}

-- the first order of actor 1, and the second
abbrev pub first : JobId
first = record { from = 1; to = 0; number = 1 }

abbrev pub second : JobId
second = record { from = 1; to = 0; number = 2 }

-- a core with a queue of its own, which isn't closed
abbrev pub opened : Journal ℕ
opened = Created 1 1000 ∷ []

-- a command closes it in mode `Finish`
abbrev pub by_command : Journal ℕ
by_command = CoreClosed Finish ∷ Answered first Closed ∷ opened

-- another one in mode `Return`
abbrev pub by_two_commands : Journal ℕ
by_two_commands = CoreClosed Return ∷ Answered second Closed ∷ by_command

-- a command closes one of its queues
abbrev pub queue_closed : Journal ℕ
queue_closed = QueueClosed 1 Finish ∷ Answered first Closed ∷ opened

-- its journal is short
abbrev pub by_itself : Journal ℕ
by_itself = CoreClosed Return ∷ opened

-- a command that comes later closes nothing
abbrev pub before_a_command : Journal ℕ
before_a_command = Answered first AlreadyClosed ∷ by_itself

-- its journal is short behind a command that closed it in mode `Finish`
abbrev pub behind_a_command : Journal ℕ
behind_a_command = CoreClosed Return ∷ by_command

-- it closes by itself in mode `Finish`, and a command closes it in mode `Return`
abbrev pub and_by_command : Journal ℕ
and_by_command = CoreClosed Return ∷ Answered first Closed ∷ CoreClosed Finish ∷ opened

-- a command that closed nothing doesn't close it
abbrev pub behind_a_refusal : Journal ℕ
behind_a_refusal = CoreClosed Return ∷ Answered second AlreadyClosed ∷ by_command

-- each of them tells it or not
pub record ClosingsAreTold : Type 0 where
  pub opening : closed_by_itself opened ≡ false
  pub command : closed_by_itself by_command ≡ false
  pub two_commands : closed_by_itself by_two_commands ≡ false
  pub queue : closed_by_itself queue_closed ≡ false
  pub itself : closed_by_itself by_itself ≡ true
  pub earlier : closed_by_itself before_a_command ≡ true
  pub later : closed_by_itself behind_a_command ≡ true
  pub both : closed_by_itself and_by_command ≡ true
  pub refusal : closed_by_itself behind_a_refusal ≡ true

-- what is told of the closing stays told as the notes become more
abbrev pub ClosingsStayTold : Type 0
ClosingsStayTold = (old new : Journal ℕ) → Grows old new → closed_by_itself old ≡ true → closed_by_itself new ≡ true
