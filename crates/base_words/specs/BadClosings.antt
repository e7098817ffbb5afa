-- Journals of a core that closes as none may.
use Rattle.std.specs.Prelude.{ℕ, ◌^◌, [], ◌∷◌}
use Rattle.base_words.specs.declared.note.Note.TheVariants as notes
use Rattle.base_words.specs.declared.order.Answer.TheVariants as answers
use Rattle.base_words.specs.declared.order.Mode.TheVariants.{Finish, Return}
use Rattle.base_words.specs.BadJournals.{submission}
use Rattle.base_words.specs.Journal.{Journal}
use Rattle.base_words.specs.StepsRefused.{CoreMayWrite}

-- a core that closed in mode `Finish` closes so again
abbrev pub closed_again : Journal ℕ
closed_again = notes.CoreClosed Finish ∷ notes.CoreClosed Finish ∷ []

-- a core that closed in mode `Return` goes back to `Finish`
abbrev pub closed_less : Journal ℕ
closed_less = notes.CoreClosed Finish ∷ notes.CoreClosed Return ∷ []

-- a queue is closed by nobody's command
abbrev pub queue_closed_unasked : Journal ℕ
queue_closed_unasked = notes.QueueClosed 0 Finish ∷ []

-- a queue is closed that doesn't exist
abbrev pub no_queue_closed : Journal ℕ
no_queue_closed = notes.QueueClosed 1 Finish ∷ notes.Answered (submission 1) answers.Closed ∷ []

-- a queue that is closed in mode `Return` goes back to `Finish`
abbrev pub queue_closed_less : Journal ℕ
queue_closed_less =
    notes.QueueClosed 0 Finish ∷ notes.Answered (submission 2) answers.Closed ∷ notes.QueueClosed 0 Return ∷ notes.Answered (submission 1) answers.Closed ∷ []

-- a closing is answered, and nothing is closed
abbrev pub closing_missing : Journal ℕ
closing_missing = notes.Took (submission 2) 0 ∷ notes.Answered (submission 1) answers.Closed ∷ []

-- an open core shuts a gate
abbrev pub shut_when_open : Journal ℕ
shut_when_open = notes.Shut 1 0 ∷ []

-- a gate is shut twice
abbrev pub shut_twice : Journal ℕ
shut_twice = notes.Shut 1 0 ∷ notes.Shut 1 0 ∷ notes.CoreClosed Finish ∷ []

-- the gate of an actor is shut that there isn't
abbrev pub shut_for_nobody : Journal ℕ
shut_for_nobody = notes.Shut 7 0 ∷ notes.CoreClosed Finish ∷ []

-- a gate is shut at less than what was delivered through it
abbrev pub shut_below_delivered : Journal ℕ
shut_below_delivered = notes.Shut 1 0 ∷ notes.CoreClosed Finish ∷ notes.Took (submission 1) 0 ∷ []

-- a gate is shut at a count above the last number of a link
abbrev pub shut_beyond_numbers : Journal ℕ
shut_beyond_numbers = notes.Shut 1 (2 ^ 63) ∷ notes.CoreClosed Finish ∷ []

-- more is delivered through a shut gate than its count
abbrev pub delivered_beyond_count : Journal ℕ
delivered_beyond_count = notes.Took (submission 1) 0 ∷ notes.Shut 1 0 ∷ notes.CoreClosed Finish ∷ []

-- a job enters a core that hands back what it holds
abbrev pub taken_by_returning : Journal ℕ
taken_by_returning = notes.Took (submission 1) 0 ∷ notes.CoreClosed Return ∷ []

-- such a core polls a job
abbrev pub polled_by_returning : Journal ℕ
polled_by_returning = notes.Start (submission 1) ∷ notes.Pick 0 0 ∷ notes.CoreClosed Return ∷ notes.Took (submission 1) 0 ∷ []

-- a closed core answers a creation by a queue
abbrev pub creation_answered : Journal ℕ
creation_answered = notes.Answered (submission 1) (answers.Created 1) ∷ notes.CoreClosed Finish ∷ []

-- and creates it
abbrev pub created_when_closed : Journal ℕ
created_when_closed = notes.Created 1 500 ∷ creation_answered

-- none of them may stand
pub record ClosingsAreRefused : Type 0 where
  pub again : CoreMayWrite closed_again → ⊥
  pub less : CoreMayWrite closed_less → ⊥
  pub unasked : CoreMayWrite queue_closed_unasked → ⊥
  pub no_queue : CoreMayWrite no_queue_closed → ⊥
  pub queue_less : CoreMayWrite queue_closed_less → ⊥
  pub missing : CoreMayWrite closing_missing → ⊥
  pub open_core : CoreMayWrite shut_when_open → ⊥
  pub twice : CoreMayWrite shut_twice → ⊥
  pub nobody : CoreMayWrite shut_for_nobody → ⊥
  pub below : CoreMayWrite shut_below_delivered → ⊥
  pub beyond : CoreMayWrite shut_beyond_numbers → ⊥
  pub counted : CoreMayWrite delivered_beyond_count → ⊥
  pub entered : CoreMayWrite taken_by_returning → ⊥
  pub polled : CoreMayWrite polled_by_returning → ⊥
  pub created : CoreMayWrite created_when_closed → ⊥
