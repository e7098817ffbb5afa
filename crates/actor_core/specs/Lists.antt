-- What the notes of a call change of the lists that a journal tells of its links.
use Rattle.std.specs.Prelude.{◌≡◌, ℕ, Option, Some, None}
use Rattle.base_words.specs.declared.names.JobId.{JobId}
use Rattle.base_words.specs.declared.note.OutcomeNote.{OutcomeNote}
use Rattle.base_words.specs.Journal.{Journal, with_last}
use Rattle.base_words.specs.Filters.{if_from, given_outcomes}
use Rattle.base_words.specs.Closing.{final_count}
use Rattle.actor_desk.specs.Ends.{KeepsSent}

-- the lists that a journal tells of its links, except what was delivered and given, stay as they were; no gate is shut
pub record KeepsLists {T : Type 0} (old new : Journal T) : Type 0 where
  pub sent : KeepsSent old new
  pub gates : (sender : ℕ) → final_count sender new ≡ final_count sender old

-- what a journal tells as given is longer by one outcome for each sender who is given one
abbrev pub GivesMore : {T : Type 0} → (ℕ → Option (JobId × OutcomeNote T)) → Journal T → Journal T → Type 0
GivesMore more old new = (sender : ℕ) → given_outcomes sender new ≡ with_last (given_outcomes sender old) (more sender)

-- this outcome under this name, for the sender of the name
abbrev pub told_under : {T : Type 0} → JobId → Option (OutcomeNote T) → ℕ → Option (JobId × OutcomeNote T)
told_under name None sender = None
told_under name (Some outcome) sender = if_from sender name (name, outcome)
