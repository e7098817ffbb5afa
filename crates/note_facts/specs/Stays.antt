-- Which jobs stay in their lines where they ask to be parked.
use Rattle.std.specs.Prelude.{◌≡◌, ℕ, Bool, true, false, ◌||◌, Option, Some, None, unwrap_or, get_or}
use Rattle.base_words.specs.declared.names.JobId.{JobId}
use Rattle.base_words.specs.declared.note.Note.{Note}
use Rattle.base_words.specs.declared.note.Note.TheVariants.{Woken, Stayed}
use Rattle.base_words.specs.declared.order.Mode.{Mode}
use Rattle.base_words.specs.Closing.{queue_mode, core_mode}
use Rattle.base_words.specs.Journal.{Journal}
use Rattle.base_words.specs.Parks.{is_return, is_wake_kept}
use Rattle.note_facts.specs.Names.{known}
use Rattle.note_facts.specs.declared.stays.Stays.{Stays}

-- a job, with what a note tells of a kept wake of it; it is parked before the note, or not
abbrev pub kept_told : {T : Type 0} → Bool → Note T → Option (JobId × Bool)
kept_told true (Woken name) = None
kept_told false (Woken name) = Some (name, true)
kept_told parked (Stayed name time) = Some (name, false)
kept_told parked _ = None

-- whether what is inside is handed back
abbrev pub hands_back : Option Mode → Bool
hands_back None = false
hands_back (Some mode) = is_return mode

-- the same after a closing in this mode, if there is one
abbrev pub hands_back_after : Option Mode → Bool → Bool
hands_back_after None was = was
hands_back_after (Some mode) was = is_return mode

-- whether a queue hands back what is inside, or the core does, if there is a queue
abbrev pub queue_hands_back : Stays → Option ℕ → Bool
queue_hands_back stays None = false
queue_hands_back stays (Some queue) = get_or stays.queues queue false || stays.core

-- kept wakes, and who hands back, are known as these notes tell them
pub record KnowsStays {T : Type 0} (stays : Stays) (journal : Journal T) : Type 0 where
  pub kept : (name : JobId) → unwrap_or (known stays.kept name) false ≡ is_wake_kept name journal
  pub queues : (queue : ℕ) → get_or stays.queues queue false ≡ hands_back (queue_mode queue journal)
  pub core : stays.core ≡ hands_back (core_mode journal)
