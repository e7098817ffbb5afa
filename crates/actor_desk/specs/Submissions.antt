-- One actor's journal and what it says of its submissions, as callers see them.
use Rattle.std.specs.Prelude.{◌≡◌, ℕ, ◌-◌, ◌^◌, ◌<◌, ◌≤◌, None, List, [], ◌∷◌, ◌++◌, length, replicate, Result, Ok, Err}
use Rattle.base_words.specs.Terms.{Terms}
use Rattle.base_words.specs.declared.note.Note.{Note}
use Rattle.base_words.specs.declared.names.JobId.{JobId}
use Rattle.base_words.specs.declared.note.Note.TheVariants as writes
use Rattle.base_words.specs.declared.order.Order.{Order}
use Rattle.base_words.specs.declared.order.SendError.{SendError}
use Rattle.base_words.specs.declared.order.SendError.TheVariants.{Closed, Full, Spent, NoCore}
use Rattle.base_words.specs.Journal.{Journal, EachNote}
use Rattle.base_words.specs.Filters.{accepted_orders}
use Rattle.base_words.specs.Orders.{without_job}
use Rattle.base_words.specs.Outstanding.{outstanding_count}
use Rattle.base_words.specs.Clauses.{queue_just_picked}
use Rattle.base_words.specs.Commands.{effect_awaited}
use Rattle.base_words.specs.Lawful.{MayStand, IsNextSent}
use Rattle.note_journal.specs.Journals.{JournalView}
use Rattle.actor_desk.specs.Lanes.{Lane, fresh_lane}

-- whose submissions they are, how many cores there are, the capacity of each link, how many polls a turn may have, the actor's journal, and what is known of the submissions to each core
pub record DeskView (J T : Type 0) : Type 0 where
  pub actor : ℕ
  pub cores : ℕ
  pub cap : ℕ
  pub burst : ℕ
  pub journal : JournalView T
  pub lanes : List (Lane J T)

module _ {J T : Type 0} where
  -- whose journal it is, and what holds of the whole house
  abbrev pub terms_of_desk : DeskView J T → Terms
  terms_of_desk desk = record { actor = desk.actor; cores = desk.cores; cap = desk.cap; burst = desk.burst }

  -- a desk whose actor has noted nothing
  abbrev pub opened_desk : ℕ → ℕ → ℕ → ℕ → ℕ → DeskView J T
  opened_desk actor cores cap room burst =
      record { actor = actor; cores = cores; cap = cap; burst = burst; journal = record { notes = []; passed = []; room = room }; lanes = replicate cores (fresh_lane cap) }

  -- its journal is longer by these notes, the newest first
  abbrev pub desk_with : List (Note T) → DeskView J T → DeskView J T
  desk_with notes desk = record desk { journal = record desk.journal { notes = notes ++ desk.journal.notes } }

-- each note may stand where it stands, and no step is half done except a poll
pub record IsWritten {T : Type 0} (terms : Terms) (journal : Journal T) : Type 0 where
  pub notes : EachNote (MayStand terms) journal
  pub no_pick : queue_just_picked journal ≡ None
  pub no_answer : effect_awaited journal ≡ None

module _ {J T : Type 0} where
  -- a submission is accepted under the next name of its link, or refused; that the gate is shut is told by the end alone
  abbrev pub Submits : ℕ → Order J → DeskView J T → Result JobId (SendError J) → DeskView J T → Type 0
  Submits core order old (Ok name) new =
      IsNextSent (terms_of_desk old) name (without_job order) old.journal.notes × (name.to ≡ core)
      × (new.journal ≡ (desk_with (writes.Sent name (without_job order) ∷ []) old).journal)
  Submits core order old (Err (Closed back final)) new =
      (back ≡ order) × (final ≡ length (accepted_orders core old.journal.notes)) × (new ≡ old)
  Submits core order old (Err (Full back)) new = (back ≡ order) × (old.cap ≤ outstanding_count core old.journal.notes) × (new ≡ old)
  Submits core order old (Err (Spent back)) new =
      (back ≡ order) × (outstanding_count core old.journal.notes < old.cap)
      × (length (accepted_orders core old.journal.notes) ≡ 2 ^ 63 - 1) × (new ≡ old)
  Submits core order old (Err (NoCore back)) new = ⊥

-- the number that a submission was given, or why it was refused
abbrev pub numbered : {J : Type 0} → Result JobId (SendError J) → Result ℕ (SendError J)
numbered (Ok name) = Ok name.number
numbered (Err error) = Err error
