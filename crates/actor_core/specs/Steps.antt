-- What the calls of a core beside its journal do.
use Rattle.std.specs.Prelude.{◌≡◌, ◌==◌, ℕ, ◌+◌, ◌*◌, ◌^◌, ◌<◌, ◌≤◌, Option, Some, None, Bool, true, false, List, [], ◌∷◌, ◌++◌, replicate, Result, Ok, Err}
use Rattle.base_words.specs.declared.names.JobId.{JobId}
use Rattle.base_words.specs.declared.note.Note.{Note}
use Rattle.base_words.specs.declared.note.Note.TheVariants as writes
use Rattle.base_words.specs.declared.order.Envelope.{Envelope}
use Rattle.base_words.specs.declared.order.Outcome.{Outcome}
use Rattle.base_words.specs.Work.{number_if}
use Rattle.base_words.specs.Closing.{IsCounted, closes, core_mode, final_count}
use Rattle.base_words.specs.declared.order.Mode.{Mode}
use Rattle.base_words.specs.Commands.{created_count}
use Rattle.base_words.specs.Journal.{Journal}
use Rattle.base_words.specs.Limits.{most_queues}
use Rattle.base_words.specs.Parks.{is_wake_kept}
use Rattle.core_queues.specs.declared.queues.CreateError.{CreateError}
use Rattle.core_queues.specs.declared.queues.CreateError.TheVariants.{TooMany, Memory}
use Rattle.core_core.specs.State.{JobOut, opened}
use Rattle.link_ends.specs.declared.ends.Inward.{Inward}
use Rattle.link_ends.specs.Calls.{Takes}
use Rattle.note_journal.specs.Journals.{JournalView}
use Rattle.actor_desk.specs.Lanes.{fresh_lane}
use Rattle.actor_core.specs.Deliveries.{IsDelivery}
use Rattle.actor_core.specs.Recorded.{RecordedView, delivered_count, given_count}
use Rattle.actor_core.specs.Ends.{KeepsLists, Gives}

module _ {T : Type 0} where
  -- the journal is longer by these notes, the newest first
  abbrev pub with_notes : List (Note T) → JournalView T → JournalView T
  with_notes notes journal = record journal { notes = notes ++ journal.notes }

module _ {J T : Type 0} where
  -- a core of this number that was just opened and whose turns have so many polls, beside a journal of this room
  abbrev pub opened_beside : ℕ → ℕ → ℕ → ℕ → ℕ → RecordedView J T
  opened_beside core cores cap room burst = record {
    cap = cap;
    core = opened core cores ((cores + 1) * cap) 0 burst;
    journal = record { notes = []; passed = []; room = room };
    took = [];
    lanes = replicate cores (fresh_lane cap);
  }

  -- the name is the next of its sender, who is there and waits for fewer outcomes than it may, and within the count of its gate, if that is shut
  pub record IsNextIn (view : RecordedView J T) (name : JobId) : Type 0 where
    pub sender : name.from ≤ view.core.cores
    pub receiver : name.to ≡ view.core.core
    pub next : name.number ≡ delivered_count view.journal.notes name.from + 1
    pub in_range : name.number < 2 ^ 63
    pub gate : IsCounted (final_count name.from view.journal.notes) name.number
    pub place : delivered_count view.journal.notes name.from < given_count view.journal.notes name.from + view.cap

  -- the job that is out, with the wake that this journal keeps of it
  abbrev pub out_told : Journal T → Option (JobOut J) → Option (JobOut J)
  out_told journal None = None
  out_told journal (Some out) = Some (record out { woken = is_wake_kept out.name journal })

  -- a delivery: the notes that the rules give, and the order stands under its name
  pub record Receives (old : RecordedView J T) (envelope : Envelope J) (new : RecordedView J T) : Type 0 where
    pub notes : List (Note T)
    pub delivery : IsDelivery envelope.name envelope.order old.journal.notes notes
    pub journal : new.journal ≡ with_notes notes old.journal
    pub took : new.took ≡ old.took ++ envelope ∷ []
    pub out : new.core.out ≡ out_told new.journal.notes old.core.out
    pub lists : KeepsLists old.journal.notes new.journal.notes
    pub delivered : (sender : ℕ) →
        delivered_count new.journal.notes sender ≡ delivered_count old.journal.notes sender + number_if (envelope.name.from == sender)

  -- what a delivery from this end does: the next order is received, and its outcome given, if it has one yet; or nothing is there
  abbrev pub Delivers : RecordedView J T → Inward J T → RecordedView J T → Inward J T → Bool → Type 0
  Delivers old before new after true =
      (envelope : Envelope J) × ((taken : Inward J T) × (outcome : Option (Outcome J T)) × Takes before taken (Some envelope) × Gives taken envelope.name.number outcome after)
      × Receives old envelope new
  Delivers old before new after false = Takes before after None × (new ≡ old)

  -- a queue is made under the next number; a core that has 256 queues says so, else there was no memory
  abbrev pub CreatesQueue : ℕ → RecordedView J T → Result ℕ CreateError → RecordedView J T → Type 0
  CreatesQueue weight old (Ok queue) new =
      (queue ≡ created_count old.journal.notes + 1) × (queue < most_queues) × (new.journal ≡ with_notes (writes.Created queue weight ∷ []) old.journal)
      × (new.core.out ≡ old.core.out) × (new.took ≡ old.took)
  CreatesQueue weight old (Err TooMany) new = (created_count old.journal.notes + 1 ≡ most_queues) × (new ≡ old)
  CreatesQueue weight old (Err Memory) new = (created_count old.journal.notes + 1 < most_queues) × (new ≡ old)

  -- the gate of this sender is shut, and its count is told
  pub record TellsShut (old : RecordedView J T) (sender count : ℕ) (new : RecordedView J T) : Type 0 where
    pub journal : new.journal ≡ with_notes (writes.Shut sender count ∷ []) old.journal
    pub took : new.took ≡ old.took
    pub out : new.core.out ≡ old.core.out

  -- the core closes by itself, where that changes anything
  abbrev pub ClosesItself : RecordedView J T → Mode → Bool → RecordedView J T → Type 0
  ClosesItself old mode true new =
      (closes (core_mode old.journal.notes) mode ≡ true) × (new.journal ≡ with_notes (writes.CoreClosed mode ∷ []) old.journal)
      × (new.core.out ≡ old.core.out) × (new.took ≡ old.took)
  ClosesItself old mode false new = (closes (core_mode old.journal.notes) mode ≡ false) × (new ≡ old)
