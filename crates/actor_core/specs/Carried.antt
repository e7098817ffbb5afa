-- What a core and the desk of its journal do with an order: the core carries it out, the desk writes the notes, and the end gets the outcome.
use Rattle.std.specs.Prelude.{◌≡◌, ◌≢◌, ℕ, ◌+◌, ◌≤◌, List, ◌++◌, length, reverse, Bool, true, false, Option, Some}
use Rattle.base_words.specs.declared.order.Order.{Order}
use Rattle.base_words.specs.declared.order.Order.TheVariants.{Job}
use Rattle.base_words.specs.declared.order.Outcome.{Outcome}
use Rattle.base_words.specs.declared.note.Note.{Note}
use Rattle.base_words.specs.declared.order.Envelope.{Envelope}
use Rattle.core_core.specs.declared.delivery.Delivered.{Delivered}
use Rattle.core_core.specs.State.{CoreView}
use Rattle.core_core.specs.Deliveries.{Delivers}
use Rattle.base_jobs.specs.Meanings.{Meaning}
use Rattle.link_ends.specs.declared.ends.Inward.{Inward}
use Rattle.link_ends.specs.Calls.{Takes}
use Rattle.link_ends.specs.Ends.{AreNamed, SoundIn}
use Rattle.actor_desk.specs.Ends.{KeepsOuts, KeepsSent}
use Rattle.actor_desk.specs.Submissions.{DeskView, IsWritten, desk_with, terms_of_desk}
use Rattle.actor_core.specs.Recorded.{RecordedView, IsRecorded, desk_of}
use Rattle.actor_core.specs.Ends.{Gives, IsInOf, IsSameSeat, KeepsIn}
use Rattle.actor_core.specs.Steps.{Receives}

-- whether an order is a job
abbrev pub is_job : {J : Type 0} → Order J → Bool
is_job (Job queue job) = true
is_job _ = false

module _ {J T : Type 0} where
  -- what a desk asks of the notes that it writes: there is room for them, they may stand behind its own, and they tell of no submission
  pub record MayNote (said : DeskView J T) (slice : List (Note T)) : Type 0 where
    pub room : length said.journal.notes + length slice ≤ said.journal.room
    pub written : IsWritten (terms_of_desk said) (reverse slice ++ said.journal.notes)
    pub sent : KeepsSent said.journal.notes (reverse slice ++ said.journal.notes)

  -- whatever the core does with this order, the desk may write its notes
  abbrev pub MayNoteAll : CoreView J → Envelope J → DeskView J T → Type 0
  MayNoteAll core envelope said =
      (delivered : Delivered J) (new : CoreView J) (notes : List (Note T)) → Delivers core envelope.name envelope.order delivered new notes → MayNote said notes

  -- the core has carried the order out, and the desk has written the notes
  pub record NotesDelivery (core : CoreView J) (said : DeskView J T) (envelope : Envelope J) (delivered : Delivered J) (core_now : CoreView J) (said_now : DeskView J T) : Type 0 where
    pub notes : List (Note T)
    pub delivers : Delivers core envelope.name envelope.order delivered core_now notes
    pub written : said_now ≡ desk_with (reverse notes) said

  -- an end beside this core from which the order was just taken
  pub record IsJustTaken (view : RecordedView J T) (envelope : Envelope J) (taken : Inward J T) : Type 0 where
    pub before : Inward J T
    pub beside : IsInOf before.from view before
    pub takes : Takes before taken (Some envelope)
    pub sound : SoundIn taken
    pub named : AreNamed before.base before.taken before.given

  -- the order was received, and its outcome was given on the end, if it has one yet
  pub record ReceivesOn (meaning : Meaning J T) (old : RecordedView J T) (envelope : Envelope J) (taken : Inward J T) (new : RecordedView J T) (after : Inward J T) : Type 0 where
    pub receives : Receives old envelope new
    pub outcome : Option (Outcome J T)
    pub gives : Gives taken envelope.name.number outcome after
    pub beside : IsInOf envelope.name.from new after
    pub others : (sender : ℕ) → sender ≢ envelope.name.from → KeepsIn sender old new
    pub outs : KeepsOuts (desk_of old) (desk_of new)
    pub seat : IsSameSeat old new
    pub lanes : new.lanes ≡ old.lanes
    pub sound : IsRecorded meaning new
