-- What is done to close a core and to shut all its gates.
use Rattle.std.specs.Prelude.{◌≡◌, ◌≢◌, ◌⊎◌, ℕ, ◌+◌, ◌<◌, ◌≤◌, Some, [], ◌∷◌, length, IsSome}
use Rattle.base_words.specs.declared.note.Note.TheVariants.{CoreClosed, Shut}
use Rattle.base_words.specs.declared.order.Mode.TheVariants.{Return}
use Rattle.base_words.specs.Journal.{EachNote}
use Rattle.base_words.specs.Closing.{core_mode, final_count}
use Rattle.note_journal.specs.Journals.{JournalView}
use Rattle.actor_core.specs.Recorded.{RecordedView, given_count}
use Rattle.actor_core.specs.Steps.{with_notes}
use Rattle.link_ring.specs.Ends.{in_at}
use Rattle.run_worker.specs.Asks.{NotesNoPoll}
use Rattle.actor_seat.specs.Linked.{LinkedView, StaysLinked}
use Rattle.run_worker.specs.Rooms.{last_through, MayAct}

module _ {T : Type 0} where
  -- nothing is written, or that the gate of this sender was shut
  abbrev pub WritesShut : ℕ → JournalView T → JournalView T → Type 0
  WritesShut sender old new =
      (new ≡ old) ⊎ ((count : ℕ) × (new ≡ with_notes (Shut sender count ∷ []) old))

  -- nothing is written, or that the core closed in mode `Return`
  abbrev pub WritesReturn : JournalView T → JournalView T → Type 0
  WritesReturn old new = (new ≡ old) ⊎ (new ≡ with_notes (CoreClosed Return ∷ []) old)

module _ {J T : Type 0} where
  -- as many orders of each sender were delivered as before
  abbrev pub KeepsTaken : LinkedView J T → LinkedView J T → Type 0
  KeepsTaken old new = (sender : ℕ) → (in_at sender new.ends).inward.taken ≡ (in_at sender old.ends).inward.taken

  -- the gate of this sender is shut, and at most as many orders came through as have an outcome and a link holds more
  pub record IsShutWithin (sender : ℕ) (view : RecordedView J T) : Type 0 where
    pub gate : IsSome (final_count sender view.journal.notes)
    pub within : last_through view.journal.notes sender ≤ given_count view.journal.notes sender + view.cap

  -- the gate of this sender is shut, if it was open
  pub record LeavesShut (sender : ℕ) (old new : LinkedView J T) : Type 0 where
    pub wrote : WritesShut sender old.recorded.journal new.recorded.journal
    pub shut : IsShutWithin sender new.recorded
    pub taken : KeepsTaken old new
    pub stays : StaysLinked old new

  -- the core is closed in mode `Return`, if it wasn't
  pub record LeavesReturning (old new : LinkedView J T) : Type 0 where
    pub wrote : WritesReturn old.recorded.journal new.recorded.journal
    pub returning : core_mode new.recorded.journal.notes ≡ Some Return
    pub stays : StaysLinked old new

  -- the same, unless this sender is the one that is spared: then nothing is done
  abbrev pub LeavesUnless : ℕ → ℕ → LinkedView J T → LinkedView J T → Type 0
  LeavesUnless spared sender old new = ((sender ≡ spared) × (new ≡ old)) ⊎ ((sender ≢ spared) × LeavesShut sender old new)

  -- the gates of the first senders are shut, as many as the count says, except that of the one that is spared, and nothing else was done
  pub record ShutsFirst (spared count : ℕ) (old new : LinkedView J T) : Type 0 where
    pub shut : (sender : ℕ) → sender < count → sender ≢ spared → IsShutWithin sender new.recorded
    pub mode : core_mode new.recorded.journal.notes ≡ core_mode old.recorded.journal.notes
    pub longer : length new.recorded.journal.notes ≤ length old.recorded.journal.notes + count
    pub polls : NotesNoPoll old.recorded.journal.notes new.recorded.journal.notes
    pub acts : (least room : ℕ) → EachNote (MayAct least room) old.recorded.journal.notes → EachNote (MayAct least room) new.recorded.journal.notes
    pub taken : KeepsTaken old new
    pub stays : StaysLinked old new
