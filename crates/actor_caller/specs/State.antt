-- What a caller sees of a runtime, and what of it no call changes.
use Rattle.std.specs.Prelude.{◌≡◌, ℕ, ◌-◌, Bool, false, List, Option, slice_get, slice_index_or}
use Rattle.base_words.specs.declared.names.JobId.{JobId}
use Rattle.base_words.specs.declared.order.Order.{Order}
use Rattle.note_journal.specs.Journals.{places_of}
use Rattle.actor_desk.specs.Submissions.{DeskView}
use Rattle.link_ring.specs.Ends.{EndsView, out_at}
use Rattle.actor_seat.specs.Linked.{Grows, LinkedView}
use Rattle.actor_seat.specs.OutsideSeats.{OutsideView}
use Rattle.actor_caller.specs.Rings.{RingsView}
use Rattle.run_watch.specs.declared.watcher.Watching.{Watching}

-- The outside actor's journal and ends, and for each core whether the caller closed it: an order to close it was accepted, or a send to it was
-- answered `Closed`. The workers are as they began, with room for so many notes each. Which bells the caller has, how often it
-- rang that of each core, and behind what; and which bells each worker rings, by their names. Whether the outside actor's sink refused when it was last
-- asked, and how often it was asked, if it counts that. For each core what the caller last saw of it. The mark of each worker's sink, and last that of the
-- outside actor's. After how many rounds in which nothing was done each worker parks.
pub record RuntimeView (J T : Type 0) : Type 0 where
  pub desk : DeskView J T
  pub ends : EndsView J T
  pub closing : List Bool
  pub workers : List (LinkedView J T)
  pub room : ℕ
  pub rung : RingsView J T
  pub bells : List (List ℕ)
  pub refused : Bool
  pub asks : Option ℕ
  pub watched : List Watching
  pub marks : List ℕ
  pub tries : List ℕ

module _ {J T : Type 0} where
  -- the outside actor
  abbrev pub outside_of : RuntimeView J T → OutsideView J T
  outside_of view = record { desk = view.desk; ends = view.ends }

  -- whether the caller closed this core
  abbrev pub closing_at : ℕ → RuntimeView J T → Bool
  closing_at core view = slice_index_or view.closing core false

  -- the orders that were submitted to a core, the first one first
  abbrev pub submitted : ℕ → RuntimeView J T → List (Order J)
  submitted core view = (out_at core view.ends).out.sent

  -- whether a send to this core found the gate of the outside actor shut
  abbrev pub is_told_shut : ℕ → RuntimeView J T → Bool
  is_told_shut core view = (out_at core view.ends).out.closed

  -- the order that was submitted under a name
  abbrev pub submitted_under : JobId → RuntimeView J T → Option (Order J)
  submitted_under name view = slice_get (submitted name.to view) (name.number - 1)

  -- what no call changes: the outside actor, how many of its notes may be kept, each note that stands in its journal, how much room a core has, the
  -- workers, all bells, the marks of the sinks, when a worker parks, and what was seen of the cores, except by a watch
  pub record StaysRunning (old new : RuntimeView J T) : Type 0 where
    pub desk : new.desk ≡ record old.desk { journal = new.desk.journal; lanes = new.desk.lanes }
    pub places : places_of new.desk.journal ≡ places_of old.desk.journal
    pub grows : Grows old.desk.journal.notes new.desk.journal.notes
    pub workers : new.workers ≡ old.workers
    pub room : new.room ≡ old.room
    pub bells : new.bells ≡ old.bells
    pub names : new.rung.names ≡ old.rung.names
    pub watched : new.watched ≡ old.watched
    pub marks : new.marks ≡ old.marks
    pub tries : new.tries ≡ old.tries

  -- nothing was passed on, and the sink wasn't asked
  pub record PassesNothing (old new : RuntimeView J T) : Type 0 where
    pub journal : new.desk.journal ≡ record old.desk.journal { notes = new.desk.journal.notes }
    pub refused : new.refused ≡ old.refused
    pub asks : new.asks ≡ old.asks

  -- nothing was submitted, nothing was passed on, nothing was heard of a gate, and no bell was rung
  pub record SubmitsNothing (old new : RuntimeView J T) : Type 0 where
    pub orders : (core : ℕ) → submitted core new ≡ submitted core old
    pub gates : (core : ℕ) → is_told_shut core new ≡ is_told_shut core old
    pub closing : new.closing ≡ old.closing
    pub rung : new.rung ≡ old.rung
    pub passes : PassesNothing old new
    pub stays : StaysRunning old new
