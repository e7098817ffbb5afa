-- A core beside its journal, with its actor's ends of the links.
use Rattle.std.specs.Prelude.{◌≡◌, ◌≢◌, ℕ, ◌+◌, ◌≤◌, Option, None, length, ◌++◌}
use Rattle.base_words.specs.Bursts.{queue_in_turn}
use Rattle.base_words.specs.Journal.{Journal}
use Rattle.base_words.specs.declared.names.JobId.{JobId}
use Rattle.base_words.specs.declared.order.Order.{Order}
use Rattle.base_words.specs.declared.order.Outcome.{Outcome}
use Rattle.base_words.specs.declared.note.OutcomeNote.{OutcomeNote}
use Rattle.base_jobs.specs.Meanings.{Meaning}
use Rattle.note_journal.specs.Journals.{places_of}
use Rattle.actor_core.specs.Recorded.{RecordedView, IsRecorded, desk_of, terms_at}
use Rattle.actor_core.specs.Ends.{IsInOf, IsInOwing, IsSameSeat}
use Rattle.actor_core.specs.OwedPolls.{HasOwedPolls, seen_by}
use Rattle.actor_desk.specs.Posts.{AreOutsOf}
use Rattle.link_ring.specs.Ends.{EndsView, in_at, out_at, SameEnds}
use Rattle.actor_seat.specs.Queues.{opening_of}
use Rattle.link_ends.specs.Fits.{Fits}

-- the core and its journal, and the ends
pub record LinkedView (J T : Type 0) : Type 0 where
  pub recorded : RecordedView J T
  pub ends : EndsView J T

module _ {J T : Type 0} (fits : Order J → Outcome J T → Type 0) where
  -- on these ends the actor sends: one to each core, and each of them is what the journal and the lane of its core say
  abbrev pub SendsOn : RecordedView J T → EndsView J T → Type 0
  SendsOn recorded ends = AreOutsOf fits (λ end. end.out) (λ end. end.credited) (desk_of recorded) ends.outs

  -- the actor has an end to each core and an end from each actor, and each of them is what the journal says of it
  pub record AreBeside (recorded : RecordedView J T) (ends : EndsView J T) : Type 0 where
    pub number : ends.number ≡ recorded.core.core
    pub ins_are : length ends.ins ≡ recorded.core.cores + 1
    pub outs : SendsOn recorded ends
    pub ins : (sender : ℕ) → sender ≤ recorded.core.cores → IsInOf sender recorded (in_at sender ends).inward

  -- the same, but this outcome, if there is one, is owed to this sender
  pub record AreOwing (from : ℕ) (owing : Option (JobId × OutcomeNote T)) (recorded : RecordedView J T) (ends : EndsView J T) : Type 0 where
    pub number : ends.number ≡ recorded.core.core
    pub ins_are : length ends.ins ≡ recorded.core.cores + 1
    pub outs : SendsOn recorded ends
    pub owed : IsInOwing from owing recorded (in_at from ends).inward
    pub ins : (sender : ℕ) → sender ≤ recorded.core.cores → sender ≢ from → IsInOf sender recorded (in_at sender ends).inward

-- the same notes, behind newer ones if there are any
abbrev pub Grows : {T : Type 0} → Journal T → Journal T → Type 0
Grows {T} old new = (newer : Journal T) × (new ≡ newer ++ old)

module _ {J T : Type 0} where
  -- no turn of the core is open, so its journal is lawful as it stands
  abbrev pub IsBetweenTurns : RecordedView J T → Type 0
  IsBetweenTurns view = queue_in_turn view.core.bursts.burst view.journal.notes ≡ None

  -- no end has seen less than before: of each sender as many orders, and of each core as many outcomes
  pub record SeesNoLess (old new : EndsView J T) : Type 0 where
    pub ins : (sender : ℕ) → length (in_at sender old).inward.seen ≤ length (in_at sender new).inward.seen
    pub outs : (core : ℕ) → length (out_at core old).out.seen ≤ length (out_at core new).out.seen

  -- What no step changes: whose core it is, which links its ends are of, what was created at its opening, and each note that stands in its journal. No
  -- end sees less behind it.
  pub record StaysLinked (old new : LinkedView J T) : Type 0 where
    pub seat : IsSameSeat old.recorded new.recorded
    pub ends : SameEnds old.ends new.ends
    pub sees : SeesNoLess old.ends new.ends
    pub opening : opening_of new.recorded.journal.notes ≡ opening_of old.recorded.journal.notes
    pub grows : Grows old.recorded.journal.notes new.recorded.journal.notes

  -- The same in a worker's life, in which notes are passed on: that changes how many notes there may be in all, but not how many may be kept.
  pub record RunsOn (old new : LinkedView J T) : Type 0 where
    pub seat : terms_at new.recorded ≡ terms_at old.recorded
    pub places : places_of new.recorded.journal ≡ places_of old.recorded.journal
    pub ends : SameEnds old.ends new.ends
    pub sees : SeesNoLess old.ends new.ends
    pub opening : opening_of new.recorded.journal.notes ≡ opening_of old.recorded.journal.notes
    pub grows : Grows old.recorded.journal.notes new.recorded.journal.notes

module _ {J T : Type 0} (meaning : Meaning J T) where
  -- each poll that the journal tells did what the order under its name says, as far as the ends on which the actor sends have seen the links
  abbrev pub PollsAsOwed : RecordedView J T → EndsView J T → Type 0
  PollsAsOwed recorded ends = HasOwedPolls meaning (seen_by (λ end. end.out) ends.outs) recorded

  -- the core is recorded and no job is out, the ends are beside it, and each poll was one that is owed
  pub record IsLinked (view : LinkedView J T) : Type 0 where
    pub recorded : IsRecorded meaning view.recorded
    pub at_rest : view.recorded.core.out ≡ None
    pub beside : AreBeside (Fits meaning) view.recorded view.ends
    pub owed : PollsAsOwed view.recorded view.ends
