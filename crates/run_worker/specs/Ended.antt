-- What a worker keeps, and what it gives back.
use Rattle.std.specs.Prelude.{◌≡◌, ◌⊎◌, ℕ, ◌+◌, Bool, length}
use Rattle.base_words.specs.Closing.{IsDrained}
use Rattle.base_words.specs.Journal.{Journal, EachNote}
use Rattle.base_jobs.specs.Meanings.{Meaning}
use Rattle.actor_core.specs.Recorded.{RecordedView}
use Rattle.note_journal.specs.Journals.{places_of}
use Rattle.actor_seat.specs.Linked.{LinkedView, IsBetweenTurns, IsLinked}
use Rattle.run_worker.specs.Rooms.{least_free, ActsAsItMay, ActsByCommand, IsProvided, MayAct}
use Rattle.run_worker.specs.Shown.{IsShownWhole, ShownView, TellsAlone}

-- a linked core, and whether its worker is at its end: then it hands everything back and polls no more
pub record ServedView (J T : Type 0) : Type 0 where
  pub linked : LinkedView J T
  pub ending : Bool

-- a linked core, the sink to which notes of its journal were passed on, and its board
pub record EndedView (J T S : Type 0) : Type 0 where
  pub linked : LinkedView J T
  pub sink : S
  pub shown : ShownView T

module _ {J T : Type 0} (meaning : Meaning J T) where
  -- Core, journal and ends agree, no turn is open, and there is room for what is left. The core closed by itself only where its worker is at its end and the
  -- journal was short, and posted only while it polled.
  pub record IsServed (view : ServedView J T) : Type 0 where
    pub linked : IsLinked meaning view.linked
    pub between : IsBetweenTurns view.linked.recorded
    pub provided : IsProvided view.ending view.linked.recorded
    pub acts : ActsAsItMay view.ending view.linked.recorded

  -- the core is drained, no turn is open, and core, journal and ends agree
  pub record HasDrained (view : LinkedView J T) : Type 0 where
    pub linked : IsLinked meaning view
    pub between : IsBetweenTurns view.recorded
    pub drained : IsDrained view.recorded.core.cores view.recorded.journal.notes

-- what a worker knows of its seat beside it: how many cores there are, with how few free notes its journal is short, and whether the core closed by itself
pub record KnowsSeat {J : Type 0} (cores least : ℕ) (alone : Bool) (view : LinkedView J ℕ) : Type 0 where
  pub cores_are : cores ≡ view.recorded.core.cores
  pub least_is : least ≡ least_free view.recorded.core.cores view.recorded.cap view.recorded.core.bursts.burst
  pub tells : TellsAlone alone view.recorded.journal.notes

module _ {J T S : Type 0} (refused : S → ℕ → Type 0) where
  -- The core never closed by itself; or the sink refused when it had so many notes, and the core closed by itself only where the journal, with these notes passed
  -- on, was short. It posted only while it polled.
  abbrev pub ActsUnlessRefused : S → RecordedView J T → Type 0
  ActsUnlessRefused sink view =
      ActsByCommand view.journal.notes
      ⊎ ((taken : ℕ) × refused sink taken × EachNote (MayAct (least_free view.core.cores view.cap view.core.bursts.burst) (taken + places_of view.journal)) view.journal.notes)

module _ {J T S : Type 0} (meaning : Meaning J T) (has : S → Journal T) (refused : S → ℕ → Type 0) where
  -- The core is drained, and the sink has the notes that were passed on: all of them, unless it refused the rest. The core closed by itself only if the sink
  -- refused and the journal was short. The numbers of the whole journal were published last, unless they can't be published.
  pub record HasEnded (view : EndedView J T S) : Type 0 where
    pub drained : HasDrained meaning view.linked
    pub passed : has view.sink ≡ view.linked.recorded.journal.passed
    pub rest : (view.linked.recorded.journal.passed ≡ view.linked.recorded.journal.notes) ⊎ refused view.sink (length view.linked.recorded.journal.passed)
    pub acts : ActsUnlessRefused refused view.sink view.linked.recorded
    pub shows : IsShownWhole view.linked.recorded view.shown

  -- a core whose sink never refused never closed by itself
  abbrev pub NeverRefusedActs : Type 0
  NeverRefusedActs = (view : EndedView J T S) → HasEnded view → ((count : ℕ) → refused view.sink count → ⊥) → ActsByCommand view.linked.recorded.journal.notes
