-- When a worker passes on the notes that its journal keeps, and what that changes.
use Rattle.std.specs.Prelude.{◌≡◌, ◌⊎◌, ℕ, ◌-◌, ◌*◌, ◌<◌, ◌≤◌, true, false, length, Result}
use Rattle.base_words.specs.Journal.{Journal}
use Rattle.actor_core.specs.Recorded.{RecordedView}
use Rattle.note_journal.specs.Journals.{JournalView, free_notes, places_of}
use Rattle.note_journal.specs.Passing.{IsAsked, KeepsRefusals, PassesOn}
use Rattle.note_journal.specs.declared.sink.Refused.{Refused}
use Rattle.note_journal.specs.declared.sink.Sink as taking
use Rattle.run_worker.specs.Ended.{ServedView}
use Rattle.actor_seat.specs.Linked.{LinkedView}
use Rattle.run_worker.specs.Rooms.{least_free}
use Rattle.run_worker.specs.Workers.{WorkerView}

-- how many notes a journal keeps
abbrev pub kept_notes : {T : Type 0} → JournalView T → ℕ
kept_notes journal = length journal.notes - length journal.passed

module _ {J T : Type 0} where
  -- as many notes may be kept as two rounds may write
  abbrev pub HasPlaces : RecordedView J T → Type 0
  HasPlaces view = 2 * least_free view.core.cores view.cap view.core.bursts.burst ≤ places_of view.journal

  -- fewer notes are free than two rounds may write, or half the places are used
  abbrev pub IsLow : RecordedView J T → Type 0
  IsLow view = (free_notes view.journal < 2 * least_free view.core.cores view.cap view.core.bursts.burst) ⊎ (places_of view.journal ≤ 2 * kept_notes view.journal)

  -- before a round notes are due where the journal is low, unless the worker is at its end
  abbrev pub IsDue : ServedView J T → Type 0
  IsDue view = (view.ending ≡ false) × IsLow view.linked.recorded

  -- before a rest they are due where one is kept, unless the worker is at its end
  abbrev pub IsDueAtRest : ServedView J T → Type 0
  IsDueAtRest view = (view.ending ≡ false) × (length view.linked.recorded.journal.passed < length view.linked.recorded.journal.notes)

module _ {J T S : Type 0} (has : S → Journal T) (refused : S → ℕ → Type 0) where
  -- The sink has what was passed on, and there are places for two rounds. The worker is at its end only if the sink refused what was kept by then.
  pub record PassesTo (served : ServedView J T) (sink : S) : Type 0 where
    pub passed : has sink ≡ served.linked.recorded.journal.passed
    pub places : HasPlaces served.linked.recorded
    pub refuses : served.ending ≡ true → refused sink (length served.linked.recorded.journal.passed)

  -- before a round or a rest: as many notes are free as two rounds may write, or the sink refused what is kept
  abbrev pub IsSupplied : ServedView J T → S → Type 0
  IsSupplied served sink =
      (2 * least_free served.linked.recorded.core.cores served.linked.recorded.cap served.linked.recorded.core.bursts.burst ≤ free_notes served.linked.recorded.journal)
      ⊎ refused sink (length served.linked.recorded.journal.passed)

module _ {J S : Type 0} (takes : taking.Ghosts S) where
  -- All notes that are kept are handed to the sink, which is asked once, and takes them or refuses. It bears the same mark. Nothing else changes.
  pub record HandsOn (old : LinkedView J ℕ) (before : S) (new : LinkedView J ℕ) (after : S) : Type 0 where
    pub answer : Result (Unit {0}) Refused
    pub passes : PassesOn takes.has takes.refused old.recorded.journal before answer new.recorded.journal after
    pub refusals : KeepsRefusals takes.refused before after
    pub asked : IsAsked (takes.asks before) (takes.asks after)
    pub marked : takes.mark after ≡ takes.mark before
    pub rest : new ≡ record old { recorded = record old.recorded { journal = new.recorded.journal } }

  -- where it is due, what is kept is handed to the sink and nothing else is done; where it isn't, nothing is done
  abbrev pub HandsOnWhere : {C G : Type 0} → Type 0 → WorkerView J ℕ C G S → WorkerView J ℕ C G S → Type 0
  HandsOnWhere due old new =
      (due × HandsOn old.linked old.sink new.linked new.sink × (new ≡ record old { linked = new.linked; sink = new.sink })) ⊎ ((due → ⊥) × (new ≡ old))
