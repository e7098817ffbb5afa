-- What the parts of a turn do, and of a delivery.
use Rattle.std.specs.Prelude.{◌≡◌, ℕ, ◌+◌, ◌++◌, Bool, true, false, Some, None, List, [], ◌∷◌, slice_set}
use Rattle.base_words.specs.declared.names.JobId.{JobId}
use Rattle.base_words.specs.declared.note.Note.{Note}
use Rattle.base_words.specs.declared.note.Note.TheVariants as notes
use Rattle.core_core.specs.declared.tally.Tally.{Tally}
use Rattle.core_queues.specs.Queues.{waiting_of, parked_of, ChangesLine}
use Rattle.core_queues.specs.Parks.{ChangesParks}
use Rattle.core_core.specs.State.{CoreView, JobOut, tally_of}
use Rattle.core_core.specs.Settling.{stays, settled_view}
use Rattle.core_core.specs.declared.turn.Settled.{Settled}
use Rattle.core_core.specs.declared.turn.Settled.TheVariants.{Parked, Stayed}

module _ {J : Type 0} where
  -- the job that was out goes to the tail of its queue, as started, and with a wake that is kept or with none; its poll is charged
  pub record RejoinsOut (old : CoreView J) (name : JobId) (woken : Bool) (job : J) (time : ℕ) (new : CoreView J) : Type 0 where
    pub out : JobOut J
    pub was_out : old.out ≡ Some out
    pub named : name ≡ out.name
    pub line : ChangesLine old.queues new.queues out.queue (waiting_of out.queue old.queues ++ (name, record { started = true; woken = woken }, job) ∷ [])
    pub rest : new ≡ settled_view old out time 0 new.queues

  -- the job that was out is parked, behind those of its queue that are, and its poll is charged
  pub record ParksOut (old : CoreView J) (name : JobId) (job : J) (time : ℕ) (new : CoreView J) : Type 0 where
    pub out : JobOut J
    pub was_out : old.out ≡ Some out
    pub named : name ≡ out.name
    pub parks : ChangesParks old.queues new.queues out.queue (parked_of out.queue old.queues ++ (name, job) ∷ [])
    pub rest : new ≡ settled_view old out time 0 new.queues

  -- the job that is out has this name and is of this queue
  abbrev pub IsOut : CoreView J → JobId → ℕ → Type 0
  IsOut view name queue = (out : JobOut J) × (view.out ≡ Some out) × (name ≡ out.name) × (queue ≡ out.queue)

  -- the job that is out is of this queue
  abbrev pub IsOutOf : CoreView J → ℕ → Type 0
  IsOutOf view queue = (out : JobOut J) × (view.out ≡ Some out) × (queue ≡ out.queue)

  -- the job that was out leaves for good, this is counted of its queue from then on, and no turn is open
  abbrev pub LeavesOut : CoreView J → ℕ → Tally → CoreView J → Type 0
  LeavesOut old queue tally new =
      new ≡ record old { tallies = slice_set old.tallies queue tally; out = None; bursts = record (old.bursts) { «open» = None } }

  -- the job that was out is handed back, nothing is charged, and no turn is open
  pub record ReturnsOut (old : CoreView J) (new : CoreView J) : Type 0 where
    pub out : JobOut J
    pub was_out : old.out ≡ Some out
    pub rest : new ≡ record old {
      tallies = slice_set old.tallies out.queue (record (tally_of out.queue old) { returned = (tally_of out.queue old).returned + 1 });
      out = None;
      bursts = record (old.bursts) { «open» = None };
    }

  -- the job that was out is done, and its poll is charged
  pub record FinishesOut (old : CoreView J) (name : JobId) (time : ℕ) (new : CoreView J) : Type 0 where
    pub out : JobOut J
    pub was_out : old.out ≡ Some out
    pub named : name ≡ out.name
    pub rest : new ≡ settled_view old out time 1 old.queues

module _ {J T : Type 0} where
  -- the job that was out asks to be parked: it is, or stays in its line with no wake, by what that came to, with its note
  abbrev pub RestsOut : CoreView J → J → ℕ → Settled T → CoreView J → List (Note T) → Type 0
  RestsOut old job time Parked new written =
      (name : JobId) × (parks : ParksOut old name job time new) × (stays parks.out old ≡ false) × (written ≡ notes.Park name time ∷ [])
  RestsOut old job time Stayed new written =
      (name : JobId) × (rejoins : RejoinsOut old name false job time new) × (stays rejoins.out old ≡ true) × (written ≡ notes.Stayed name time ∷ [])
  RestsOut old job time settled new written = ⊥
