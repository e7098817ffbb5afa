-- What a pick does: it takes the first job of the right queue out, or hands it back.
use Rattle.std.specs.Prelude.{◌≡◌, ◌⊎◌, ℕ, ◌+◌, ◌-◌, ◌^◌, max, List, [], ◌∷◌, slice_set, Bool, true, false, Some, None, Result, Ok, Err}
use Rattle.base_words.specs.declared.names.JobId.{JobId}
use Rattle.base_words.specs.declared.note.Note.{Note}
use Rattle.base_words.specs.declared.note.Note.TheVariants as notes
use Rattle.base_words.specs.declared.order.Order.TheVariants.{Job}
use Rattle.base_words.specs.Keys.{KeyAtMost}
use Rattle.core_queues.specs.Queues.{Marks, waiting_of, ChangesLine}
use Rattle.core_core.specs.declared.turn.Turn.{Turn}
use Rattle.core_core.specs.declared.turn.Turn.TheVariants.{Start, Resume, Back, Idle}
use Rattle.core_core.specs.declared.turn.PickError.{PickError}
use Rattle.core_core.specs.declared.turn.PickError.TheVariants.{Busy, Spent}
use Rattle.core_core.specs.State.{CoreView, tally_of, runtime_of}
use Rattle.core_core.specs.Bursts.{begun}
use Rattle.core_core.specs.Closing.{return_reason}

module _ {J : Type 0} where
  -- the queue has a job at the head, and no queue with a job has a lesser pair (virtual runtime, number)
  pub record IsNext (view : CoreView J) (queue : ℕ) : Type 0 where
    pub free : view.out ≡ None
    pub no_turn : view.bursts.open ≡ None
    pub least : (other : ℕ) → (waiting_of other view.queues ≡ [] → ⊥) → KeyAtMost (runtime_of queue view) queue (runtime_of other view) other

  -- the head of the next queue goes out, with the wake that is kept, and its turn opens where a note of its own ends it
  pub record TakesOut (old : CoreView J) (name : JobId) (queue : ℕ) (was_started : Bool) (job : J) (new : CoreView J) : Type 0 where
    pub next : IsNext old queue
    pub was_woken : Bool
    pub others : List (JobId × Marks × J)
    pub first : waiting_of queue old.queues ≡ (name, record { started = was_started; woken = was_woken }, job) ∷ others
    pub line : ChangesLine old.queues new.queues queue others
    pub rest : new ≡ record old {
      queues = new.queues;
      tallies = slice_set old.tallies queue (record (tally_of queue old) { selected = (tally_of queue old).selected + 1 });
      floor = max old.floor (runtime_of queue old);
      turns = old.turns + 1;
      out = Some (record { name = name; queue = queue; woken = was_woken; job = job });
      bursts = begun queue old.bursts;
    }

  -- the head of the next queue is handed back; that is a turn, nothing is charged, and no turn opens
  pub record HandsBack (old : CoreView J) (name : JobId) (queue : ℕ) (job : J) (new : CoreView J) : Type 0 where
    pub next : IsNext old queue
    pub marks : Marks
    pub others : List (JobId × Marks × J)
    pub first : waiting_of queue old.queues ≡ (name, marks, job) ∷ others
    pub line : ChangesLine old.queues new.queues queue others
    pub rest : new ≡ record old {
      queues = new.queues;
      tallies = slice_set old.tallies queue (record (tally_of queue old) {
        selected = (tally_of queue old).selected + 1;
        returned = (tally_of queue old).returned + 1;
      });
      floor = max old.floor (runtime_of queue old);
      turns = old.turns + 1;
    }

module _ {J T : Type 0} where
  -- what a pick does, by what it answers, with its notes in their order
  abbrev pub Picks : CoreView J → Result (Turn J) PickError → CoreView J → List (Note T) → Type 0
  Picks old (Ok (Start name queue job)) new written =
      TakesOut old name queue false job new × (return_reason queue old ≡ None) × (written ≡ notes.Pick queue (runtime_of queue old) ∷ notes.Start name ∷ [])
  Picks old (Ok (Resume name queue job)) new written =
      TakesOut old name queue true job new × (return_reason queue old ≡ None) × (written ≡ notes.Pick queue (runtime_of queue old) ∷ notes.Resume name ∷ [])
  Picks old (Ok (Back name (Job queue job) reason)) new written =
      HandsBack old name queue job new × (return_reason queue old ≡ Some reason)
      × (written ≡ notes.Pick queue (runtime_of queue old) ∷ notes.Returned name reason ∷ [])
  Picks old (Ok (Back name order reason)) new written = ⊥
  Picks old (Ok Idle) new written =
      (old.out ≡ None) × (old.bursts.open ≡ None) × ((queue : ℕ) → waiting_of queue old.queues ≡ []) × (new ≡ old) × (written ≡ [])
  -- a job that is out, or an open turn, comes before turns that are used up
  Picks old (Err Busy) new written = ((old.out ≡ None → ⊥) ⊎ (old.bursts.open ≡ None → ⊥)) × (new ≡ old) × (written ≡ [])
  Picks old (Err Spent) new written =
      (old.out ≡ None) × (old.bursts.open ≡ None) × (old.turns ≡ 2 ^ 64 - 1) × ((queue : ℕ) × (waiting_of queue old.queues ≡ [] → ⊥)) × (new ≡ old) × (written ≡ [])
