-- What a delivery does: a job enters its queue or goes back, a command is carried out and answered.
use Rattle.std.specs.Prelude.{◌≡◌, ◌≢◌, ℕ, ◌<◌, ◌≤◌, List, [], ◌∷◌, ◌++◌, slice_set, true, false, Some, None, Result, Ok, Err}
use Rattle.base_words.specs.declared.names.JobId.{JobId}
use Rattle.base_words.specs.declared.note.Note.{Note}
use Rattle.base_words.specs.declared.note.Note.TheVariants as notes
use Rattle.base_words.specs.declared.order.Order.{Order}
use Rattle.base_words.specs.declared.order.Order.TheVariants.{Job, Create, SetShares, Close, CloseCore, Wake}
use Rattle.base_words.specs.declared.order.Answer.TheVariants as answers
use Rattle.base_words.specs.Commands.{job_at}
use Rattle.base_words.specs.Limits.{most_queues}
use Rattle.core_queues.specs.declared.queues.CreateError.{CreateError}
use Rattle.core_queues.specs.declared.queues.CreateError.TheVariants.{TooMany, Memory}
use Rattle.core_queues.specs.Queues.{queue_count, waiting_of, ChangesLine, ChangesShares, AddsQueue}
use Rattle.core_core.specs.declared.delivery.Delivered.{Delivered}
use Rattle.core_core.specs.declared.delivery.Delivered.TheVariants.{Took, Back, Answered}
use Rattle.core_core.specs.State.{CoreView, no_tally, tally_of, entry_runtime}
use Rattle.core_core.specs.Closing.{refusal, ClosesQueue, ClosesCore}
use Rattle.core_core.specs.Waking.{Wakes}

module _ {J : Type 0} where
  -- the delivery is counted
  abbrev pub counted : JobId → CoreView J → List ℕ
  counted name view = slice_set view.delivered name.from name.number

  -- the job enters at the tail, and the queue is placed
  pub record Enters (old : CoreView J) (name : JobId) (queue : ℕ) (job : J) (new : CoreView J) : Type 0 where
    pub exists : queue < queue_count old.queues
    pub line : ChangesLine old.queues new.queues queue (waiting_of queue old.queues ++ (name, record { started = false; woken = false }, job) ∷ [])
    pub rest : new ≡ record old {
      queues = new.queues;
      tallies = slice_set old.tallies queue (record (tally_of queue old) { runtime = entry_runtime queue old });
      delivered = counted name old;
    }

  -- a queue is made in an open core, with the next number and no job
  pub record Creates (old : CoreView J) (weight : ℕ) (new : CoreView J) : Type 0 where
    pub is_open : old.mode ≡ None
    pub few : queue_count old.queues < most_queues
    pub added : AddsQueue old.queues new.queues (queue_count old.queues) weight
    pub rest : new ≡ record old { queues = new.queues; tallies = old.tallies ++ no_tally ∷ []; delivered = new.delivered }

  -- a queue gets shares
  pub record Weighs (old : CoreView J) (queue weight : ℕ) (new : CoreView J) : Type 0 where
    pub exists : queue < queue_count old.queues
    pub shares : ChangesShares old.queues new.queues queue weight
    pub rest : new ≡ record old { queues = new.queues; delivered = new.delivered }

  -- the delivery is counted, and nothing else changes
  abbrev pub CountsAlone : CoreView J → JobId → CoreView J → Type 0
  CountsAlone old name new = new ≡ record old { delivered = counted name old }

module _ {J T : Type 0} where
  -- what a creation does, by what it answers, with its notes
  abbrev pub CreatesQueue : CoreView J → ℕ → Result ℕ CreateError → CoreView J → List (Note T) → Type 0
  CreatesQueue old weight (Ok queue) new written =
      (queue ≡ queue_count old.queues) × Creates old weight new × (new.delivered ≡ old.delivered) × (written ≡ notes.Created queue weight ∷ [])
  CreatesQueue old weight (Err TooMany) new written = (queue_count old.queues ≡ most_queues) × (new ≡ old) × (written ≡ [])
  CreatesQueue old weight (Err Memory) new written = (queue_count old.queues < most_queues) × (new ≡ old) × (written ≡ [])

  -- what a delivery does to the core, by what it answers, with its notes in their order
  abbrev pub Delivers : CoreView J → JobId → Order J → Delivered J → CoreView J → List (Note T) → Type 0
  Delivers old name (Job queue job) Took new written =
      (refusal queue old ≡ None) × Enters old name queue job new × (written ≡ notes.Took name queue ∷ [])
  Delivers old name (Job queue job) (Back reason order) new written =
      (refusal queue old ≡ Some reason) × (order ≡ Job queue job)
      × CountsAlone old name new × (written ≡ notes.Back name reason ∷ [])
  Delivers old name (Create weight) (Answered (answers.Created queue)) new written =
      (queue ≡ queue_count old.queues) × Creates old weight new × (new.delivered ≡ counted name old)
      × (written ≡ notes.Answered name (answers.Created queue) ∷ notes.Created queue weight ∷ [])
  -- a closed core says so; else one that has 256 queues does; else there was no memory
  Delivers old name (Create weight) (Answered answers.CoreClosing) new written =
      (old.mode ≢ None) × CountsAlone old name new × (written ≡ notes.Answered name answers.CoreClosing ∷ [])
  Delivers old name (Create weight) (Answered answers.TooMany) new written =
      (old.mode ≡ None) × (queue_count old.queues ≡ most_queues) × CountsAlone old name new × (written ≡ notes.Answered name answers.TooMany ∷ [])
  Delivers old name (Create weight) (Answered answers.NoMemory) new written =
      (old.mode ≡ None) × (queue_count old.queues < most_queues) × CountsAlone old name new × (written ≡ notes.Answered name answers.NoMemory ∷ [])
  Delivers old name (SetShares queue weight) (Answered answers.SharesSet) new written =
      Weighs old queue weight new × (new.delivered ≡ counted name old)
      × (written ≡ notes.Answered name answers.SharesSet ∷ notes.SharesSet queue weight ∷ [])
  Delivers old name (SetShares queue weight) (Answered answers.NoQueue) new written =
      (queue_count old.queues ≤ queue) × CountsAlone old name new × (written ≡ notes.Answered name answers.NoQueue ∷ [])
  -- a closing is counted, and then done as by a call, with its note behind the answer
  Delivers old name (Close queue mode) (Answered answer) new written =
      (effect : List (Note T)) × ClosesQueue (record old { delivered = counted name old }) queue mode answer new effect
      × (written ≡ notes.Answered name answer ∷ effect)
  Delivers old name (CloseCore mode) (Answered answers.Closed) new written =
      (effect : List (Note T)) × ClosesCore (record old { delivered = counted name old }) mode true new effect
      × (written ≡ notes.Answered name answers.Closed ∷ effect)
  Delivers old name (CloseCore mode) (Answered answers.AlreadyClosed) new written =
      (effect : List (Note T)) × ClosesCore (record old { delivered = counted name old }) mode false new effect
      × (written ≡ notes.Answered name answers.AlreadyClosed ∷ effect)
  -- a wake is counted, and then names a job of this core by its sender and number
  Delivers old name (Wake actor number) (Answered answers.Woken) new written =
      Wakes (record old { delivered = counted name old }) (job_at old.core actor number) true new
      × (written ≡ notes.Answered name answers.Woken ∷ notes.Woken (job_at old.core actor number) ∷ [])
  Delivers old name (Wake actor number) (Answered answers.NoJob) new written =
      Wakes (record old { delivered = counted name old }) (job_at old.core actor number) false new
      × (written ≡ notes.Answered name answers.NoJob ∷ [])
  Delivers old name order delivered new written = ⊥
