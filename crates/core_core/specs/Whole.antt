-- The first poll of a turn with the job in its place: it does what a pick of the job, one poll of it and the settling of that poll do.
use Rattle.std.specs.Prelude.{◌≡◌, ◌⊎◌, ℕ, ◌-◌, ◌^◌, ◌<◌, Bool, true, false, unwrap_or, None, Result, Ok, Err, List, [], ◌∷◌}
use Rattle.base_words.specs.declared.names.JobId.{JobId}
use Rattle.base_words.specs.declared.note.Note.{Note}
use Rattle.base_words.specs.declared.note.Note.TheVariants as notes
use Rattle.base_jobs.specs.Calls.{Call}
use Rattle.base_jobs.specs.declared.job.Step.{Step}
use Rattle.base_jobs.specs.declared.job.Step.TheVariants as steps
use Rattle.base_jobs.specs.Meanings.{Meaning}
use Rattle.base_jobs.specs.Steps.{AfterPoll}
use Rattle.core_queues.specs.Queues.{waiting_of}
use Rattle.core_queues.specs.Fronts.{IsPolled, HasFront}
use Rattle.core_core.specs.declared.turn.Ahead.{Ahead}
use Rattle.core_core.specs.declared.turn.Ahead.TheVariants as ahead
use Rattle.core_core.specs.declared.turn.PickError.{PickError}
use Rattle.core_core.specs.declared.turn.PickError.TheVariants.{Busy, Spent}
use Rattle.core_core.specs.declared.turn.Turn.{Turn}
use Rattle.core_core.specs.declared.turn.Turn.TheVariants.{Start, Resume}
use Rattle.core_core.specs.declared.turn.Settled.{Settled}
use Rattle.core_core.specs.declared.turn.Settled.TheVariants.{Yielded, Parked, Stayed, Finished}
use Rattle.core_core.specs.State.{CoreView, runtime_of}
use Rattle.core_core.specs.Closing.{return_reason}
use Rattle.core_core.specs.Settling.{SettlesOut}
use Rattle.core_core.specs.Turns.{IsNext, TakesOut, Picks}
use Rattle.core_core.specs.Steps.{RejoinsOut, ParksOut, FinishesOut}

module _ {J : Type 0} where
  -- the turn of a job that goes out, for its first poll or for a further one
  abbrev pub goes_out : JobId → ℕ → Bool → J → Turn J
  goes_out name queue false job = Start name queue job
  goes_out name queue true job = Resume name queue job

  -- the job that the next pick takes out: its queue, where the queue stands, its name, whether it was started, and whether a wake of it is kept
  pub record IsAhead (view : CoreView J) (queue vr : ℕ) (name : JobId) (started woken : Bool) : Type 0 where
    pub next : IsNext view queue
    pub stands : vr ≡ runtime_of queue view
    pub front : HasFront view.queues queue name (record { started = started; woken = woken })
    pub kept : return_reason queue view ≡ None
    pub left : view.turns < 2 ^ 64 - 1

  -- what the next pick would come to, told before it is made; a job that is out, or an open turn, comes before turns that are used up
  abbrev pub TellsAhead : CoreView J → Result Ahead PickError → Type 0
  TellsAhead view (Ok (ahead.Job next)) = IsAhead view next.queue next.vr next.name next.started next.woken
  TellsAhead view (Ok ahead.Back) = (queue : ℕ) × IsNext view queue × (waiting_of queue view.queues ≡ [] → ⊥) × (return_reason queue view ≡ None → ⊥) × (view.turns < 2 ^ 64 - 1)
  TellsAhead view (Ok ahead.Idle) = (view.out ≡ None) × (view.bursts.open ≡ None) × ((queue : ℕ) → waiting_of queue view.queues ≡ [])
  TellsAhead view (Err Busy) = (view.out ≡ None → ⊥) ⊎ (view.bursts.open ≡ None → ⊥)
  TellsAhead view (Err Spent) = (view.out ≡ None) × (view.bursts.open ≡ None) × (view.turns ≡ 2 ^ 64 - 1) × ((queue : ℕ) × (waiting_of queue view.queues ≡ [] → ⊥))

module _ {T : Type 0} where
  -- the notes of the pick of a job
  abbrev pub pick_notes : ℕ → ℕ → JobId → Bool → List (Note T)
  pick_notes queue vr name false = notes.Pick queue vr ∷ notes.Start name ∷ []
  pick_notes queue vr name true = notes.Pick queue vr ∷ notes.Resume name ∷ []

  -- what a settled poll came to, by its step and by whether a park leaves the job in its line, and its note
  abbrev pub settled_of : Step T → Bool → Settled T
  settled_of steps.Yield stays = Yielded
  settled_of steps.Park true = Stayed
  settled_of steps.Park false = Parked
  settled_of (steps.Done out) stays = Finished out

  abbrev pub settle_notes : JobId → ℕ → Step T → Bool → List (Note T)
  settle_notes name time steps.Yield stays = notes.Yield name time ∷ []
  settle_notes name time steps.Park true = notes.Stayed name time ∷ []
  settle_notes name time steps.Park false = notes.Park name time ∷ []
  settle_notes name time (steps.Done out) stays = notes.Done name time out ∷ []

module _ {J T : Type 0} where
  -- the poll of the job that was out is settled, by its step and by whether a wake of the job is kept
  abbrev pub SettlesStep : Step T → Bool → CoreView J → JobId → J → ℕ → CoreView J → Type 0
  SettlesStep steps.Yield woken mid name job time new = RejoinsOut mid name woken job time new
  SettlesStep steps.Park true mid name job time new = RejoinsOut mid name false job time new
  SettlesStep steps.Park false mid name job time new = ParksOut mid name job time new
  SettlesStep (steps.Done out) woken mid name job time new = FinishesOut mid name time new

module _ {J T : Type 0} (meaning : Meaning J T) where
  -- the job is picked, polled once with these calls of its post, and settled; the notes of the pick and of the settling are those of the two calls
  pub record TurnsWhole (old : CoreView J) (spent : ℕ) (calls : List (Call J T)) (name : JobId) (queue : ℕ) (started : Bool) (picked : List (Note T)) (settled : Settled T) (written : List (Note T)) (new : CoreView J) : Type 0 where
    pub mid : CoreView J
    pub ran : AfterPoll J T
    pub picks : Picks old (Ok (goes_out name queue started ran.before)) mid picked
    pub polled : IsPolled meaning calls ran
    pub settles : SettlesOut mid ran spent settled new written

  -- the state of such a turn: the next job goes out, and its poll is settled, with the time that counts
  pub record TurnsFirst (old : CoreView J) (spent : ℕ) (calls : List (Call J T)) (step : Step T) (time : ℕ) (new : CoreView J) : Type 0 where
    pub name : JobId
    pub queue : ℕ
    pub started : Bool
    pub mid : CoreView J
    pub ran : AfterPoll J T
    pub takes : TakesOut old name queue started ran.before mid
    pub polled : IsPolled meaning calls ran
    pub stepped : ran.step ≡ step
    pub counts : time ≡ unwrap_or ran.told spent
    pub settles : SettlesStep step takes.was_woken mid name ran.job time new
