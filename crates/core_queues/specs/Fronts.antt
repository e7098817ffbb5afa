-- What a poll of the job at the head of a line does, and what a turn of the line does.
use Rattle.std.specs.Prelude.{◌≡◌, ℕ, Bool, true, false, Option, List, [], ◌∷◌, ◌++◌}
use Rattle.slab.specs.Slab.{Slab}
use Rattle.base_words.specs.declared.names.JobId.{JobId}
use Rattle.base_jobs.specs.Calls.{Call, Doing, Makes}
use Rattle.base_jobs.specs.declared.job.Step.{Step}
use Rattle.base_jobs.specs.declared.job.Step.TheVariants as steps
use Rattle.base_jobs.specs.Ready.{IsReady}
use Rattle.base_jobs.specs.Meanings.{Meaning}
use Rattle.base_jobs.specs.Steps.{AfterPoll, IfDone, IfUndone, OwesOn, is_done_step}
use Rattle.core_queues.specs.declared.waiting.Waiting.{Waiting}
use Rattle.core_queues.specs.Entries.{Renews}
use Rattle.core_queues.specs.View.{Marks, Line, QueuesView, waiting_of, parked_of, awake, IsWithinLimits}
use Rattle.core_queues.specs.Queues.{ChangesLine}
use Rattle.core_queues.specs.Parks.{ChangesParks}

-- a poll made these calls of its post, one after another, and this holds of them
abbrev pub MakesCalls : {P J T : Type 0} → Doing P J T → P → P → (List (Call J T) → Type 0) → Type 0
MakesCalls {P} {J} {T} does old new fact = (calls : List (Call J T)) × Makes does calls old new × fact calls

-- one poll of a job, with the calls that it made of its post: what it owes, and what the job is from then on
pub record IsPolled {J T : Type 0} (meaning : Meaning J T) (calls : List (Call J T)) (ran : AfterPoll J T) : Type 0 where
  pub owed : meaning.polls ran.before (meaning.made ran.before) calls ran.step ran.told
  pub answered : IfDone ran.step (meaning.answers ran.before)
  pub task : IfUndone ran.step (meaning.same ran.before ran.job)
  pub later : IfUndone ran.step (OwesOn meaning ran.before ran.job)
  pub ready : IfUndone ran.step (meaning.can_poll ran.job)
  pub ended : meaning.done ran.job ≡ is_done_step ran.step

module _ {J : Type 0} where
  -- this job stands at the head of the line
  abbrev pub HasFront : QueuesView J → ℕ → JobId → Marks → Type 0
  HasFront view queue name marks = (job : J) × (others : Line J) × (waiting_of queue view ≡ (name, marks, job) ∷ others)

  -- a line has a head, and its job may be polled
  abbrev pub IsFrontReady : {T : Type 0} → Meaning J T → Line J → Type 0
  IsFrontReady meaning [] = ⊥
  IsFrontReady meaning (waiting ∷ others) = IsReady meaning waiting.2

  -- the head of a line leaves it, and joins it again at the tail, as started
  pub record TurnsLine (old new : QueuesView J) (queue : ℕ) : Type 0 where
    pub name : JobId
    pub marks : Marks
    pub job : J
    pub between : QueuesView J
    pub first : waiting_of queue old ≡ (name, marks, job) ∷ waiting_of queue between
    pub leaves : ChangesLine old between queue (waiting_of queue between)
    pub limits : IsWithinLimits between
    pub joins : ChangesLine between new queue (waiting_of queue between ++ (name, record marks { started = true }, job) ∷ [])

  -- a job that asks to be parked stays, and uses up its wake, or is parked
  abbrev pub ParksOrStays : Bool → QueuesView J → ℕ → JobId → J → QueuesView J → Type 0
  ParksOrStays true between queue name job new = ChangesLine between new queue (waiting_of queue between ++ awake (name, job) ∷ [])
  ParksOrStays false between queue name job new = ChangesParks between new queue (parked_of queue between ++ (name, job) ∷ [])

  -- the head of a line leaves it, and is parked, or stays if a wake of it is kept
  pub record RestsFront (old new : QueuesView J) (queue : ℕ) : Type 0 where
    pub name : JobId
    pub marks : Marks
    pub job : J
    pub between : QueuesView J
    pub first : waiting_of queue old ≡ (name, marks, job) ∷ waiting_of queue between
    pub leaves : ChangesLine old between queue (waiting_of queue between)
    pub limits : IsWithinLimits between
    pub rests : ParksOrStays marks.woken between queue name job new

  -- a job that wants another poll joins its line again at the tail, as started, with the wake that is kept; one that asks to be parked is, or stays; one that is done is gone
  abbrev pub JoinsAgain : {T : Type 0} → Step T → QueuesView J → ℕ → JobId → Marks → J → QueuesView J → Type 0
  JoinsAgain steps.Yield between queue name marks job new = ChangesLine between new queue (waiting_of queue between ++ (name, record marks { started = true }, job) ∷ [])
  JoinsAgain steps.Park between queue name marks job new = ParksOrStays marks.woken between queue name job new
  JoinsAgain (steps.Done out) between queue name marks job new = new ≡ between

module _ {J T : Type 0} (meaning : Meaning J T) where
  -- the job of an entry is polled where it stands
  pub record PollsAt (old : Slab (Waiting J)) (key : ℕ) (calls : List (Call J T)) (step : Step T) (told : Option ℕ) (new : Slab (Waiting J)) : Type 0 where
    pub front : Waiting J
    pub job : J
    pub renews : Renews old key front job new
    pub polled : IsPolled meaning calls (record { job = job; step = step; told = told; before = front.job })

  -- the job at the head of a line is polled where it stands, and nothing else changes
  pub record PollsFront (old : QueuesView J) (queue : ℕ) (calls : List (Call J T)) (step : Step T) (told : Option ℕ) (new : QueuesView J) : Type 0 where
    pub name : JobId
    pub marks : Marks
    pub was : J
    pub job : J
    pub others : Line J
    pub first : waiting_of queue old ≡ (name, marks, was) ∷ others
    pub line : ChangesLine old new queue ((name, marks, job) ∷ others)
    pub polled : IsPolled meaning calls (record { job = job; step = step; told = told; before = was })

  -- a whole turn of a line: its head leaves it and is polled once, and joins it again if it wants another poll, or is parked
  pub record TurnsFront (old : QueuesView J) (queue : ℕ) (calls : List (Call J T)) (step : Step T) (told : Option ℕ) (new : QueuesView J) : Type 0 where
    pub name : JobId
    pub marks : Marks
    pub was : J
    pub job : J
    pub between : QueuesView J
    pub first : waiting_of queue old ≡ (name, marks, was) ∷ waiting_of queue between
    pub leaves : ChangesLine old between queue (waiting_of queue between)
    pub limits : IsWithinLimits between
    pub polled : IsPolled meaning calls (record { job = job; step = step; told = told; before = was })
    pub joins : JoinsAgain step between queue name marks job new
