-- What settling the poll of the job that was out does, by the poll's step.
use Rattle.std.specs.Prelude.{◌≡◌, ℕ, ◌||◌, List, [], ◌∷◌, ◌++◌, slice_set, Bool, true, false, Some, None, is_some, unwrap_or}
use Rattle.base_words.specs.declared.note.Note.{Note}
use Rattle.base_words.specs.declared.note.Note.TheVariants as notes
use Rattle.base_jobs.specs.declared.job.Step.{Step}
use Rattle.base_jobs.specs.declared.job.Step.TheVariants as step
use Rattle.base_jobs.specs.Steps.{AfterPoll}
use Rattle.core_queues.specs.Queues.{QueuesView, waiting_of, parked_of, shares_of, awake, ChangesLine}
use Rattle.core_queues.specs.Parks.{ChangesParks}
use Rattle.core_core.specs.declared.turn.Settled.{Settled}
use Rattle.core_core.specs.declared.turn.Settled.TheVariants.{Yielded, Parked, Stayed, Finished}
use Rattle.core_core.specs.State.{CoreView, JobOut, tally_of}
use Rattle.core_core.specs.Bursts.{lasted, settled_tally}
use Rattle.core_core.specs.Closing.{return_reason}

module _ {J : Type 0} where
  -- whether a job that is out and asks to be parked stays in its line: a wake of it is kept, or its queue or the core hands back what is inside
  abbrev pub stays : JobOut J → CoreView J → Bool
  stays job view = job.woken || is_some (return_reason job.queue view)

  -- the queue of the job that was out is charged for the time, under the shares that it has now; in an open turn that waits for the end of the turn
  abbrev pub settled_view : CoreView J → JobOut J → ℕ → ℕ → QueuesView J → CoreView J
  settled_view old job time done queues = record old {
    queues = queues;
    tallies = slice_set old.tallies job.queue (settled_tally old.bursts.open time (shares_of job.queue old.queues) done (tally_of job.queue old));
    out = None;
    bursts = record (old.bursts) { «open» = lasted time old.bursts.open };
  }

module _ {J T : Type 0} where
  -- what settling the poll of the job that was out does, by the poll's step; the told time counts, else the time handed in
  abbrev pub Settles : CoreView J → JobOut J → AfterPoll J T → ℕ → Step T → Settled T → CoreView J → List (Note T) → Type 0
  Settles old job ran spent step.Yield Yielded new written =
      ChangesLine old.queues new.queues job.queue (waiting_of job.queue old.queues ++ (job.name, record { started = true; woken = job.woken }, ran.job) ∷ [])
      × (new ≡ settled_view old job (unwrap_or ran.told spent) 0 new.queues)
      × (written ≡ notes.Yield job.name (unwrap_or ran.told spent) ∷ [])
  -- a job that asks to be parked is, or stays and uses up its wake
  Settles old job ran spent step.Park Parked new written =
      (stays job old ≡ false) × ChangesParks old.queues new.queues job.queue (parked_of job.queue old.queues ++ (job.name, ran.job) ∷ [])
      × (new ≡ settled_view old job (unwrap_or ran.told spent) 0 new.queues)
      × (written ≡ notes.Park job.name (unwrap_or ran.told spent) ∷ [])
  Settles old job ran spent step.Park Stayed new written =
      (stays job old ≡ true) × ChangesLine old.queues new.queues job.queue (waiting_of job.queue old.queues ++ awake (job.name, ran.job) ∷ [])
      × (new ≡ settled_view old job (unwrap_or ran.told spent) 0 new.queues)
      × (written ≡ notes.Stayed job.name (unwrap_or ran.told spent) ∷ [])
  Settles old job ran spent (step.Done out) (Finished answer) new written =
      (answer ≡ out) × (new ≡ settled_view old job (unwrap_or ran.told spent) 1 old.queues)
      × (written ≡ notes.Done job.name (unwrap_or ran.told spent) out ∷ [])
  Settles old job ran spent _ settled new written = ⊥

  abbrev pub SettlesOut : CoreView J → AfterPoll J T → ℕ → Settled T → CoreView J → List (Note T) → Type 0
  SettlesOut old ran spent settled new written =
      (job : JobOut J) × (old.out ≡ Some job) × Settles old job ran spent ran.step settled new written
