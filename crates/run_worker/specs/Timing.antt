-- When a worker sets the timers of jobs that sleep, and which jobs it wakes.
use Rattle.std.specs.Prelude.{◌≡◌, ◌⊎◌, ℕ, ◌+◌, ◌-◌, ◌^◌, min, Option, Some, None, List, [], ◌∷◌, ◌++◌, reverse}
use Rattle.base_words.specs.declared.names.JobId.{JobId}
use Rattle.base_words.specs.declared.note.Note.{Note}
use Rattle.base_words.specs.declared.note.Note.TheVariants.{Park, Pick, Resume, Returned, Start, Turned, Yield}
use Rattle.core_queues.specs.View.{QueuesView}
use Rattle.core_queues.specs.Waking.{IsParkedAs}
use Rattle.core_timers.specs.Timers.{Timers, Forgets, HasNoKey, IsVacant, LacksName, Sets}
use Rattle.actor_core.specs.Recorded.{RecordedView}
use Rattle.actor_seat.specs.Linked.{LinkedView}

-- As long as a job sleeps the gate of the core's own link is spared, so that a core that finishes can still wake it. Otherwise none is: no sender has the number
-- behind that of the outside actor.
abbrev pub SparesOwn : {J T : Type 0} → Timers → LinkedView J T → ℕ → Type 0
SparesOwn timers view spared = (IsVacant timers × (spared ≡ view.recorded.core.cores + 1)) ⊎ ((IsVacant timers → ⊥) × (spared ≡ view.recorded.core.core))

-- so long behind a reading, or at the last moment that a clock can tell
abbrev pub due_behind : ℕ → ℕ → ℕ
due_behind reading time = min (reading + time) (2 ^ 64 - 1)

-- a name has no timer any more
abbrev pub LosesTimer : Timers → JobId → Timers → Type 0
LosesTimer old name new = Forgets old name new ⊎ (LacksName old name × (new ≡ old))

-- a note of a turn by which nobody is rung, and no job sleeps: a pick, the beginning of a poll, its yield, or the end of the turn
abbrev pub IsSilent : {T : Type 0} → Note T → Type 0
IsSilent (Pick queue vr) = Unit {0}
IsSilent (Start name) = Unit {0}
IsSilent (Resume name) = Unit {0}
IsSilent (Yield name time) = Unit {0}
IsSilent (Turned queue time) = Unit {0}
IsSilent _ = ⊥

module _ {J : Type 0} (sleeps : J → Option ℕ) where
  -- it says for how long the parked job of this name sleeps; if it says nothing, the job may not be parked
  abbrev pub SleepsFor : QueuesView J → JobId → Option ℕ → Type 0
  SleepsFor queues name None = Unit {0}
  SleepsFor queues name (Some time) = (job : J) × IsParkedAs queues name job × (sleeps job ≡ Some time)

  -- the timer of a parked job is set as far behind the reading as the job says, unless each place has the timer of another job
  pub record SetsSleep (queues : QueuesView J) (reading : ℕ) (name : JobId) (old new : Timers) : Type 0 where
    pub job : J
    pub time : ℕ
    pub parked : IsParkedAs queues name job
    pub says : sleeps job ≡ Some time
    pub sets : Sets old name (due_behind reading time) new ⊎ HasNoKey old name new

  module _ {T : Type 0} (queues : QueuesView J) (reading : ℕ) where
    -- what a note of a turn does: a job that was parked gets a timer, if it sleeps, and one that was taken out of its line has none any more
    abbrev pub HearsNote : Note T → Timers → Timers → Type 0
    HearsNote (Park name time) old new = SetsSleep queues reading name old new ⊎ LosesTimer old name new
    HearsNote (Resume name) old new = LosesTimer old name new
    HearsNote (Returned name reason) old new = LosesTimer old name new
    HearsNote _ old new = new ≡ old

    -- these notes do so one after another
    abbrev pub HearsNotes : List (Note T) → Timers → Timers → Type 0
    HearsNotes [] old new = new ≡ old
    HearsNotes (note ∷ later) old new = (middle : Timers) × HearsNote note old middle × HearsNotes later middle new

  -- each note that was written since is heard, with the reading of the clock behind the last poll
  pub record HearsTurn {T : Type 0} (reading : ℕ) (before after : RecordedView J T) (old new : Timers) : Type 0 where
    pub newer : List (Note T)
    pub grows : after.journal.notes ≡ newer ++ before.journal.notes
    pub heard : HearsNotes after.core.queues reading (reverse newer) old new
