-- How the host runs jobs: the core tells the next one, and settles its run.
use Rattle.std.specs.Prelude.{◌≡◌, ◌⊎◌, ℕ, Option, Some, None, IsSome, Result, Ok, Err, OnErr}
use Rattle.base_words.specs.Bursts.{queue_in_turn}
use Rattle.base_jobs.specs.declared.job.Step.{Step}
use Rattle.base_jobs.specs.Steps.{AfterPoll}
use Rattle.core_core.specs.declared.turn.Turn.{Turn}
use Rattle.core_core.specs.declared.turn.PickError.{PickError}
use Rattle.core_core.specs.declared.turn.Settled.{Settled}
use Rattle.core_core.specs.Answers.{IsReadyTurn}
use Rattle.actor_core.specs.Recorded.{RecordedView}
use Rattle.actor_core.specs.Turns.{EndsTurn, Picks, Settles}
use Rattle.actor_core.specs.Turns as turns
use Rattle.actor_seat.specs.Linked.{StaysLinked}
use Rattle.actor_seat.specs.Seats.{IsSeated, taken_of}
use Rattle.host_core.specs.declared.answers.Picked.{Picked}
use Rattle.host_core.specs.declared.answers.Refusal.{Refusal}
use Rattle.host_core.specs.declared.answers.Refusal.TheVariants as refusal
use Rattle.host_core.specs.declared.job.HostJob.{HostJob}
use Rattle.host_core.specs.Hosted.{HostedView, HasRoom}
use Rattle.host_core.specs.Jobs.{host_meaning}
use Rattle.host_core.specs.Takings.{Taking, told_taking}

-- a turn by a pick, or within an open turn
abbrev pub Turned : Type 0
Turned = Result (Turn HostJob) PickError

-- what the host is told of a turn
abbrev pub told_of : Turned → Result Picked Refusal
told_of turned = told_taking (taken_of turned)

-- no turn is open: none was, and nothing changed, or the open one may not go on and has ended
abbrev pub EndsIfOpen : RecordedView HostJob ℕ → RecordedView HostJob ℕ → Type 0
EndsIfOpen old over = ((queue_in_turn old.core.bursts.burst old.journal.notes ≡ None) × (over ≡ old)) ⊎ ((time : ℕ) × EndsTurn old time over)

-- the open turn goes on with the first job of its queue
abbrev pub GoesOn : RecordedView HostJob ℕ → Turned → RecordedView HostJob ℕ → Type 0
GoesOn old (Ok turn) new = turns.Follows old (Some turn) new
GoesOn old (Err error) new = ⊥

-- the open turn goes on, or there is a pick once no turn is open
abbrev pub TurnsTo : RecordedView HostJob ℕ → Turned → RecordedView HostJob ℕ → Type 0
TurnsTo old turned new = GoesOn old turned new ⊎ ((over : RecordedView HostJob ℕ) × EndsIfOpen old over × Picks host_meaning over turned new)

-- what a turn leaves of the core: the outcome of a job that goes back is given to its sender; no end changes where no turn is left
pub record TakesOut (old : HostedView) (out : Taking) (new : HostedView) : Type 0 where
  pub turned : Turned
  pub turns : TurnsTo old.recorded turned new.recorded
  pub ready : IsReadyTurn host_meaning turned
  pub out_is : out ≡ taken_of turned
  pub refused : OnErr out (new.ends ≡ old.ends)
  pub stays : StaysLinked old new
  pub seated : IsSeated host_meaning new

-- a turn, and what the host is told of it; without one no end changes
pub record Goes (old : HostedView) (told : Result Picked Refusal) (new : HostedView) : Type 0 where
  pub turned : Turned
  pub turns : TurnsTo old.recorded turned new.recorded
  pub told_is : told ≡ told_of turned
  pub refused : OnErr told (new.ends ≡ old.ends)

-- a job is out, the journal has too little room, or a turn is made
abbrev pub Nexts : HostedView → Result Picked Refusal → HostedView → Type 0
Nexts old told new =
    (IsSome old.recorded.core.out × (told ≡ Err refusal.Busy) × (new ≡ old))
    ⊎ ((old.recorded.core.out ≡ None) × (HasRoom 4 old.recorded → ⊥) × (told ≡ Err refusal.JournalFull) × (new ≡ old))
    ⊎ ((old.recorded.core.out ≡ None) × HasRoom 4 old.recorded × Goes old told new)

-- the open turn goes on, and this is told of it; or no turn is open: none was, or the open one may not go on and has ended
abbrev pub GoesFurther : RecordedView HostJob ℕ → Option Picked → RecordedView HostJob ℕ → Type 0
GoesFurther old (Some picked) new = (turn : Turn HostJob) × (told_of (Ok turn) ≡ Ok picked) × GoesOn old (Ok turn) new
GoesFurther old None new = EndsIfOpen old new

-- a job is out, the journal has too little room, or the open turn goes on or ends
abbrev pub Follows : HostedView → Result (Option Picked) Refusal → HostedView → Type 0
Follows old (Ok told) new = GoesFurther old.recorded told new.recorded × (new.ends ≡ old.ends)
Follows old (Err refusal.Busy) new = IsSome old.recorded.core.out × (new ≡ old)
Follows old (Err refusal.JournalFull) new = (old.recorded.core.out ≡ None) × (HasRoom 4 old.recorded → ⊥) × (new ≡ old)
Follows old (Err other) new = ⊥

-- the run of the job that is out came to this step, and took so many nanoseconds
pub record SettlesRun (old : HostedView) (step : Step ℕ) (spent : ℕ) (settled : Settled ℕ) (new : HostedView) : Type 0 where
  pub ran : AfterPoll HostJob ℕ
  pub settles : Settles host_meaning old.recorded ran spent settled new.recorded
  pub stepped : ran.step ≡ step
  pub untimed : ran.told ≡ None

-- a run is settled, or the host runs no job
abbrev pub SettlesStep : HostedView → Step ℕ → ℕ → Result (Settled ℕ) Refusal → HostedView → Type 0
SettlesStep old step spent (Ok settled) new = SettlesRun old step spent settled new
SettlesStep old step spent (Err refusal.NoJob) new = (old.recorded.core.out ≡ None) × (new ≡ old)
SettlesStep old step spent (Err other) new = ⊥
