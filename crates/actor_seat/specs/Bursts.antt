-- A turn of a worker: its first poll, further polls of the same queue, and its end; or a job that is handed back, or nothing.
use Rattle.std.specs.Prelude.{◌≡◌, ◌-◌, ◌^◌, ℕ, Bool, true, false, List, [], ◌∷◌}
use Rattle.base_words.specs.declared.names.JobId.{JobId}
use Rattle.base_words.specs.Bursts.{has_bursts}
use Rattle.base_words.specs.Picks.{turns}
use Rattle.base_words.specs.Work.{has_work}
use Rattle.base_jobs.specs.Meanings.{Meaning}
use Rattle.actor_core.specs.Turns.{EndsTurn}
use Rattle.actor_seat.specs.Linked.{LinkedView}
use Rattle.actor_seat.specs.Steps.{HandsBack, PollsFirst, PollsFurther}
use Rattle.actor_core.specs.declared.whole.Turned.{Turned}
use Rattle.actor_core.specs.declared.whole.Turned.TheVariants.{Polled, Returned, Idle, Spent}

-- a core beside its ends, with the meter and the gate that serve it
pub record TurnView (J T M G : Type 0) : Type 0 where
  pub linked : LinkedView J T
  pub meter : M
  pub gate : G

-- the same, put together
abbrev pub turn_view : {J T M G : Type 0} → LinkedView J T → M → G → TurnView J T M G
turn_view linked meter gate = record { linked = linked; meter = meter; gate = gate }

module _ {J T M G : Type 0} where
  -- the open turn ends, and nothing else is done: nobody is asked for it
  pub record EndsOpenTurn (old new : TurnView J T M G) : Type 0 where
    pub time : ℕ
    pub ends : EndsTurn old.linked.recorded time new.linked.recorded
    pub rest : new ≡ record old { linked = record old.linked { recorded = new.linked.recorded } }

  -- neither the meter nor the gate was asked for anything
  abbrev pub AsksNobody : TurnView J T M G → TurnView J T M G → Type 0
  AsksNobody old new = (new.gate ≡ old.gate) × (new.meter ≡ old.meter)

module _ {J T M G : Type 0} (meaning : Meaning J T) (tells : M → ℕ → M → Type 0) (asked : G → ℕ → JobId → G → Type 0) where
  -- the first poll of a turn: the gate was asked for it with the core and its name, and the meter told its time
  pub record BeginsTurn (name : JobId) (old new : TurnView J T M G) : Type 0 where
    pub polls : PollsFirst meaning (λ time. tells old.meter time new.meter) name old.linked new.linked
    pub gate : asked old.gate old.linked.recorded.core.core name new.gate

  -- a further poll of the open turn: the gate was asked for this one too, and the meter told its own time
  pub record GoesFurther (name : JobId) (old new : TurnView J T M G) : Type 0 where
    pub polls : PollsFurther meaning (λ time. tells old.meter time new.meter) name old.linked new.linked
    pub gate : asked old.gate old.linked.recorded.core.core name new.gate

  -- further polls of these jobs, one after another, the last one first
  abbrev pub PollsOn : List JobId → TurnView J T M G → TurnView J T M G → Type 0
  PollsOn [] old new = new ≡ old
  PollsOn (name ∷ before) old new = (middle : TurnView J T M G) × PollsOn before old middle × GoesFurther name middle new

  -- What is done behind the first poll. If each poll ends its turn, that is nothing. If a note of its own ends a turn, there are further polls, as long as
  -- the turn may go on, and the end.
  abbrev pub GoesThrough : Bool → TurnView J T M G → TurnView J T M G → Type 0
  GoesThrough false old new = new ≡ old
  GoesThrough true old new = (polls : List JobId) × (over : TurnView J T M G) × PollsOn polls old over × EndsOpenTurn over new

  -- what a turn came to: polls, a job that is handed back, no work, or no turn that is left
  abbrev pub MakesTurn : TurnView J T M G → Turned → TurnView J T M G → Type 0
  MakesTurn old Polled new = (name : JobId) × (first : TurnView J T M G) × BeginsTurn name old first × GoesThrough (has_bursts old.linked.recorded.core.bursts.burst) first new
  MakesTurn old Returned new = HandsBack meaning old.linked.recorded new.linked.recorded × AsksNobody old new
  MakesTurn old Idle new = ((queue : ℕ) → has_work queue old.linked.recorded.journal.notes ≡ false) × (new.linked.recorded ≡ old.linked.recorded) × AsksNobody old new
  MakesTurn old Spent new =
      (turns old.linked.recorded.journal.notes ≡ 2 ^ 64 - 1) × ((queue : ℕ) × (has_work queue old.linked.recorded.journal.notes ≡ true)) × (new.linked.recorded ≡ old.linked.recorded) × AsksNobody old new
