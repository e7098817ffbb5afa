-- A turn: its first poll, further polls of the same queue, and its end; or a job that is handed back, or nothing.
use Rattle.std.specs.Prelude.{◌≡◌, ◌+◌, ◌-◌, ◌^◌, ℕ, Bool, true, false, Some, List, [], ◌∷◌}
use Rattle.base_words.specs.declared.names.JobId.{JobId}
use Rattle.base_words.specs.declared.order.Order.{Order}
use Rattle.base_words.specs.declared.order.Outcome.TheVariants.{Returned}
use Rattle.base_words.specs.declared.order.Reason.{Reason}
use Rattle.base_words.specs.Bursts.{has_bursts, polls_in_turn}
use Rattle.base_words.specs.Picks.{turns}
use Rattle.base_words.specs.Work.{has_work}
use Rattle.base_jobs.specs.Meanings.{Meaning}
use Rattle.actor_core.specs.Ends.{KeepsIn}
use Rattle.actor_core.specs.Recorded.{RecordedView}
use Rattle.actor_core.specs.Turns.{EndsTurn, IsFurther, IsHandBack, IsPick}
use Rattle.actor_core.specs.Whole.{Begins, StaysPut}
use Rattle.link_ends.specs.Around.{Reach}
use Rattle.actor_core.specs.Beside.{IsAtRest}
use Rattle.actor_core.specs.TurnPolls.{GivesOn, PollsOne}
use Rattle.actor_core.specs.declared.whole.Turned.{Turned}
use Rattle.actor_core.specs.declared.whole.Turned.TheVariants as came

-- a core and what it is lent, with the meter and the gate that serve it
pub record TurnView (J T A M G : Type 0) : Type 0 where
  pub core : RecordedView J T
  pub around : A
  pub meter : M
  pub gate : G

-- the same, put together
abbrev pub turn_view : {J T A M G : Type 0} → RecordedView J T → A → M → G → TurnView J T A M G
turn_view core around meter gate = record { core = core; around = around; meter = meter; gate = gate }

module _ {J T A O I : Type 0} (meaning : Meaning J T) (reach : Reach J T A O I) (own : ℕ) where
  -- the open turn ends, among ends that stay as they are
  pub record EndsAmong (old new : RecordedView J T) (around : A) : Type 0 where
    pub time : ℕ
    pub ends : EndsTurn old time new
    pub stays : StaysPut old new
    pub keeps : (sender : ℕ) → KeepsIn sender old new
    pub after : IsAtRest meaning reach own new around

  -- the first job of the right pick is handed back, and its outcome given
  pub record HandsBack (old new : RecordedView J T) (before after : A) : Type 0 where
    pub name : JobId
    pub reason : Reason
    pub order : Order J
    pub did : IsHandBack meaning old name reason order new
    pub stays : StaysPut old new
    pub gives : GivesOn reach own name.from name.number (Some (Returned reason order)) before after
    pub rests : IsAtRest meaning reach own new after

module _ {J T A M G : Type 0} where
  -- neither the meter nor the gate was asked for anything
  abbrev pub AsksNobody : TurnView J T A M G → TurnView J T A M G → Type 0
  AsksNobody old new = (new.gate ≡ old.gate) × (new.meter ≡ old.meter)

module _ {J T A O I M G : Type 0} (meaning : Meaning J T) (reach : Reach J T A O I) (own : ℕ) where
  -- the open turn ends, and nothing else is done: nobody is asked for it
  pub record EndsOpenTurn (old new : TurnView J T A M G) : Type 0 where
    pub ends : EndsAmong meaning reach own old.core new.core old.around
    pub rest : new ≡ record old { core = new.core }

  module _ (tells : M → ℕ → M → Type 0) (asked : G → ℕ → JobId → G → Type 0) where
    -- a poll: the gate was asked for it with the number of the core and the name of the job, and the meter told its time
    pub record PollsAsked (begins : Begins J T) (notes count : ℕ) (name : JobId) (old new : TurnView J T A M G) : Type 0 where
      pub polls : PollsOne meaning reach own begins (λ time. tells old.meter time new.meter) notes count name old.core new.core old.around new.around
      pub gate : asked old.gate own name new.gate

    -- the first poll of a turn, by a pick
    abbrev pub BeginsTurn : JobId → TurnView J T A M G → TurnView J T A M G → Type 0
    BeginsTurn name old new = PollsAsked IsPick 3 1 name old new

    -- one poll more of the open turn
    abbrev pub GoesFurther : JobId → TurnView J T A M G → TurnView J T A M G → Type 0
    GoesFurther name old new = PollsAsked IsFurther 2 (polls_in_turn old.core.journal.notes + 1) name old new

    -- further polls of these jobs, one after another, the last one first
    abbrev pub PollsOn : List JobId → TurnView J T A M G → TurnView J T A M G → Type 0
    PollsOn [] old new = new ≡ old
    PollsOn (name ∷ before) old new = (middle : TurnView J T A M G) × PollsOn before old middle × GoesFurther name middle new

    -- what is done behind the first poll: nothing if each poll ends its turn; else further polls, as long as the turn may go on, and the end
    abbrev pub GoesThrough : Bool → TurnView J T A M G → TurnView J T A M G → Type 0
    GoesThrough false old new = new ≡ old
    GoesThrough true old new = (polls : List JobId) × (over : TurnView J T A M G) × PollsOn polls old over × EndsOpenTurn over new

    -- what a turn came to: polls, a job that is handed back, no work, or no turn that is left
    abbrev pub MakesTurn : TurnView J T A M G → Turned → TurnView J T A M G → Type 0
    MakesTurn old came.Polled new = (name : JobId) × (first : TurnView J T A M G) × BeginsTurn name old first × GoesThrough (has_bursts old.core.core.bursts.burst) first new
    MakesTurn old came.Returned new = HandsBack meaning reach own old.core new.core old.around new.around × AsksNobody old new
    MakesTurn old came.Idle new = ((queue : ℕ) → has_work queue old.core.journal.notes ≡ false) × (new ≡ old)
    MakesTurn old came.Spent new = (turns old.core.journal.notes ≡ 2 ^ 64 - 1) × ((queue : ℕ) × (has_work queue old.core.journal.notes ≡ true)) × (new ≡ old)
