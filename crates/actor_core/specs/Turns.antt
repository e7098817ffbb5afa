-- What a pick does.
use Rattle.std.specs.Prelude.{◌≡◌, ◌⊎◌, ℕ, ◌-◌, ◌^◌, ◌<◌, ◌≢◌, Some, None, IsSome, Bool, true, false, List, [], ◌∷◌, Result, Ok, Err}
use Rattle.base_words.specs.declared.names.JobId.{JobId}
use Rattle.base_words.specs.declared.note.Note.TheVariants as writes
use Rattle.base_words.specs.declared.order.Order.{Order}
use Rattle.base_words.specs.declared.order.Order.TheVariants.{Job}
use Rattle.base_words.specs.declared.order.Reason.{Reason}
use Rattle.base_words.specs.Journal.{is_told}
use Rattle.base_words.specs.Filters.{name_started}
use Rattle.base_words.specs.Bursts.{queue_in_turn}
use Rattle.base_words.specs.Work.{has_work}
use Rattle.base_words.specs.Lines.{line}
use Rattle.base_words.specs.Parks.{is_wake_kept}
use Rattle.base_words.specs.Picks.{IsRightPick, turns}
use Rattle.base_words.specs.Commands.{return_reason}
use Rattle.core_core.specs.declared.turn.Turn.{Turn}
use Rattle.core_core.specs.declared.turn.Turn.TheVariants.{Start, Resume, Back, Idle}
use Rattle.core_core.specs.declared.turn.PickError.{PickError}
use Rattle.core_core.specs.declared.turn.PickError.TheVariants.{Busy, Spent}
use Rattle.actor_core.specs.Polls.{poll_note}
use Rattle.actor_core.specs.Recorded.{RecordedView, order_taken}
use Rattle.actor_core.specs.Steps.{with_notes}
pub use Rattle.actor_core.specs.Further.{IsFurther, NothingFollows, Follows, EndsTurn}
pub use Rattle.actor_core.specs.Settling.{IsOut, IsOutUnder, IsPolled, Settles}
use Rattle.base_jobs.specs.Meanings.{Meaning}

module _ {J T : Type 0} where
  -- the right pick takes out the first job of its line
  pub record IsPick (old : RecordedView J T) (name : JobId) (queue : ℕ) (was_started : Bool) (job : J) (new : RecordedView J T) : Type 0 where
    pub nobody_out : old.core.out ≡ None
    pub turn_left : turns old.journal.notes < 2 ^ 64 - 1
    pub runtime : ℕ
    pub right : IsRightPick old.core.bursts.burst queue runtime old.journal.notes
    pub others : List JobId
    pub first : line queue old.journal.notes ≡ name ∷ others
    pub kept : return_reason queue old.journal.notes ≡ None
    pub started : was_started ≡ is_told name_started name old.journal.notes
    pub journal : new.journal ≡ with_notes (poll_note name was_started ∷ writes.Pick queue runtime ∷ []) old.journal
    pub out : new.core.out ≡ Some (record { name = name; queue = queue; woken = is_wake_kept name old.journal.notes; job = job })
    pub took : new.took ≡ old.took

  module _ (meaning : Meaning J T) where
    -- the right pick hands the first job of its line back, for the reason that the journal gives, in an order of its own queue and task
    pub record IsHandBack (old : RecordedView J T) (name : JobId) (reason : Reason) (order : Order J) (new : RecordedView J T) : Type 0 where
      pub nobody_out : old.core.out ≡ None
      pub turn_left : turns old.journal.notes < 2 ^ 64 - 1
      pub queue : ℕ
      pub runtime : ℕ
      pub right : IsRightPick old.core.bursts.burst queue runtime old.journal.notes
      pub others : List JobId
      pub first : line queue old.journal.notes ≡ name ∷ others
      pub returns : return_reason queue old.journal.notes ≡ Some reason
      pub sent : J
      pub task : order_taken old.took name ≡ Some (Job queue sent)
      pub job : J
      pub back : order ≡ Job queue job
      pub same_task : meaning.same sent job
      pub journal : new.journal ≡ with_notes (writes.Returned name reason ∷ writes.Pick queue runtime ∷ []) old.journal
      pub out : new.core.out ≡ None
      pub took : new.took ≡ old.took

    -- what a pick does, by what it answers
    abbrev pub Picks : RecordedView J T → Result (Turn J) PickError → RecordedView J T → Type 0
    Picks old (Ok (Start name queue job)) new = IsPick old name queue false job new
    Picks old (Ok (Resume name queue job)) new = IsPick old name queue true job new
    Picks old (Ok (Back name order reason)) new = IsHandBack old name reason order new
    Picks old (Ok Idle) new = ((queue : ℕ) → has_work queue old.journal.notes ≡ false) × (new ≡ old)
    Picks old (Err Busy) new = ((old.core.out ≢ None) ⊎ IsSome (queue_in_turn old.core.bursts.burst old.journal.notes)) × (new ≡ old)
    Picks old (Err Spent) new = (turns old.journal.notes ≡ 2 ^ 64 - 1) × ((queue : ℕ) × (has_work queue old.journal.notes ≡ true)) × (new ≡ old)

-- the pick handed a job back
abbrev pub IsBack : {J : Type 0} → Result (Turn J) PickError → Type 0
IsBack (Ok (Back name order reason)) = Unit {0}
IsBack _ = ⊥
