-- The outcomes that a turn leaves owed to a sender, until they are given on its end.
use Rattle.std.specs.Prelude.{◌≡◌, ℕ, Option, Some, None, List, Result, Ok}
use Rattle.std.specs.Option.{option_map}
use Rattle.base_words.specs.declared.names.JobId.{JobId}
use Rattle.base_words.specs.declared.note.OutcomeNote.{OutcomeNote}
use Rattle.base_words.specs.declared.note.OutcomeNote.TheVariants as outcomes
use Rattle.base_words.specs.declared.order.Envelope.{Envelope}
use Rattle.base_words.specs.declared.order.Order.{Order}
use Rattle.base_words.specs.declared.order.Order.TheVariants.{Job}
use Rattle.base_words.specs.declared.order.Outcome.{Outcome}
use Rattle.base_words.specs.declared.order.Outcome.TheVariants as outcome
use Rattle.base_words.specs.Filters.{if_from}
use Rattle.base_words.specs.Outcomes.{outcome_note}
use Rattle.core_core.specs.State.{JobOut}
use Rattle.core_core.specs.declared.turn.Turn.{Turn}
use Rattle.core_core.specs.declared.turn.Turn.TheVariants.{Back}
use Rattle.core_core.specs.declared.turn.PickError.{PickError}
use Rattle.core_core.specs.declared.turn.Settled.{Settled}
use Rattle.core_core.specs.declared.turn.Settled.TheVariants.{Yielded, Parked, Stayed, Finished}
use Rattle.actor_core.specs.Recorded.{RecordedView, order_taken}
use Rattle.actor_core.specs.Ends.{LeavesOwed, told_under}
use Rattle.base_jobs.specs.Meanings.{Meaning}

module _ {J : Type 0} where
  -- the order has the queue and the task that were sent under this name
  pub record IsSentUnder {T : Type 0} (meaning : Meaning J T) (took : List (Envelope J)) (name : JobId) (order : Order J) : Type 0 where
    pub queue : ℕ
    pub sent : J
    pub task : order_taken took name ≡ Some (Job queue sent)
    pub job : J
    pub back : order ≡ Job queue job
    pub same_task : meaning.same sent job

module _ {J T : Type 0} where
  -- the outcome that a pick leaves owed to a sender
  abbrev pub owed_back : Result (Turn J) PickError → ℕ → Option (JobId × OutcomeNote T)
  owed_back (Ok (Back name order reason)) sender = if_from sender name (name, outcomes.Returned reason)
  owed_back _ sender = None

  -- the outcome of a settled poll
  abbrev pub outcome_settled : Settled T → Option (Outcome J T)
  outcome_settled Yielded = None
  outcome_settled Parked = None
  outcome_settled Stayed = None
  outcome_settled (Finished answer) = Some (outcome.Finished answer)

  -- the outcome of the poll that was settled, if the job is done, is owed to its sender, and nothing to the others
  abbrev pub OwesSettled : RecordedView J T → Settled T → RecordedView J T → Type 0
  OwesSettled old settled new =
      (out : JobOut J) → old.core.out ≡ Some out → (sender : ℕ) → LeavesOwed sender (told_under out.name (option_map outcome_note (outcome_settled settled)) sender) old new
