-- The notes of a delivery: a job enters its queue or goes back, a command is carried out and answered.
use Rattle.std.specs.Prelude.{◌≡◌, ℕ, Option, Some, None, List, [], ◌∷◌}
use Rattle.base_words.specs.declared.names.JobId.{JobId}
use Rattle.base_words.specs.declared.note.Note.{Note}
use Rattle.base_words.specs.declared.note.Note.TheVariants as writes
use Rattle.base_words.specs.declared.order.Order.{Order}
use Rattle.base_words.specs.declared.order.Order.TheVariants.{Job, Create, SetShares, Close, CloseCore, Wake}
use Rattle.base_words.specs.declared.order.Outcome.{Outcome}
use Rattle.base_words.specs.declared.order.Outcome.TheVariants as outcomes
use Rattle.base_words.specs.declared.order.Reason.{Reason}
use Rattle.base_words.specs.declared.order.Answer.{Answer}
use Rattle.base_words.specs.Journal.{Journal}
use Rattle.core_core.specs.declared.delivery.Delivered.{Delivered}
use Rattle.core_core.specs.declared.delivery.Delivered.TheVariants.{Took, Back, Answered}
use Rattle.base_words.specs.Commands.{refusal, IsAnswer, effect_note}

module _ {T : Type 0} where
  -- a job enters its queue, or goes back
  abbrev pub entry_note : JobId → ℕ → Option Reason → Note T
  entry_note name queue None = writes.Took name queue
  entry_note name queue (Some reason) = writes.Back name reason

  -- the note of an effect stands behind the others
  abbrev pub with_effect : Option (Note T) → List (Note T) → List (Note T)
  with_effect None notes = notes
  with_effect (Some note) notes = note ∷ notes

  -- a command is answered, and the note of its effect follows
  abbrev pub IsAnswered : JobId → Order (Unit {0}) → Journal T → List (Note T) → Type 0
  IsAnswered name order before notes =
      (answer : Answer) × IsAnswer name.to order answer before × (notes ≡ with_effect (effect_note name.to order answer) (writes.Answered name answer ∷ []))

module _ {J T : Type 0} where
  -- the outcome of a delivery, if it has one yet
  abbrev pub outcome_delivered : Delivered J → Option (Outcome J T)
  outcome_delivered Took = None
  outcome_delivered (Back reason order) = Some (outcomes.Returned reason order)
  outcome_delivered (Answered answer) = Some (outcomes.Answered answer)

  -- the notes of the delivery of this order
  abbrev pub IsDelivery : JobId → Order J → Journal T → List (Note T) → Type 0
  IsDelivery name (Job queue job) before notes = notes ≡ entry_note name queue (refusal queue before) ∷ []
  IsDelivery name (Create weight) before notes = IsAnswered name (Create weight) before notes
  IsDelivery name (SetShares queue weight) before notes = IsAnswered name (SetShares queue weight) before notes
  IsDelivery name (Close queue mode) before notes = IsAnswered name (Close queue mode) before notes
  IsDelivery name (CloseCore mode) before notes = IsAnswered name (CloseCore mode) before notes
  IsDelivery name (Wake actor number) before notes = IsAnswered name (Wake actor number) before notes
