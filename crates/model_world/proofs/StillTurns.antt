-- What a core does on the link of a sender begins no poll and ends no turn.
use Rattle.model_world.proofs.Words.{◌≡◌, ℕ, List, [], ◌∷◌, ◌++◌, refl, ◌∙◌, ap, Option, Some, None, JobId, Order, Journal, Note, Job, IsDelivery}
use Rattle.base_words.specs.declared.note.Note.TheVariants as writes
use Rattle.base_words.specs.declared.order.Answer.{Answer}
use Rattle.base_words.specs.declared.order.Answer.TheVariants as answers
use Rattle.base_words.specs.declared.order.Order.TheVariants.{Create, SetShares, Close, CloseCore, Wake}
use Rattle.base_words.specs.declared.order.Reason.{Reason}
use Rattle.base_words.specs.Bursts.{queue_in_turn}
use Rattle.base_words.specs.Commands.{effect_note, refusal}
use Rattle.model_world.specs.Deliveries.{entry_note, with_effect, IsAnswered}

module _ {T : Type 0} (burst : ℕ) (before : Journal T) where
  -- the turn that was open is open behind these notes, and none is where none was
  abbrev Keeps : List (Note T) → Type 0
  Keeps notes = queue_in_turn burst (notes ++ before) ≡ queue_in_turn burst before

  entry_keeps : (name : JobId) (queue : ℕ) (reason : Option Reason) → Keeps (entry_note name queue reason ∷ [])
  entry_keeps name queue None = refl
  entry_keeps name queue (Some reason) = refl

  effect_keeps : (core : ℕ) (order : Order (Unit {0})) (answer : Answer) (name : JobId) → Keeps (with_effect (effect_note core order answer) (writes.Answered name answer ∷ []))
  effect_keeps core (Create weight) (answers.Created queue) name = refl
  effect_keeps core (SetShares queue weight) answers.SharesSet name = refl
  effect_keeps core (Close queue mode) answers.Closed name = refl
  effect_keeps core (CloseCore mode) answers.Closed name = refl
  effect_keeps core (Wake actor number) answers.Woken name = refl
  effect_keeps core _ _ name = refl

  answer_keeps : (name : JobId) (order : Order (Unit {0})) (notes : List (Note T)) → IsAnswered name order before notes → Keeps notes
  answer_keeps name order notes is = ap (λ notes. queue_in_turn burst (notes ++ before)) is.2 ∙ effect_keeps name.to order is.0 name

  pub delivery_keeps : {J : Type 0} (name : JobId) (order : Order J) (notes : List (Note T)) → IsDelivery name order before notes → Keeps notes
  delivery_keeps name (Job queue job) notes is = ap (λ notes. queue_in_turn burst (notes ++ before)) is ∙ entry_keeps name queue (refusal queue before)
  delivery_keeps name (Create weight) notes is = answer_keeps name (Create weight) notes is
  delivery_keeps name (SetShares queue weight) notes is = answer_keeps name (SetShares queue weight) notes is
  delivery_keeps name (Close queue mode) notes is = answer_keeps name (Close queue mode) notes is
  delivery_keeps name (CloseCore mode) notes is = answer_keeps name (CloseCore mode) notes is
  delivery_keeps name (Wake actor number) notes is = answer_keeps name (Wake actor number) notes is
