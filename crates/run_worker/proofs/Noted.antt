-- What the notes of a delivery tell: a core doesn't close by itself by them, and in a core that hands back each delivery has its outcome.
use Rattle.run_worker.proofs.Names.{Answer, arith, Bool, cond, core_mode, EachNote, effect_note, entry_note, given_count, given_outcomes, if_from, inl, inr, IsDelivery, JobId, Journal, length, length-append, List, MayAct, nobody_enters}
use Rattle.run_worker.proofs.Names.{None, Note, number_if, Option, Order, Reason, refl, refusal, Some, with_effect, with_last, ℕ, [], ◌++◌, ◌+◌, ◌==◌, ◌∷◌, ◌≡◌}
use Rattle.std.proofs.Common.{true, false}
use Rattle.base_words.specs.declared.note.Note.TheVariants as writes
use Rattle.base_words.specs.declared.order.Order.TheVariants.{Job, Create, SetShares, Close, CloseCore, Wake}
use Rattle.base_words.specs.declared.order.Mode.TheVariants.{Return}
use Rattle.base_words.specs.declared.order.Answer.TheVariants as answers

-- one more where the name is of this sender
pub more_from : {A : Type 0} (items : List A) (sender : ℕ) (name : JobId) (item : A) → length (with_last items (if_from sender name item)) ≡ length items + number_if (name.from == sender)
more_from {A} items sender name item = by_test (name.from == sender)
  where
    by_test : (test : Bool) → length (with_last items (cond test (Some item) None)) ≡ length items + number_if test
    by_test true = length-append items (item ∷ [])
    by_test false = omega arith

module _ {T : Type 0} (name : JobId) (before : Journal T) where
  -- a command's effect follows its answer
  effects_act : (least room : ℕ) (order : Order (Unit {0})) (answer : Answer) → EachNote (MayAct least room) before →
      EachNote (MayAct least room) (with_effect (effect_note name.to order answer) (writes.Answered name answer ∷ []) ++ before)
  effects_act least room (Create weight) (answers.Created queue) each = (tt, (tt, each))
  effects_act least room (SetShares queue weight) answers.SharesSet each = (tt, (tt, each))
  effects_act least room (Close queue mode) answers.Closed each = (tt, (tt, each))
  effects_act least room (CloseCore mode) answers.Closed each = (inl refl, (tt, each))
  effects_act least room (Wake actor number) answers.Woken each = (tt, (tt, each))
  effects_act least room _ _ each = (tt, each)

  -- an answer gives one outcome, and its effect none
  effects_give : (order : Order (Unit {0})) (answer : Answer) (sender : ℕ) →
      given_count (with_effect (effect_note name.to order answer) (writes.Answered name answer ∷ []) ++ before) sender ≡ given_count before sender + number_if (name.from == sender)
  effects_give (Create weight) (answers.Created queue) sender = more_from (given_outcomes sender before) sender name _
  effects_give (SetShares queue weight) answers.SharesSet sender = more_from (given_outcomes sender before) sender name _
  effects_give (Close queue mode) answers.Closed sender = more_from (given_outcomes sender before) sender name _
  effects_give (CloseCore mode) answers.Closed sender = more_from (given_outcomes sender before) sender name _
  effects_give (Wake actor number) answers.Woken sender = more_from (given_outcomes sender before) sender name _
  effects_give _ _ sender = more_from (given_outcomes sender before) sender name _

  module _ {J : Type 0} where
    -- no core closes by itself by a delivery
    pub delivery_acts : (least room : ℕ) (order : Order J) (notes : List (Note T)) → IsDelivery name order before notes → EachNote (MayAct least room) before →
        EachNote (MayAct least room) (notes ++ before)
    delivery_acts least room (Job queue job) notes is each = rw is (by_refusal (refusal queue before))
      where
        by_refusal : (why : Option Reason) → EachNote (MayAct least room) (entry_note name queue why ∷ before)
        by_refusal None = (tt, each)
        by_refusal (Some reason) = (tt, each)
    delivery_acts least room (Create weight) notes is each = rw is.2 (effects_act least room (Create weight) is.0 each)
    delivery_acts least room (SetShares queue weight) notes is each = rw is.2 (effects_act least room (SetShares queue weight) is.0 each)
    delivery_acts least room (Close queue mode) notes is each = rw is.2 (effects_act least room (Close queue mode) is.0 each)
    delivery_acts least room (CloseCore mode) notes is each = rw is.2 (effects_act least room (CloseCore mode) is.0 each)
    delivery_acts least room (Wake actor number) notes is each = rw is.2 (effects_act least room (Wake actor number) is.0 each)

    -- in a core that hands back each delivery gives one outcome
    pub delivery_gives : (order : Order J) (notes : List (Note T)) → IsDelivery name order before notes → core_mode before ≡ Some Return → (sender : ℕ) →
        given_count (notes ++ before) sender ≡ given_count before sender + number_if (name.from == sender)
    delivery_gives (Job queue job) notes is returning sender = rw is (by_refusal (refusal queue before) (nobody_enters queue before (inr returning)))
      where
        by_refusal : (why : Option Reason) → (why ≡ None → ⊥) → given_count (entry_note name queue why ∷ before) sender ≡ given_count before sender + number_if (name.from == sender)
        by_refusal None some = absurd (some refl)
        by_refusal (Some reason) some = more_from (given_outcomes sender before) sender name _
    delivery_gives (Create weight) notes is returning sender = rw is.2 (effects_give (Create weight) is.0 sender)
    delivery_gives (SetShares queue weight) notes is returning sender = rw is.2 (effects_give (SetShares queue weight) is.0 sender)
    delivery_gives (Close queue mode) notes is returning sender = rw is.2 (effects_give (Close queue mode) is.0 sender)
    delivery_gives (CloseCore mode) notes is returning sender = rw is.2 (effects_give (CloseCore mode) is.0 sender)
    delivery_gives (Wake actor number) notes is returning sender = rw is.2 (effects_give (Wake actor number) is.0 sender)
