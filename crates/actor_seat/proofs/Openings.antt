-- No step of a worker changes what was created at the opening.
use Rattle.actor_seat.proofs.Names.{Answer, ap, AreCollected, ArePosts, Delivers, effect_note, entry_note, if◌then◌else◌, Inward, is_opening, IsDelivery, IsHandBack, JobId, Journal, JournalView, List, Meaning, None, Note, opening_of}
use Rattle.actor_seat.proofs.Names.{Option, Order, Reason, RecordedView, refl, refusal, Some, subst, sym, TellsShut, with_effect, ℕ, [], ◌++◌, ◌∙◌, ◌∷◌, ◌≡◌}
use Rattle.std.proofs.Common.{Bool, true, false}
use Rattle.base_words.specs.declared.note.Note.TheVariants as writes
use Rattle.base_words.specs.declared.order.Order.TheVariants.{Job, Create, SetShares, Close, CloseCore, Wake}
use Rattle.base_words.specs.declared.order.Answer.TheVariants as answers

module _ {T : Type 0} where
  -- a journal of creations alone
  pub opening_all : (notes : Journal T) → is_opening notes ≡ true → opening_of notes ≡ notes
  opening_all [] is = refl
  opening_all (note ∷ before) is = ap (λ (test : Bool). if test then note ∷ before else opening_of before) is

  -- what a poll submits, redeems and detaches
  pub opening_posted : (notes : List (Note T)) (before : Journal T) → ArePosts notes → opening_of (notes ++ before) ≡ opening_of before
  opening_posted [] before are = refl
  opening_posted (writes.Sent name order ∷ notes) before are = opening_posted notes before are
  opening_posted (writes.Redeemed name outcome ∷ notes) before are = opening_posted notes before are
  opening_posted (writes.Detached name ∷ notes) before are = opening_posted notes before are
  opening_posted (_ ∷ notes) before are = absurd are

  -- what is collected
  pub opening_collected : (core : ℕ) (notes : List (Note T)) (before : Journal T) → AreCollected core notes → opening_of (notes ++ before) ≡ opening_of before
  opening_collected core [] before are = refl
  opening_collected core (writes.Collected name outcome ∷ notes) before are = opening_collected core notes before are.1
  opening_collected core (_ ∷ notes) before are = absurd are

module _ {T : Type 0} (name : JobId) (before : Journal T) where
  effects_open : (order : Order (Unit {0})) (answer : Answer) → opening_of (with_effect (effect_note name.to order answer) (writes.Answered name answer ∷ []) ++ before) ≡ opening_of before
  effects_open (Create weight) (answers.Created queue) = refl
  effects_open (SetShares queue weight) answers.SharesSet = refl
  effects_open (Close queue mode) answers.Closed = refl
  effects_open (CloseCore mode) answers.Closed = refl
  effects_open (Wake actor number) answers.Woken = refl
  effects_open _ _ = refl

  module _ {J : Type 0} where
    opening_delivery : (order : Order J) (notes : List (Note T)) → IsDelivery name order before notes → opening_of (notes ++ before) ≡ opening_of before
    opening_delivery (Job queue job) notes is = subst (λ notes. opening_of (notes ++ before) ≡ opening_of before) (sym is) (by_refusal (refusal queue before))
      where
        by_refusal : (why : Option Reason) → opening_of (entry_note name queue why ∷ before) ≡ opening_of before
        by_refusal None = refl
        by_refusal (Some reason) = refl
    opening_delivery (Create weight) notes is = subst (λ notes. opening_of (notes ++ before) ≡ opening_of before) (sym is.2) (effects_open (Create weight) is.0)
    opening_delivery (SetShares queue weight) notes is = subst (λ notes. opening_of (notes ++ before) ≡ opening_of before) (sym is.2) (effects_open (SetShares queue weight) is.0)
    opening_delivery (Close queue mode) notes is = subst (λ notes. opening_of (notes ++ before) ≡ opening_of before) (sym is.2) (effects_open (Close queue mode) is.0)
    opening_delivery (CloseCore mode) notes is = subst (λ notes. opening_of (notes ++ before) ≡ opening_of before) (sym is.2) (effects_open (CloseCore mode) is.0)
    opening_delivery (Wake actor number) notes is = subst (λ notes. opening_of (notes ++ before) ≡ opening_of before) (sym is.2) (effects_open (Wake actor number) is.0)

module _ {J T : Type 0} where
  -- a delivery
  pub opening_delivers : (old new : RecordedView J T) (before after : Inward J T) (found : Bool) → Delivers old before new after found → opening_of new.journal.notes ≡ opening_of old.journal.notes
  opening_delivers old new before after true does =
      ap (λ (journal : JournalView T). opening_of journal.notes) does.2.journal ∙ opening_delivery does.0.name old.journal.notes does.0.order does.2.notes does.2.delivery
  opening_delivers old new before after false does = ap (λ (view : RecordedView J T). opening_of view.journal.notes) does.1

  -- a gate that is shut
  pub opening_shut : (old new : RecordedView J T) (sender count : ℕ) → TellsShut old sender count new → opening_of new.journal.notes ≡ opening_of old.journal.notes
  opening_shut old new sender count tells = ap (λ (journal : JournalView T). opening_of journal.notes) tells.journal

  -- a pick that hands a job back
  pub opening_returned : (meaning : Meaning J T) (old new : RecordedView J T) (name : JobId) (reason : Reason) (order : Order J) → IsHandBack meaning old name reason order new →
      opening_of new.journal.notes ≡ opening_of old.journal.notes
  opening_returned meaning old new name reason order did = ap (λ (journal : JournalView T). opening_of journal.notes) did.journal
