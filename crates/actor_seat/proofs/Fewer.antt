-- How many notes a delivery and a collecting write.
use Rattle.actor_seat.proofs.Names.{Answer, ap, arith, Bool, CollectsOf, DeliversFrom, effect_note, IsDelivery, JobId, Journal, length, length-append, LinkedView, List, None, Note, Option, Order, Some, with_effect, ℕ, [], ◌+◌, ◌∙◌, ◌∷◌}
use Rattle.actor_seat.proofs.Names.{◌≡◌, ◌≤◌}
use Rattle.std.proofs.Common.{true, false}
use Rattle.base_words.specs.declared.note.Note.TheVariants as writes
use Rattle.base_words.specs.declared.order.Order.TheVariants.{Job, Create, SetShares, Close, CloseCore, Wake}

module _ {T : Type 0} (name : JobId) (before : Journal T) where
  -- one or two notes
  effects_short : (order : Order (Unit {0})) (answer : Answer) → length (with_effect {T = T} (effect_note name.to order answer) (writes.Answered name answer ∷ [])) ≤ 2
  effects_short order answer = by_effect (effect_note name.to order answer)
    where
      by_effect : (effect : Option (Note T)) → length (with_effect effect (writes.Answered name answer ∷ [])) ≤ 2
      by_effect None = omega arith
      by_effect (Some note) = omega arith

  module _ {J : Type 0} where
    -- at most two notes
    pub delivery_short : (order : Order J) (notes : List (Note T)) → IsDelivery name order before notes → length notes ≤ 2
    delivery_short (Job queue job) notes is = rw is (omega arith)
    delivery_short (Create weight) notes is = rw is.2 (effects_short (Create weight) is.0)
    delivery_short (SetShares queue weight) notes is = rw is.2 (effects_short (SetShares queue weight) is.0)
    delivery_short (Close queue mode) notes is = rw is.2 (effects_short (Close queue mode) is.0)
    delivery_short (CloseCore mode) notes is = rw is.2 (effects_short (CloseCore mode) is.0)
    delivery_short (Wake actor number) notes is = rw is.2 (effects_short (Wake actor number) is.0)

module _ {J T : Type 0} where
  -- a delivery writes at most two notes
  pub delivered_few : (sender : ℕ) (found : Bool) (old new : LinkedView J T) → DeliversFrom sender old found new → length new.recorded.journal.notes ≤ length old.recorded.journal.notes + 2
  delivered_few sender true old new did =
      let got = did.delivers.2 in
      let short = delivery_short did.delivers.0.name old.recorded.journal.notes did.delivers.0.order got.notes got.delivery in
      let longer : length new.recorded.journal.notes ≡ length got.notes + length old.recorded.journal.notes = ap (λ journal. length journal.notes) got.journal ∙ length-append got.notes old.recorded.journal.notes in
      omega (arith, short, longer)
  delivered_few sender false old new did = let same : length new.recorded.journal.notes ≡ length old.recorded.journal.notes = ap (λ view. length view.journal.notes) did.delivers.1 in omega (arith, same)

  -- a collecting writes at most one note for each place of its link
  pub collected_few : (core count : ℕ) (old new : LinkedView J T) → CollectsOf core old count new → length new.recorded.journal.notes ≤ length old.recorded.journal.notes + old.recorded.cap
  collected_few core count old new did =
      let longer : length new.recorded.journal.notes ≡ length did.collects.0 + length old.recorded.journal.notes = ap (λ journal. length journal.notes) did.collects.3 ∙ length-append did.collects.0 old.recorded.journal.notes in
      omega (arith, longer, did.collects.2, did.few)
