-- Notes that settle no poll, shut no gate and send nothing.
use Rattle.model_laws.proofs.Words.{◌≡◌, ℕ, Bool, true, false, List, [], ◌∷◌, ◌++◌, refl, sym, ◌∙◌, ap, subst, Option, Some, None, JobId, Note, Order, Journal}
use Rattle.model_laws.proofs.Words.{Answer, Job, Create, SetShares, Close, CloseCore, Wake, Reason, effect_note, IsOpening, Outcomes, Settled, with_effect, IsDelivery}
use Rattle.model_laws.proofs.Words.{settle_note, collected_notes, accepted_orders}
use Rattle.base_words.specs.declared.note.Note.TheVariants as writes
use Rattle.base_words.specs.declared.order.Answer.TheVariants as answers
use Rattle.base_words.specs.Closing.{count_told, final_count}
use Rattle.base_words.specs.Commands.{refusal}
use Rattle.base_words.specs.Filters.{order_sent}
use Rattle.base_words.specs.Journal.{or_else, with_last}
use Rattle.core_core.specs.declared.turn.Settled.TheVariants as settled
use Rattle.base_words.specs.declared.note.OutcomeNote.{OutcomeNote}
use Rattle.actor_core.proofs.OwedNotes.{SettleNothing}
use Rattle.model_world.specs.Deliveries.{entry_note, IsAnswered}
use Rattle.model_world.specs.Turns.{poll_note}

-- none of them shuts a gate
abbrev pub ShutNothing : {T : Type 0} → List (Note T) → Type 0
ShutNothing [] = Unit {0}
ShutNothing (note ∷ notes) = ((sender : ℕ) → count_told sender note ≡ None) × ShutNothing notes

-- none of them tells that an order was accepted
abbrev pub SendNothing : {T : Type 0} → List (Note T) → Type 0
SendNothing [] = Unit {0}
SendNothing (note ∷ notes) = ((core : ℕ) → order_sent core note ≡ None) × SendNothing notes

module _ {T : Type 0} where
  pub final_count-longer : (sender : ℕ) (notes : List (Note T)) (before : Journal T) → ShutNothing notes → final_count sender (notes ++ before) ≡ final_count sender before
  final_count-longer sender [] before none = refl
  final_count-longer sender (note ∷ notes) before none =
      ap (λ told. or_else told (final_count sender (notes ++ before))) (none.0 sender) ∙ final_count-longer sender notes before none.1

  pub accepted_orders-longer : (core : ℕ) (notes : List (Note T)) (before : Journal T) → SendNothing notes → accepted_orders core (notes ++ before) ≡ accepted_orders core before
  accepted_orders-longer core [] before none = refl
  accepted_orders-longer core (note ∷ notes) before none =
      ap (λ told. with_last (accepted_orders core (notes ++ before)) told) (none.0 core) ∙ accepted_orders-longer core notes before none.1

  -- nothing was accepted at an opening, no gate is shut, and no poll is settled
  pub opening_sends_nothing : (journal : Journal T) → IsOpening journal → SendNothing journal
  opening_sends_nothing [] opening = tt
  opening_sends_nothing (writes.Created queue weight ∷ before) opening = ((λ core. refl), opening_sends_nothing before opening)
  opening_sends_nothing (_ ∷ before) opening = absurd opening

  pub opening_shuts_nothing : (journal : Journal T) → IsOpening journal → ShutNothing journal
  opening_shuts_nothing [] opening = tt
  opening_shuts_nothing (writes.Created queue weight ∷ before) opening = ((λ sender. refl), opening_shuts_nothing before opening)
  opening_shuts_nothing (_ ∷ before) opening = absurd opening

  pub opening_settles_nothing : (journal : Journal T) → IsOpening journal → SettleNothing journal
  opening_settles_nothing [] opening = tt
  opening_settles_nothing (writes.Created queue weight ∷ before) opening = (refl, opening_settles_nothing before opening)
  opening_settles_nothing (_ ∷ before) opening = absurd opening

-- none of them does any of the three
pub record AreStill {T : Type 0} (notes : List (Note T)) : Type 0 where
  pub settle : SettleNothing notes
  pub shut : ShutNothing notes
  pub send : SendNothing notes

module _ (T : Type 0) where
  pub none_still : AreStill {T = T} []
  none_still = record { settle = tt; shut = tt; send = tt }

module _ {T : Type 0} where
  -- so it is of notes behind others
  pub still_then : (later earlier : List (Note T)) → AreStill later → AreStill earlier → AreStill (later ++ earlier)
  still_then [] earlier one two = two
  still_then (note ∷ later) earlier one two =
      let rest = still_then later earlier (record { settle = one.settle.1; shut = one.shut.1; send = one.send.1 }) two in
      record { settle = (one.settle.0, rest.settle); shut = (one.shut.0, rest.shut); send = (one.send.0, rest.send) }

  pub collected_still : (outcomes : Outcomes T) → AreStill (collected_notes outcomes)
  collected_still [] = record { settle = tt; shut = tt; send = tt }
  collected_still (outcome ∷ later) =
      still_then (collected_notes later) (writes.Collected outcome.0 outcome.1 ∷ []) (collected_still later) (record { settle = (refl, tt); shut = ((λ sender. refl), tt); send = ((λ core. refl), tt) })

module _ (T : Type 0) where
  pub redeemed_still : (name : JobId) (outcome : OutcomeNote T) → AreStill (writes.Redeemed name outcome ∷ [])
  redeemed_still name outcome = record { settle = (refl, tt); shut = ((λ sender. refl), tt); send = ((λ core. refl), tt) }

  pub detached_still : (name : JobId) → AreStill {T = T} (writes.Detached name ∷ [])
  detached_still name = record { settle = (refl, tt); shut = ((λ sender. refl), tt); send = ((λ core. refl), tt) }

  pub back_still : (name : JobId) (reason : Reason) (queue runtime : ℕ) → AreStill {T = T} (writes.Returned name reason ∷ writes.Pick queue runtime ∷ [])
  back_still name reason queue runtime =
      record { settle = (refl, (refl, tt)); shut = ((λ sender. refl), ((λ sender. refl), tt)); send = ((λ core. refl), ((λ core. refl), tt)) }

  pub pick_still : (queue runtime : ℕ) → AreStill {T = T} (writes.Pick queue runtime ∷ [])
  pick_still queue runtime = record { settle = (refl, tt); shut = ((λ sender. refl), tt); send = ((λ core. refl), tt) }

  pub begun_still : (name : JobId) (started : Bool) (begun : List (Note T)) → AreStill begun → AreStill (poll_note name started ∷ begun)
  begun_still name false begun still = record { settle = (refl, still.settle); shut = ((λ sender. refl), still.shut); send = ((λ core. refl), still.send) }
  begun_still name true begun still = record { settle = (refl, still.settle); shut = ((λ sender. refl), still.shut); send = ((λ core. refl), still.send) }

  pub turned_still : (queue time : ℕ) → AreStill {T = T} (writes.Turned queue time ∷ [])
  turned_still queue time = record { settle = (refl, tt); shut = ((λ sender. refl), tt); send = ((λ core. refl), tt) }

  pub settled_shuts_nothing : (name : JobId) (time : ℕ) (came : Settled T) → ShutNothing (settle_note name time came ∷ [])
  settled_shuts_nothing name time (settled.Finished out) = ((λ sender. refl), tt)
  settled_shuts_nothing name time settled.Yielded = ((λ sender. refl), tt)
  settled_shuts_nothing name time settled.Parked = ((λ sender. refl), tt)
  settled_shuts_nothing name time settled.Stayed = ((λ sender. refl), tt)

  pub settled_sends_nothing : (name : JobId) (time : ℕ) (came : Settled T) → SendNothing (settle_note name time came ∷ [])
  settled_sends_nothing name time (settled.Finished out) = ((λ core. refl), tt)
  settled_sends_nothing name time settled.Yielded = ((λ core. refl), tt)
  settled_sends_nothing name time settled.Parked = ((λ core. refl), tt)
  settled_sends_nothing name time settled.Stayed = ((λ core. refl), tt)

  entry_still : (name : JobId) (queue : ℕ) (reason : Option Reason) → AreStill {T = T} (entry_note name queue reason ∷ [])
  entry_still name queue None = record { settle = (refl, tt); shut = ((λ sender. refl), tt); send = ((λ core. refl), tt) }
  entry_still name queue (Some reason) = record { settle = (refl, tt); shut = ((λ sender. refl), tt); send = ((λ core. refl), tt) }

  effect_still : (core : ℕ) (order : Order (Unit {0})) (answer : Answer) (name : JobId) → AreStill {T = T} (with_effect (effect_note core order answer) (writes.Answered name answer ∷ []))
  effect_still core (Create weight) (answers.Created queue) name =
      record { settle = (refl, (refl, tt)); shut = ((λ sender. refl), ((λ sender. refl), tt)); send = ((λ core. refl), ((λ core. refl), tt)) }
  effect_still core (SetShares queue weight) answers.SharesSet name =
      record { settle = (refl, (refl, tt)); shut = ((λ sender. refl), ((λ sender. refl), tt)); send = ((λ core. refl), ((λ core. refl), tt)) }
  effect_still core (Close queue mode) answers.Closed name =
      record { settle = (refl, (refl, tt)); shut = ((λ sender. refl), ((λ sender. refl), tt)); send = ((λ core. refl), ((λ core. refl), tt)) }
  effect_still core (CloseCore mode) answers.Closed name =
      record { settle = (refl, (refl, tt)); shut = ((λ sender. refl), ((λ sender. refl), tt)); send = ((λ core. refl), ((λ core. refl), tt)) }
  effect_still core (Wake actor number) answers.Woken name =
      record { settle = (refl, (refl, tt)); shut = ((λ sender. refl), ((λ sender. refl), tt)); send = ((λ core. refl), ((λ core. refl), tt)) }
  effect_still core _ _ name = record { settle = (refl, tt); shut = ((λ sender. refl), tt); send = ((λ core. refl), tt) }

  answer_still : (name : JobId) (order : Order (Unit {0})) (before : Journal T) (notes : List (Note T)) → IsAnswered name order before notes → AreStill notes
  answer_still name order before notes is = subst (λ notes. AreStill notes) (sym is.2) (effect_still name.to order is.0 name)

  pub delivery_still : {J : Type 0} (name : JobId) (order : Order J) (before : Journal T) (notes : List (Note T)) → IsDelivery name order before notes → AreStill notes
  delivery_still name (Job queue job) before notes is = subst (λ notes. AreStill notes) (sym is) (entry_still name queue (refusal queue before))
  delivery_still name (Create weight) before notes is = answer_still name (Create weight) before notes is
  delivery_still name (SetShares queue weight) before notes is = answer_still name (SetShares queue weight) before notes is
  delivery_still name (Close queue mode) before notes is = answer_still name (Close queue mode) before notes is
  delivery_still name (CloseCore mode) before notes is = answer_still name (CloseCore mode) before notes is
  delivery_still name (Wake actor number) before notes is = answer_still name (Wake actor number) before notes is
