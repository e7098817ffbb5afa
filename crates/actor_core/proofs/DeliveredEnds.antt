-- The ends of links stay beside a core and its journal as an order is delivered.
use Rattle.actor_core.proofs.Names.{length-map, ◌≡◌, ℕ, ◌+◌, cond, length, refl, sym, ◌∙◌, ap, subst, ◌⊎◌, ⊎_elim, arith, ◌==◌, Option, Some, None, slice_get, option_map, eq-eqb, ne_eqb, JobId, Envelope, Order, Outcome, OutcomeNote, with_last}
use Rattle.actor_core.proofs.Names.{outcome_note, given_outcomes, number_if, Inward, SoundIn, AreNamed, Takes, RecordedView, order_taken, delivered_count, IsInOf, IsInOwing, GivesMore, told_under, KeepsIn, IsSameSeat, named_outcomes, IsNextIn}
use Rattle.actor_core.proofs.Names.{Receives}
use Rattle.actor_core.proofs.Received.{order_taken-parts}
use Rattle.link_ends.proofs.Lists.{slice_get-seen}
use Rattle.actor_core.proofs.EndsKept.{keeps_in, final_of-more}

-- what is told under a name is told to its sender alone
pub told_elsewhere : {T : Type 0} (name : JobId) (what : Option (OutcomeNote T)) (sender : ℕ) → (sender ≡ name.from → ⊥) → told_under name what sender ≡ None
told_elsewhere name None sender away = refl
told_elsewhere name (Some what) sender away = ap (λ test. cond test (Some (name, what)) None) (ne_eqb name.from sender (λ one. away (sym one)))

-- an end that shows one more has its name next, and a place for it
pub next_in : {J T : Type 0} (view : RecordedView J T) (before after : Inward J T) (envelope : Envelope J) → IsInOf before.from view before →
    Takes before after (Some envelope) → SoundIn after → IsNextIn view envelope.name
next_in view before after envelope is takes sound =
    let given : length (named_outcomes before.from view.core.core before.given) ≡ length before.given = length-map _ _ in grind (arith, given)

module _ {J T : Type 0} (old new : RecordedView J T) (envelope : Envelope J) (next : IsNextIn old envelope.name) (did : Receives old envelope new) (seat : IsSameSeat old new)
    (outcome : Option (Outcome J T)) (gives : GivesMore (told_under envelope.name (option_map outcome_note outcome)) old.journal.notes new.journal.notes) where
  abbrev name : JobId
  name = envelope.name

  -- what stands under a name stood there, or is the one that came
  parts : (which : JobId) (order : Order J) → order_taken new.took which ≡ Some order → (order_taken old.took which ≡ Some order) ⊎ ((which ≡ name) × (envelope.order ≡ order))
  parts which order at = order_taken-parts envelope old.took which order (subst (λ took. order_taken took which ≡ Some order) did.took at)

  counted_here : delivered_count new.journal.notes name.from ≡ delivered_count old.journal.notes name.from + 1
  counted_here = did.delivered name.from ∙ ap (λ test. delivered_count old.journal.notes name.from + number_if test) (eq-eqb name.from name.from refl)

  abbrev owed : Option (JobId × OutcomeNote T)
  owed = told_under name (option_map outcome_note outcome) name.from

  -- the end of this sender has one more taken, and owes its outcome, if there is one yet
  pub beside_owes : (before after : Inward J T) → IsInOf before.from old before → Takes before after (Some envelope) → SoundIn after → AreNamed before.base before.taken before.given →
      IsInOwing name.from owed new after
  beside_owes before after beside takes sound named = record {
    known = rw seat.cores next.sender;
    from = ap (λ end. end.from) takes.0 ∙ is.from;
    to = ap (λ end. end.to) takes.0 ∙ (is.to ∙ sym seat.number);
    base = ap (λ end. end.base) takes.0 ∙ is.base;
    capacity = ap (λ end. end.capacity) takes.0 ∙ (is.capacity ∙ sym seat.cap);
    gate = did.lists.gates name.from ∙ (is.gate ∙ final_of-more before after (ap (λ end. end.base) takes.0) (ap (λ end. end.shut) takes.0) takes.1.1);
    taken = counted_here ∙ (ap (λ count. count + 1) is.taken ∙ sym (ap (λ end. end.taken) takes.0));
    behind = sound.behind;
    given = gives name.from ∙ ap (λ told. with_last told owed) (is.given ∙ (λ i. named_outcomes name.from (sym seat.number i) (sym takes.0 i).given));
    ungiven = grind (arith, named.0);
    orders = λ which order from at. ⊎_elim (was which order from) (last which order) (parts which order at);
  }
    where
      is : IsInOf name.from old before
      is = subst (λ from. IsInOf from old before) (sym (ap (λ id. id.from) takes.2)) beside

      was : (which : JobId) (order : Order J) → which.from ≡ name.from → order_taken old.took which ≡ Some order →
          (place : ℕ) × (which ≡ record { from = name.from; to = new.core.core; number = place + 1 }) × (slice_get after.seen place ≡ Some order)
      was which order from at =
          let found = is.orders which order from at in
          (found.0, found.1 ∙ ap (λ number. record { from = name.from; to = number; number = found.0 + 1 }) (sym seat.number), slice_get-seen after.seen before.seen takes.1.0 found.0 order found.2)

      last : (which : JobId) (order : Order J) → (which ≡ name) × (envelope.order ≡ order) →
          (place : ℕ) × (which ≡ record { from = name.from; to = new.core.core; number = place + 1 }) × (slice_get after.seen place ≡ Some order)
      last which order at = (
        before.taken,
        at.0 ∙ (ap (λ to. record { from = name.from; to = to; number = name.number }) (next.receiver ∙ sym seat.number)
            ∙ ap (λ number. record { from = name.from; to = new.core.core; number = number }) (next.next ∙ ap (λ count. count + 1) is.taken)),
        takes.3 ∙ ap Some at.1,
      )

  -- the ends of other senders stay
  pub rest_keep : (before after : Inward J T) → Takes before after (Some envelope) → (sender : ℕ) → (sender ≡ before.from → ⊥) → KeepsIn sender old new
  rest_keep before after takes sender other =
      let away : sender ≡ name.from → ⊥ = λ one. other (one ∙ ap (λ id. id.from) takes.2) in
      let none : number_if (name.from == sender) ≡ 0 = ap number_if (ne_eqb name.from sender (λ one. away (sym one))) in
      keeps_in old new seat sender None (gives sender ∙ ap (with_last (given_outcomes sender old.journal.notes)) (told_elsewhere name (option_map outcome_note outcome) sender away)) (did.lists.gates sender) (λ inward is. tt)
      (omega (arith, did.delivered sender, none)) (λ which order from at. ⊎_elim (λ was. was) (λ last. absurd (away (sym from ∙ ap (λ id. id.from) last.0))) (parts which order at))
