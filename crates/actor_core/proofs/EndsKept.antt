-- The ends of links beside a journal that grows; and a job that is inside was given no outcome, neither by its journal nor on its end.
use Rattle.actor_core.proofs.Names.{◌≡◌, ℕ, ◌+◌, List, [], ◌∷◌, length, refl, sym, ◌∙◌, ap, arith, Option, Some, slice_get, Bool, true, false, length-append, JobId, OutcomeNote, with_last, Order, given_outcomes, Inward, final_count, SeesMore}
use Rattle.actor_core.proofs.Names.{final_of, RecordedView, order_taken, delivered_count, IsInOf, LeavesOwed, IsUngiven, IsSameSeat, named_outcomes, subst, ◌⊎◌, ⊎_elim, inl, inr, cond, ◌==◌, None, or_parts, eqb-true, true≢false, option_map}
use Rattle.actor_core.proofs.Names.{none-some, same_Some, slice_get-map, Note, Job, IsAnswer, if_from, name_ended, outcome_given, DeliversAs, Journal, EachNote, is_told, same_name, is_name, outcome_note, same_as_itself, name_of, ◌≤◌}
use Rattle.actor_core.proofs.Names.{slice_get_within, ◌<◌}
use Rattle.link_ends.proofs.Lists.{slice_get-seen, slice_get-with_last}
use Rattle.base_words.specs.declared.note.Note.TheVariants as writes

module _ {J T : Type 0} (old new : RecordedView J T) (seat : IsSameSeat old new) (sender : ℕ)
    (owed : Option (JobId × OutcomeNote T)) (given : given_outcomes sender new.journal.notes ≡ with_last (given_outcomes sender old.journal.notes) owed)
    (gates : final_count sender new.journal.notes ≡ final_count sender old.journal.notes) (ungiven : (inward : Inward J T) → IsInOf sender old inward → IsUngiven owed inward.given) where
  -- a step by which nothing of a sender is delivered leaves the end of that sender as it is, or owing
  pub keeps_in : delivered_count new.journal.notes sender ≡ delivered_count old.journal.notes sender →
      ((name : JobId) (order : Order J) → name.from ≡ sender → order_taken new.took name ≡ Some order → order_taken old.took name ≡ Some order) →
      LeavesOwed sender owed old new
  keeps_in same back = record {
    each = λ inward is. record {
      known = rw seat.cores is.known;
      from = is.from;
      to = is.to ∙ sym seat.number;
      base = is.base;
      capacity = is.capacity ∙ sym seat.cap;
      gate = gates ∙ is.gate;
      taken = same ∙ is.taken;
      behind = is.behind;
      given = given ∙ (ap (λ told. with_last told owed) is.given ∙ ap (λ number. with_last (named_outcomes sender number inward.given) owed) (sym seat.number));
      ungiven = ungiven inward is;
      orders = λ name order from at.
          let found = is.orders name order from (back name order from at) in
          (found.0, found.1 ∙ ap (λ number. record { from = sender; to = number; number = found.0 + 1 }) (sym seat.number), found.2);
    };
  }

-- a gate that is shut stays so, at the same number
pub final_of-more : {J T : Type 0} (old new : Inward J T) → new.base ≡ old.base → new.shut ≡ old.shut → (old.shut ≡ true → new.seen ≡ old.seen) →
    final_of old old.shut ≡ final_of new new.shut
final_of-more old new base shut same = grind arith

-- seeing more changes nothing for the receiver's end
pub sees_more_in : {J T : Type 0} (sender : ℕ) (view : RecordedView J T) (old new : Inward J T) → new ≡ record old { seen = new.seen } → SeesMore old new →
    IsInOf sender view old → IsInOf sender view new
sees_more_in {J} sender view old new rest more is =
    let gate = is.gate ∙ final_of-more old (record old { seen = new.seen }) refl refl more.1 in
    let behind : old.taken ≤ length new.seen = omega (arith, is.behind, ap length more.0.1, length-append old.seen more.0.0) in
    let orders : (name : JobId) (order : Order J) → name.from ≡ sender → order_taken view.took name ≡ Some order → (place : ℕ) × (name ≡ name_of sender view.core.core (place + 1)) × (slice_get new.seen place ≡ Some order) =
    λ name order from at. let found = is.orders name order from at in (found.0, found.1, slice_get-seen new.seen old.seen more.0 found.0 order found.2) in
    subst (IsInOf sender view) (sym rest) (assumption (gate, behind, orders))

-- what stands in a list with one more at its end stood there, or is the last
last_or_before : {A : Type 0} (items : List A) (more : Option A) (place : ℕ) (item : A) → slice_get (with_last items more) place ≡ Some item →
    (slice_get items place ≡ Some item) ⊎ (more ≡ Some item)
last_or_before items None place item at = inl at
last_or_before items (Some more) place item at = elim (slice_get-with_last items more item place at) [ inl was ↦ inl was | inr last ↦ inr (ap Some last.1) ]

another : (name other : JobId) → same_name name other ≡ false → other ≡ name → ⊥
another name other apart one = true≢false (sym (same_as_itself name) ∙ subst (λ other. same_name name other ≡ false) one apart)

module _ {T : Type 0} (under : JobId → Option (Order (Unit {0}))) (name : JobId) (queue : ℕ) (is_job : under name ≡ Some (Job queue tt)) (sender : ℕ) where
  -- what is told as given to the sender of a name has that name
  its_name : (other : JobId) (what : OutcomeNote T) (entry : JobId × OutcomeNote T) (test : Bool) → cond test (Some (other, what)) None ≡ Some entry → other ≡ entry.0
  its_name other what entry test at = grind arith

  -- under the name of a job nothing is given before the job ends
  pub not_given : (journal : Journal T) → EachNote (DeliversAs under) journal → is_told name_ended name journal ≡ false →
      (place : ℕ) (entry : JobId × OutcomeNote T) → slice_get (given_outcomes sender journal) place ≡ Some entry → entry.0 ≡ name → ⊥
  not_given [] as_sent going place entry at one = absurd (let none : place < 0 = slice_get_within [] place entry at in omega (arith, none))
  not_given (note ∷ before) as_sent going place entry at one =
      let parts = or_parts (is_name name (name_ended note)) (is_told name_ended name before) going in
      ⊎_elim (λ was. not_given before as_sent.1 parts.1 place entry was one) (not_now note as_sent.0 parts.0) (last_or_before (given_outcomes sender before) (outcome_given sender note) place entry at)
    where
      not_now : (note : Note T) → DeliversAs under note before → is_name name (name_ended note) ≡ false → outcome_given sender note ≡ Some entry → ⊥
      not_now (writes.Done other time value) delivers apart now = another name other apart (its_name other _ entry (other.from == sender) now ∙ one)
      not_now (writes.Back other reason) delivers apart now = another name other apart (its_name other _ entry (other.from == sender) now ∙ one)
      not_now (writes.Returned other reason) delivers apart now = another name other apart (its_name other _ entry (other.from == sender) now ∙ one)
      not_now (writes.Answered other answer) delivers apart now =
          let is_order = same_Some _ _ (sym delivers.1 ∙ (ap under (its_name other _ entry (other.from == sender) now ∙ one) ∙ is_job)) in
          subst (λ order. IsAnswer other.to order answer before) is_order delivers.2
      not_now _ delivers apart now = none-some entry now

-- and so nothing is given under it on the end of its sender
module _ {J T : Type 0} (view : RecordedView J T) (sender : ℕ) (inward : Inward J T) (is : IsInOf sender view inward)
    (name : JobId) (order : Order J) (took : order_taken view.took name ≡ Some order)
    (fresh : (place : ℕ) (entry : JobId × OutcomeNote T) → slice_get (given_outcomes sender view.journal.notes) place ≡ Some entry → entry.0 ≡ name → ⊥) where
  pub ungiven_if : (what : OutcomeNote T) → IsUngiven (if_from sender name (name, what)) inward.given
  ungiven_if what = by_test (name.from == sender) refl
    where
      by_test : (test : Bool) → (name.from == sender) ≡ test → IsUngiven (cond test (Some (name, what)) None) inward.given
      by_test false away = tt
      by_test true one = λ place outcome at same.
          let found = is.orders name order (eqb-true name.from sender one) took in
          let number : outcome.0 ≡ found.0 + 1 = same ∙ ap (λ name. name.number) found.1 in
          fresh place (name_of sender view.core.core outcome.0, outcome_note outcome.1)
          (ap (λ list. slice_get list place) is.given ∙ (slice_get-map (λ outcome. (name_of sender view.core.core outcome.0, outcome_note outcome.1)) inward.given place
          ∙ ap (option_map (λ outcome. (name_of sender view.core.core outcome.0, outcome_note outcome.1))) at))
          (ap (name_of sender view.core.core) number ∙ sym found.1)
