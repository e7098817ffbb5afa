-- What an actor collects and redeems is under names that it sent.
use Rattle.base_words.proofs.Words.{accepted_orders, Answer, AnswersClosing, AnswersCoreClosing, AnswersCreation, AnswersShares, AnswersWaking, arith, Bool, collected_outcomes, cond, EachNote, false, first_under, FitsOrder, inl, inr}
use Rattle.base_words.proofs.Words.{is_name, is_told, IsNextSent, IsOwn, IsSpelledAnswer, IsSpelledOutcome, JobId, Journal, MayFollow, MayStand, name_collected, None, Note, or_parts, Order, order_sent, outcome_collected, OutcomeNote, refl}
use Rattle.base_words.proofs.Words.{Some, subst, sym, Terms, true, with_last, [], ◌==◌, ◌∙◌, ◌∷◌, ◌≡◌, ◌≤◌}
use Rattle.base_words.specs.declared.note.Note.TheVariants.{Sent, Collected}
use Rattle.base_words.specs.declared.note.OutcomeNote.TheVariants as outcomes
use Rattle.base_words.specs.declared.order.Answer.TheVariants as answers
use Rattle.base_words.specs.declared.order.Order.TheVariants.{Job, Create, SetShares, Close, CloseCore, Wake}
use Rattle.base_words.proofs.NameLemmas.{one_name}
use Rattle.base_words.proofs.Under.{first_under-last, first_under-came}

-- an answer of a creation can be spelled
creation_spelled : (answer : Answer) → AnswersCreation answer → IsSpelledAnswer answer
creation_spelled (answers.Created queue) fits = fits
creation_spelled _ fits = tt

-- so can one of a change of shares
shares_spelled : (answer : Answer) → AnswersShares answer → IsSpelledAnswer answer
shares_spelled (answers.Created queue) fits = absurd fits
shares_spelled _ fits = tt

-- so can one of a closing
closing_spelled : (answer : Answer) → AnswersClosing answer → IsSpelledAnswer answer
closing_spelled (answers.Created queue) fits = absurd fits
closing_spelled _ fits = tt

-- of a queue or of the core
core_closing_spelled : (answer : Answer) → AnswersCoreClosing answer → IsSpelledAnswer answer
core_closing_spelled (answers.Created queue) fits = absurd fits
core_closing_spelled _ fits = tt

-- so can one of a wake
waking_spelled : (answer : Answer) → AnswersWaking answer → IsSpelledAnswer answer
waking_spelled (answers.Created queue) fits = absurd fits
waking_spelled _ fits = tt

-- an outcome that fits its order can be spelled
pub fitting_spelled : {T : Type 0} (order : Order (Unit {0})) (outcome : OutcomeNote T) → FitsOrder order outcome → IsSpelledOutcome outcome
fitting_spelled (Job queue task) (outcomes.Answered answer) fits = absurd fits
fitting_spelled (Create weight) (outcomes.Answered answer) fits = creation_spelled answer fits
fitting_spelled (SetShares queue weight) (outcomes.Answered answer) fits = shares_spelled answer fits
fitting_spelled (Close queue mode) (outcomes.Answered answer) fits = closing_spelled answer fits
fitting_spelled (CloseCore mode) (outcomes.Answered answer) fits = core_closing_spelled answer fits
fitting_spelled (Wake actor number) (outcomes.Answered answer) fits = waking_spelled answer fits
fitting_spelled order (outcomes.Finished value) fits = tt
fitting_spelled order (outcomes.Returned reason) fits = tt

-- where nothing was collected under a name, nothing stands there
pub nothing_collected_under : {T : Type 0} (name : JobId) (journal : Journal T) → is_told name_collected name journal ≡ false →
    first_under name (collected_outcomes name.to journal) ≡ None
nothing_collected_under name [] new = refl
nothing_collected_under {T} name (note ∷ before) new =
    by_note note (or_parts (is_name name (name_collected note)) (is_told name_collected name before) new).0
    (nothing_collected_under name before (or_parts (is_name name (name_collected note)) (is_told name_collected name before) new).1)
  where
    by_note : (note : Note T) → is_name name (name_collected note) ≡ false → first_under name (collected_outcomes name.to before) ≡ None →
        first_under name (with_last (collected_outcomes name.to before) (outcome_collected name.to note)) ≡ None
    by_note (Collected other outcome) apart nothing = by_test (other.to == name.to)
      where
        by_test : (test : Bool) → first_under name (with_last (collected_outcomes name.to before) (cond test (Some (other, outcome)) None)) ≡ None
        by_test true = first_under-last name (collected_outcomes name.to before) (other, outcome) nothing ∙ rw apart
        by_test false = nothing
    by_note _ apart nothing = nothing

module _ {T : Type 0} (terms : Terms) where
  -- what is sent is under a name of this actor
  sent_own : (name : JobId) (order : Order (Unit {0})) (before : Journal T) → terms.actor ≤ terms.cores → IsNextSent terms name order before → IsOwn terms name
  sent_own name order before actor next = (
    record {
      sender = rw next.sender actor;
      receiver = next.receiver;
      positive = omega (arith, next.next);
      in_range = omega (arith, next.in_range);
    },
    next.sender,
  )

  -- an order that is found under a name was sent under it, by this actor
  pub accepted_own : (name : JobId) (order : Order (Unit {0})) (journal : Journal T) → terms.actor ≤ terms.cores → EachNote (MayStand terms) journal →
      first_under name (accepted_orders name.to journal) ≡ Some order → IsOwn terms name
  accepted_own name order [] actor notes found = cc
  accepted_own name order (note ∷ before) actor notes found = by_note note notes.0.may_follow (accepted_own name order before actor notes.1) found
    where
      by_note : (note : Note T) → MayFollow terms note before → (first_under name (accepted_orders name.to before) ≡ Some order → IsOwn terms name) →
          first_under name (with_last (accepted_orders name.to before) (order_sent name.to note)) ≡ Some order → IsOwn terms name
      by_note (Sent other sent) law was found = by_test (other.to == name.to) found
        where
          by_test : (test : Bool) → first_under name (with_last (accepted_orders name.to before) (cond test (Some (other, sent)) None)) ≡ Some order → IsOwn terms name
          by_test false found = was found
          by_test true found =
              elim (first_under-came name (accepted_orders name.to before) (other, sent) order found) [
                | inl there ↦ was there
                | inr came ↦ subst (IsOwn terms) (sym (one_name name other came.0)) (sent_own other sent before actor law)
              ]
      by_note _ law was found = was found

  -- what is found among the collected is under a name of this actor, and can be spelled
  pub collected_own : (name : JobId) (outcome : OutcomeNote T) (journal : Journal T) → terms.actor ≤ terms.cores → EachNote (MayStand terms) journal →
      first_under name (collected_outcomes name.to journal) ≡ Some outcome → IsOwn terms name × IsSpelledOutcome outcome
  collected_own name outcome [] actor notes found = cc
  collected_own name outcome (note ∷ before) actor notes found = by_note note notes.0.may_follow (collected_own name outcome before actor notes.1) found
    where
      by_note : (note : Note T) → MayFollow terms note before →
          (first_under name (collected_outcomes name.to before) ≡ Some outcome → IsOwn terms name × IsSpelledOutcome outcome) →
          first_under name (with_last (collected_outcomes name.to before) (outcome_collected name.to note)) ≡ Some outcome → IsOwn terms name × IsSpelledOutcome outcome
      by_note (Collected other what) law was found = by_test (other.to == name.to) found
        where
          by_test : (test : Bool) → first_under name (with_last (collected_outcomes name.to before) (cond test (Some (other, what)) None)) ≡ Some outcome →
              IsOwn terms name × IsSpelledOutcome outcome
          by_test false found = was found
          by_test true found =
              elim (first_under-came name (collected_outcomes name.to before) (other, what) outcome found) [
                | inl there ↦ was there
                | inr came ↦ (
                  subst (IsOwn terms) (sym (one_name name other came.0)) (accepted_own other law.order before actor notes.1 law.accepted),
                  subst IsSpelledOutcome came.1 (fitting_spelled law.order what law.fits),
                )
              ]
      by_note _ law was found = was found
