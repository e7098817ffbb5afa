-- A name that wasn't sent is neither redeemed nor detached, so the next one can be detached once it is sent.
use Rattle.std.proofs.Common.{ap, arith, cond, inl, inr, length, ◌+◌, ◌∙◌, ◌∷◌, ◌≡◌, ◌≤◌, refl, subst, sym, []}
use Rattle.std.proofs.lemmas.Bool.{eq-eqb, false_from_ne_true}
use Rattle.std.proofs.lemmas.List.{length-append}
use Rattle.std.specs.Prelude.{Bool, true, false, None, Option, Some, ◌==◌, ◌||◌}
use Rattle.base_words.specs.declared.names.JobId.{JobId}
use Rattle.base_words.specs.declared.note.Note.{Note}
use Rattle.base_words.specs.declared.note.Note.TheVariants.{Sent, Collected, Redeemed, Detached}
use Rattle.base_words.specs.declared.note.OutcomeNote.{OutcomeNote}
use Rattle.base_words.specs.declared.order.Order.{Order}
use Rattle.base_words.specs.Assembly.{first_under}
use Rattle.base_words.specs.Collecting.{IsDetachable}
use Rattle.base_words.specs.Filters.{accepted_orders, collected_outcomes, order_sent, outcome_collected}
use Rattle.base_words.specs.Journal.{Journal, EachNote, is_told, with_last}
use Rattle.base_words.specs.Lawful.{IsNextSent, MayFollow, MayStand}
use Rattle.base_words.specs.Names.{same_name}
use Rattle.base_words.specs.Outstanding.{is_gone, name_detached, name_redeemed}
use Rattle.base_words.specs.Terms.{Terms}
use Rattle.base_words.proofs.NameLemmas.{one_name, same_as_itself}
use Rattle.base_words.proofs.Told.{grows}
use Rattle.base_words.proofs.Under.{first_under-came, first_under-last}

-- so many orders were accepted on its link
abbrev WasSent : {T : Type 0} → JobId → Journal T → Type 0
WasSent name notes = name.number ≤ length (accepted_orders name.to notes)

still_sent : {T : Type 0} (name : JobId) (note : Note T) (before : Journal T) → WasSent name before → WasSent name (note ∷ before)
still_sent name note before sent = omega (arith, sent, grows (accepted_orders name.to before) (order_sent name.to note))

module _ {T : Type 0} (terms : Terms) where
  accepted_sent : (name : JobId) (order : Order (Unit {0})) (notes : Journal T) → EachNote (MayStand terms) notes → first_under name (accepted_orders name.to notes) ≡ Some order → WasSent name notes
  accepted_sent name order [] lawful found = cc
  accepted_sent name order (note ∷ before) lawful found = by_note note lawful.0.may_follow (accepted_sent name order before lawful.1) found
    where
      by_note : (note : Note T) → MayFollow terms note before → (first_under name (accepted_orders name.to before) ≡ Some order → WasSent name before) →
          first_under name (with_last (accepted_orders name.to before) (order_sent name.to note)) ≡ Some order → WasSent name (note ∷ before)
      by_note (Sent other sent) law was found = by_test (other.to == name.to) found
        where
          by_test : (test : Bool) → first_under name (with_last (accepted_orders name.to before) (cond test (Some (other, sent)) None)) ≡ Some order →
              name.number ≤ length (with_last (accepted_orders name.to before) (cond test (Some (other, sent)) None))
          by_test false found = was found
          by_test true found =
              elim (first_under-came name (accepted_orders name.to before) (other, sent) order found) [
                | inl there ↦ omega (arith, was there, length-append (accepted_orders name.to before) ((other, sent) ∷ []))
                | inr came ↦
                    let next : name.number ≡ length (accepted_orders name.to before) + 1 = subst (λ one. one.number ≡ length (accepted_orders one.to before) + 1) (sym (one_name name other came.0)) law.next in
                    omega (arith, next, length-append (accepted_orders name.to before) ((other, sent) ∷ []))
              ]
      by_note _ law was found = was found

  collected_sent : (name : JobId) (outcome : OutcomeNote T) (notes : Journal T) → EachNote (MayStand terms) notes → first_under name (collected_outcomes name.to notes) ≡ Some outcome → WasSent name notes
  collected_sent name outcome [] lawful found = cc
  collected_sent name outcome (note ∷ before) lawful found = still_sent name note before (by_note note lawful.0.may_follow (collected_sent name outcome before lawful.1) found)
    where
      by_note : (note : Note T) → MayFollow terms note before → (first_under name (collected_outcomes name.to before) ≡ Some outcome → WasSent name before) →
          first_under name (with_last (collected_outcomes name.to before) (outcome_collected name.to note)) ≡ Some outcome → WasSent name before
      by_note (Collected other what) law was found = by_test (other.to == name.to) found
        where
          by_test : (test : Bool) → first_under name (with_last (collected_outcomes name.to before) (cond test (Some (other, what)) None)) ≡ Some outcome → WasSent name before
          by_test false found = was found
          by_test true found =
              elim (first_under-came name (collected_outcomes name.to before) (other, what) outcome found) [
                | inl there ↦ was there
                | inr came ↦ subst (λ one. WasSent one before) (sym (one_name name other came.0)) (accepted_sent other law.order before lawful.1 law.accepted)
              ]
      by_note _ law was found = was found

  gone_sent : (name : JobId) (notes : Journal T) → EachNote (MayStand terms) notes → is_gone name notes ≡ true → WasSent name notes
  gone_sent name [] lawful gone = cc
  gone_sent name (note ∷ before) lawful gone = still_sent name note before (by_note note lawful.0.may_follow (gone_sent name before lawful.1) gone)
    where
      by_note : (note : Note T) → MayFollow terms note before → (is_gone name before ≡ true → WasSent name before) → is_gone name (note ∷ before) ≡ true → WasSent name before
      by_note (Redeemed other outcome) law was gone = by_test (same_name name other) refl gone
        where
          by_test : (test : Bool) → same_name name other ≡ test → (test || is_told name_redeemed name before || is_told name_detached name before) ≡ true → WasSent name before
          by_test false same gone = was gone
          by_test true same gone = subst (λ one. WasSent one before) (sym (one_name name other same)) (collected_sent other outcome before lawful.1 law.collected)
      by_note (Detached other) law was gone = by_test (same_name name other) refl gone
        where
          by_test : (test : Bool) → same_name name other ≡ test → (is_told name_redeemed name before || (test || is_told name_detached name before)) ≡ true → WasSent name before
          by_test false same gone = was gone
          by_test true same gone = subst (λ one. WasSent one before) (sym (one_name name other same)) (accepted_sent other law.order before lawful.1 law.accepted)
      by_note _ law was gone = was gone

  -- the next order that is sent can be detached
  pub sent_waits : (name : JobId) (order : Order (Unit {0})) (before : Journal T) → EachNote (MayStand terms) before → IsNextSent terms name order before → IsDetachable name (Sent name order ∷ before)
  sent_waits name order before lawful next = record {
    order = order;
    accepted =
        ap (λ test. first_under name (with_last (accepted_orders name.to before) (cond test (Some (name, order)) None))) (eq-eqb name.to name.to refl)
        ∙ (first_under-last name (accepted_orders name.to before) (name, order) (none (first_under name (accepted_orders name.to before)) refl)
        ∙ ap (λ test. cond test (Some order) None) (same_as_itself name));
    kept = false_from_ne_true _ (λ gone. unsent (gone_sent name before lawful gone));
  }
    where
      unsent : WasSent name before → ⊥
      unsent sent = omega (arith, sent, next.next)

      none : (found : Option (Order (Unit {0}))) → first_under name (accepted_orders name.to before) ≡ found → found ≡ None
      none None is = refl
      none (Some other) is = absurd (unsent (accepted_sent name other before lawful is))
