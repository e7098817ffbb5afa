-- Outcomes: in a lawful journal whose deliveries are as sent, no job ends twice, none is done before it started, no command is answered twice, and what is redeemed was given.
use Rattle.base_words.proofs.Words.{Answer, Assembly, collected_outcomes, DeliversAsSent, EachNote, eq-eqb, false, false_from_ne_true, first_under, inl, inr, is_name, is_told, IsAcceptedCommand, IsAnswer, IsNextDelivered, IsOwn, JobId}
use Rattle.base_words.proofs.Words.{Journal, MayFollow, MayStand, name_answered, name_collected, name_detached, name_redeemed, Note, or_cases, or_parts, Order, order_of, outcome_collected, outcome_of, OutcomeNote, OutcomesRight, refl, Some}
use Rattle.base_words.proofs.Words.{StandsInOrder, subst, sym, Terms, true, true≢false, [], ◌∙◌, ◌∷◌, ◌≡◌, ◌≤◌}
use Rattle.base_words.specs.declared.note.Note.TheVariants.{Back, Answered, Done, Returned, Collected, Redeemed}
use Rattle.base_words.specs.declared.order.Order.TheVariants.{Job, Create, SetShares, Close, CloseCore, Wake}
use Rattle.base_words.proofs.Collected.{accepted_own, collected_own, nothing_collected_under}
use Rattle.base_words.proofs.JobsOut.{alone_out}
use Rattle.base_words.proofs.Known.{IsOld, known_of, first_in_line, next_old, not_old, still_old}
use Rattle.base_words.proofs.NameLemmas.{one_name, same_as_itself}
use Rattle.base_words.proofs.Starts.{started_of}
use Rattle.base_words.proofs.StartsOnce.{accepted_inside}
use Rattle.base_words.proofs.Under.{first_under-last, first_under-stays}

-- what is answered was sent as a command
command_answered : {T : Type 0} (assembly : Assembly T) (name : JobId) (order : Order (Unit {0})) (answer : Answer) (before : Journal T) →
    order_of name assembly ≡ Some order → IsAnswer name.to order answer before → IsAcceptedCommand name assembly
command_answered assembly name (Job queue task) answer before sent fits = absurd fits
command_answered assembly name (Create weight) answer before sent fits = rw sent
command_answered assembly name (SetShares queue weight) answer before sent fits = rw sent
command_answered assembly name (Close queue mode) answer before sent fits = rw sent
command_answered assembly name (CloseCore mode) answer before sent fits = rw sent
command_answered assembly name (Wake actor number) answer before sent fits = rw sent

-- what is collected for the first time stands under its name
collected_now : {T : Type 0} (name : JobId) (outcome : OutcomeNote T) (before : Journal T) → is_told name_collected name before ≡ false →
    first_under name (collected_outcomes name.to (Collected name outcome ∷ before)) ≡ Some outcome
collected_now name outcome before new =
    rw (eq-eqb name.to name.to refl) (first_under-last name (collected_outcomes name.to before) (name, outcome) (nothing_collected_under name before new) ∙ rw (same_as_itself name))

module _ {T : Type 0} (terms : Terms) where
  -- a command that is answered was delivered
  answering_old : (name : JobId) (note : Note T) (before : Journal T) → MayFollow terms note before → is_name name (name_answered note) ≡ true → IsOld name (note ∷ before)
  answering_old name (Answered other answer) before law now =
      subst (λ one. IsOld one (Answered other answer ∷ before)) (sym (one_name name other now)) (next_old terms other before _ law.0 refl)
  answering_old name _ before law now = cc

  -- each command that was answered was delivered
  pub answered_old : (name : JobId) (journal : Journal T) → EachNote (MayStand terms) journal → is_told name_answered name journal ≡ true → IsOld name journal
  answered_old name [] notes told = absurd (true≢false (sym told))
  answered_old name (note ∷ before) notes told =
      elim (or_cases (is_name name (name_answered note)) (is_told name_answered name before) told) [
        | inl now ↦ answering_old name note before notes.0.may_follow now
        | inr was ↦ still_old name note before (answered_old name before notes.1 was)
      ]

  -- what is delivered now is not old
  next_not_old : (name : JobId) (before : Journal T) → IsNextDelivered terms name before → IsOld name before → ⊥
  next_not_old name before next old = true≢false (sym (same_as_itself name) ∙ not_old terms name name before next old)

  -- the fourth clause of soundness, note by note, where what was collected under a name of this actor is what was given
  pub outcomes_right : (assembly : Assembly T) (journal : Journal T) → terms.actor ≤ terms.cores → EachNote (MayStand terms) journal → EachNote (DeliversAsSent assembly) journal →
      EachNote (StandsInOrder assembly) journal →
      ((name : JobId) (outcome : OutcomeNote T) → IsOwn terms name → first_under name (collected_outcomes name.to journal) ≡ Some outcome → outcome_of name assembly ≡ Some outcome) →
      EachNote (OutcomesRight assembly) journal
  outcomes_right assembly [] actor notes sent order given = tt
  outcomes_right assembly (note ∷ before) actor notes sent order given = (
    by_note note notes.0.may_follow sent.0 given,
    outcomes_right assembly before actor notes.1 sent.1 order.1
        (λ name outcome own found. given name outcome own (first_under-stays name (collected_outcomes name.to before) (outcome_collected name.to note) outcome found)),
  )
    where
      by_note : (note : Note T) → MayFollow terms note before → DeliversAsSent assembly note before →
          ((name : JobId) (outcome : OutcomeNote T) → IsOwn terms name → first_under name (collected_outcomes name.to (note ∷ before)) ≡ Some outcome → outcome_of name assembly ≡ Some outcome) →
          OutcomesRight assembly note before
      by_note (Done name time value) law as_sent given =
          let inside = (known_of terms before notes.1).out_inside name (alone_out name before law) in
          let started = (started_of terms before notes.1).out_started name (alone_out name before law) in
          (accepted_inside assembly name before order.1 inside, inside.going_on, started)
      by_note (Returned name reason) law as_sent given =
          let inside = (known_of terms before notes.1).line_inside law.0 name (first_in_line terms name law.0 before law.1) in
          (accepted_inside assembly name before order.1 inside, inside.going_on)
      by_note (Back name reason) law as_sent given =
          ((as_sent.0, as_sent.1), false_from_ne_true _ (λ ended. next_not_old name before law.0 ((known_of terms before notes.1).ended_old name ended)))
      by_note (Answered name answer) law as_sent given =
          (command_answered assembly name as_sent.0 answer before as_sent.1 as_sent.2, false_from_ne_true _ (λ answered. next_not_old name before law.0 (answered_old name before notes.1 answered)))
      by_note (Collected name outcome) law as_sent given =
          given name outcome (accepted_own terms name law.order before actor notes.1 law.accepted) (collected_now name outcome before law.new)
      by_note (Redeemed name outcome) law as_sent given = (
        law.collected,
        given name outcome (collected_own terms name outcome before actor notes.1 law.collected).0 law.collected,
        (or_parts (is_told name_redeemed name before) (is_told name_detached name before) law.kept).0,
      )
      by_note _ law as_sent given = tt
