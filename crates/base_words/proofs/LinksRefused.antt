-- What each of these orders calls for is something else.
use Rattle.base_words.proofs.Words.{Answer, ap, arith, effect_note, inl, inr, IsAnswer, Journal, LinksAreRefused, Note, Option, Order, Outcomes, refl, refusal, same_Some, Some, subst, sym, ℕ, [], ◌∙◌, ◌∷◌, ◌≡◌}
use Rattle.base_words.specs.declared.note.Note.TheVariants as notes
use Rattle.base_words.specs.declared.note.OutcomeNote.TheVariants.{Finished}
use Rattle.base_words.specs.declared.order.Answer.TheVariants as answers
use Rattle.base_words.specs.declared.order.Mode.TheVariants.{Finish, Return}
use Rattle.base_words.specs.declared.order.Order.TheVariants.{Job, Create, Close, CloseCore}
use Rattle.base_words.specs.declared.order.Reason.TheVariants as why
use Rattle.base_words.proofs.NameLemmas.{first_number}

-- what answers the order that was accepted answers the one that was sent
answers_sent : (sent order : Order (Unit {0})) (answer : Answer) (before : Journal ℕ) → Some sent ≡ Some order → IsAnswer 0 order answer before → IsAnswer 0 sent answer before
answers_sent sent order answer before accepted fits = subst (λ one. IsAnswer 0 one answer before) (sym (same_Some sent order accepted)) fits

-- no creation is answered as if it set shares
not_shares : IsAnswer {T = ℕ} 0 (Create 500) answers.SharesSet [] → ⊥
not_shares creation = elim creation [ inl none ↦ cc | inr created ↦ cc ]

-- a job for this queue
abbrev job_for : ℕ → Order (Unit {0})
job_for queue = Job queue tt

-- no job for queue 0 goes back for want of its queue
not_denied : (queue : ℕ) → Some (job_for 0) ≡ Some (job_for queue) → refusal {T = ℕ} queue [] ≡ Some why.NoQueue → ⊥
not_denied queue sent refused =
    let same : 0 ≡ queue = cc in
    let at_0 : refusal {T = ℕ} 0 [] ≡ Some why.NoQueue = subst (λ one. refusal {T = ℕ} one [] ≡ Some why.NoQueue) (sym same) refused in
    cc

-- the shares that a note gives
abbrev shares_given : Option (Note ℕ) → ℕ
shares_given (Some (notes.Created queue weight)) = weight
shares_given _ = 0

-- a creation gives the shares that it says
not_600 : (order : Order (Unit {0})) → Some (Create 500) ≡ Some order → effect_note {T = ℕ} 0 order (answers.Created 1) ≡ Some (notes.Created 1 600) → ⊥
not_600 order sent carried =
    let given : shares_given (effect_note {T = ℕ} 0 (Create 500) (answers.Created 1)) ≡ 600 =
    subst (λ one. shares_given (effect_note {T = ℕ} 0 one (answers.Created 1)) ≡ 600) (sym (same_Some (Create 500) order sent)) (ap shares_given carried) in
    let weight : ◌≡◌ {A = ℕ} 500 600 = given in
    omega arith

-- the journal of a core that is closed
abbrev closed : Journal ℕ
closed = notes.CoreClosed Finish ∷ []

-- the closing of a queue has one effect
not_other_effect : (order : Order (Unit {0})) (note : Note ℕ) → Some (Close 0 Finish) ≡ Some order → effect_note {T = ℕ} 0 order answers.Closed ≡ Some note → note ≡ notes.QueueClosed 0 Finish
not_other_effect order note sent carried =
    let same = same_Some (Close 0 Finish) order sent in
    let effect : effect_note {T = ℕ} 0 (Close 0 Finish) answers.Closed ≡ Some note = ap (λ one. effect_note {T = ℕ} 0 one answers.Closed) same ∙ carried in
    sym (same_Some (notes.QueueClosed 0 Finish) note effect)

-- the answer of the first of these outcomes
abbrev first_value : Outcomes ℕ → ℕ
first_value ((name, Finished value) ∷ rest) = value
first_value _ = 0

pub links_refused : LinksAreRefused
links_refused = record {
  answer = λ agree. let sent = (agree.as_sent 0 (omega arith)).1.0 in not_shares (answers_sent (Create 500) sent.0 answers.SharesSet [] sent.1 sent.2);
  refusal = λ agree. let sent = (agree.as_sent 0 (omega arith)).0 in not_denied sent.0 sent.1 sent.2;
  effect = λ agree. let sent = (agree.as_sent 0 (omega arith)).0 refl in not_600 sent.0 sent.1 sent.2;
  closing = λ agree. let sent = (agree.as_sent 0 (omega arith)).0 in let answer = answers_sent (Close 0 Finish) sent.0 answers.AlreadyClosed [] sent.1 sent.2 in cc;
  mode = λ agree. let sent = (agree.as_sent 0 (omega arith)).0 refl in let effect = not_other_effect sent.0 (notes.QueueClosed 0 Return) sent.1 sent.2 in cc;
  core = λ agree. let sent = (agree.as_sent 0 (omega arith)).0 refl in let effect = not_other_effect sent.0 (notes.CoreClosed Finish) sent.1 sent.2 in cc;
  again = λ agree. let sent = (agree.as_sent 0 (omega arith)).0 in let answer = answers_sent (CloseCore Finish) sent.0 answers.Closed closed sent.1 sent.2 in cc;
  stricter = λ agree. let sent = (agree.as_sent 0 (omega arith)).0 in let answer = answers_sent (CloseCore Return) sent.0 answers.AlreadyClosed closed sent.1 sent.2 in cc;
  delivered = λ agree. let first : 1 ≡ 2 = ap first_number (agree.deliveries 1 0 (omega arith) (omega arith)).1 in cc;
  count = λ agree. let count : 0 ≡ 1 = agree.gates 1 0 (omega arith) (omega arith) 0 refl in omega arith;
  outcome = λ agree. let given = (agree.collections 1 0 (omega arith) (omega arith)).1 in let value : 7 ≡ 8 = ap first_value given in cc;
}
