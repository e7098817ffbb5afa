-- Each bad end of a park, and each bad wake, breaks the law of its note.
use Rattle.base_words.proofs.Words.{ap, arith, asleep, effect_note, inl, inr, IsAnswer, KeyAtMost, Note, Option, Order, refl, same_Some, Some, submission, subst, sym, WakesAreRefused, ℕ, ◌<◌, ◌≡◌}
use Rattle.std.specs.Prelude.{◌∷◌}
use Rattle.base_words.specs.declared.note.Note.TheVariants as notes
use Rattle.base_words.specs.declared.order.Answer.TheVariants as answers
use Rattle.base_words.specs.declared.order.Mode.TheVariants.{Finish}
use Rattle.base_words.specs.declared.order.Order.TheVariants.{Wake}
use Rattle.base_words.proofs.NameLemmas.{first_number}
use Rattle.base_words.proofs.StepsRefused.{its_queue}

-- the number of the job that a note wakes
abbrev number_woken : Option (Note ℕ) → ℕ
number_woken (Some (notes.Woken name)) = name.number
number_woken _ = 0

-- a wake wakes the job that it names
not_another : (order : Order (Unit {0})) → Some (Wake 1 1) ≡ Some order → effect_note {T = ℕ} 0 order answers.Woken ≡ Some (notes.Woken (submission 2)) → ⊥
not_another order sent carried =
    let number : number_woken (effect_note {T = ℕ} 0 (Wake 1 1) answers.Woken) ≡ 2 =
    subst (λ one. number_woken (effect_note {T = ℕ} 0 one answers.Woken) ≡ 2) (sym (same_Some (Wake 1 1) order sent)) (ap number_woken carried) in
    let same : ◌≡◌ {A = ℕ} 1 2 = number in
    omega arith

-- a parked job is inside, whether its queue is closed or not
not_denied : (order : Order (Unit {0})) → Some (Wake 1 1) ≡ Some order → IsAnswer 0 order answers.NoJob asleep → ⊥
not_denied order sent fits =
    let denied : IsAnswer 0 (Wake 1 1) answers.NoJob asleep = subst (λ one. IsAnswer 0 one answers.NoJob asleep) (sym (same_Some (Wake 1 1) order sent)) fits in
    cc

not_denied_closed : (order : Order (Unit {0})) → Some (Wake 1 1) ≡ Some order → IsAnswer 0 order answers.NoJob (notes.QueueClosed 0 Finish ∷ asleep) → ⊥
not_denied_closed order sent fits =
    let denied : IsAnswer 0 (Wake 1 1) answers.NoJob (notes.QueueClosed 0 Finish ∷ asleep) =
    subst (λ one. IsAnswer 0 one answers.NoJob (notes.QueueClosed 0 Finish ∷ asleep)) (sym (same_Some (Wake 1 1) order sent)) fits in
    cc

not_least : (runtime queue other_runtime other : ℕ) → other_runtime < runtime → KeyAtMost runtime queue other_runtime other → ⊥
not_least runtime queue other_runtime other lower least = elim least [ inl before ↦ omega arith | inr tied ↦ omega arith ]

pub wakes_refused : WakesAreRefused
wakes_refused = record {
  old_runtime = λ sound. let at = (sound.notes 0 (omega arith)).1.0.right.at in cc;
  beside = λ sound. let at = (sound.notes 0 (omega arith)).1.0.right.at in cc;
  closed_queue = λ sound. let at = (sound.notes 0 (omega arith)).1.0.right.at in cc;
  closed_core = λ sound. let at = (sound.notes 0 (omega arith)).1.0.right.at in cc;
  left_by_queue = λ sound. not_least 20 0 10 1 (omega arith) ((sound.notes 0 (omega arith)).1.0.right.least 1 (record { work = refl; nobody_out = refl; no_turn = refl }));
  left_by_core = λ sound. not_least 20 0 10 1 (omega arith) ((sound.notes 0 (omega arith)).1.0.right.least 1 (record { work = refl; nobody_out = refl; no_turn = refl }));
  finish = λ sound. let work = (sound.notes 0 (omega arith)).1.0.right.eligible.work in cc;
  unasked = λ law. law.0.effect;
  missing = λ law. law.0.effect;
  outside = λ law. let inside = law.0.may_follow in cc;
  head = λ law.
      let same = its_queue _ law.0.may_follow.0 _ law.0.may_follow.1 refl in
      let first : 2 ≡ 1 = ap first_number (rw same at law.0.may_follow.1.first) in
      cc;
  stayed_head = λ law.
      let same = its_queue _ law.0.may_follow.0 _ law.0.may_follow.1 refl in
      let first : 2 ≡ 1 = ap first_number (rw same at law.0.may_follow.1.first) in
      cc;
  before_waiting = λ law.
      let same = its_queue _ law.0.may_follow.0 _ law.0.may_follow.1 refl in
      let first : 2 ≡ 1 = ap first_number (rw same at law.0.may_follow.1.first) in
      cc;
  backwards = λ law.
      let same = its_queue _ law.0.may_follow.0 _ law.0.may_follow.1 refl in
      let first : 1 ≡ 2 = ap first_number (rw same at law.0.may_follow.1.first) in
      cc;
  by_name = λ law.
      let same = its_queue _ law.0.may_follow.0 _ law.0.may_follow.1 refl in
      let first : 2 ≡ 1 = ap first_number (rw same at law.0.may_follow.1.first) in
      cc;
  denied = λ agree. let sent = (agree.as_sent 0 (omega arith)).0 in not_denied sent.0 sent.1 sent.2;
  denied_closed = λ agree. let sent = (agree.as_sent 0 (omega arith)).0 in not_denied_closed sent.0 sent.1 sent.2;
  another_job = λ agree. let sent = (agree.as_sent 0 (omega arith)).0 refl in not_another sent.0 sent.1 sent.2;
}
