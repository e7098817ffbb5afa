-- An outcome that is owed may be given on the end of its sender, and is owed no more then.
use Rattle.actor_core.proofs.Names.{◌≡◌, ℕ, [], ◌∷◌, ◌++◌, refl, sym, ◌∙◌, ap, subst, arith, cond, Option, Some, None, IfSome, option_map, eq-eqb, map-append, JobId, Order, Job, Outcome, Reason, outcome_note, Meaning, Inward, MayGive, Fits, Parked}
use Rattle.actor_core.proofs.Names.{Settled, Stayed, Yielded, IsSentUnder, outcome_settled, MayAnswer, RecordedView, IsRecorded, IsTaken, order_taken, IsInOf, IsInOwing, Gives, told_under, name_of, named_outcomes, Finished}
use Rattle.base_words.specs.declared.order.Outcome.TheVariants as outcome
use Rattle.base_words.specs.declared.note.OutcomeNote.TheVariants as note

module _ {J T : Type 0} (view : RecordedView J T) (name : JobId) (order : Order J) (took : order_taken view.took name ≡ Some order) (inward : Inward J T) where
  -- what is told under a name, for its own sender
  its_own : (outcome : Outcome J T) → told_under name (Some (outcome_note outcome)) name.from ≡ Some (name, outcome_note outcome)
  its_own outcome = ap (λ test. cond test (Some (name, outcome_note outcome)) None) (eq-eqb name.from name.from refl)

  module _ (outcome : Outcome J T) (is : IsInOwing name.from (told_under name (Some (outcome_note outcome)) name.from) view inward) where
    owes : IsInOwing name.from (Some (name, outcome_note outcome)) view inward
    owes = subst (λ owed. IsInOwing name.from owed view inward) (its_own outcome) is

    may_give_one : IsTaken view.core.cores view.journal.notes name → (fits : Order J → Outcome J T → Type 0) → fits order outcome → MayGive fits inward name.number outcome
    may_give_one taken fits fit =
        let found = is.orders name order refl took in
        grind (arith, found, taken, fit, owes.ungiven)

    gave_one : IsInOf name.from view (record inward { given = inward.given ++ (name.number, outcome) ∷ [] })
    gave_one =
        let found = is.orders name order refl took in
        let its_name : name ≡ name_of name.from view.core.core name.number = found.1 ∙ ap (name_of name.from view.core.core) (sym (ap (λ name. name.number) found.1)) in
        assumption (
        owes.given
        ∙ (ap (λ id. named_outcomes name.from view.core.core inward.given ++ (id, outcome_note outcome) ∷ []) its_name
        ∙ sym (map-append (λ outcome. (name_of name.from view.core.core outcome.0, outcome_note outcome.1)) inward.given ((name.number, outcome) ∷ [])))
        )

  -- an outcome that there may be may be given, and is owed no more then
  pub given : IsTaken view.core.cores view.journal.notes name → (fits : Order J → Outcome J T → Type 0) (outcome : Option (Outcome J T)) → IfSome outcome (fits order) →
      IsInOwing name.from (told_under name (option_map outcome_note outcome) name.from) view inward →
      IfSome outcome (λ outcome. MayGive fits inward name.number outcome) × ((after : Inward J T) → Gives inward name.number outcome after → IsInOf name.from view after)
  given taken fits None fit is = (tt, λ after gives. subst (IsInOf name.from view) (sym gives) is)
  given taken fits (Some outcome) fit is = (may_give_one outcome is taken fits fit, λ after gives. subst (IsInOf name.from view) (sym gives) (gave_one outcome is))

-- what is given changes nothing else of an end
pub gave_rest : {J T : Type 0} (before : Inward J T) (number : ℕ) (outcome : Option (Outcome J T)) (after : Inward J T) → Gives before number outcome after → after ≡ record before { given = after.given }
gave_rest before number None after gives = subst (λ after. after ≡ record before { given = after.given }) (sym gives) refl
gave_rest before number (Some outcome) after gives = subst (λ after. after ≡ record before { given = after.given }) (sym gives) refl

-- a job that is handed back may be given back
pub given_back : {J T : Type 0} (meaning : Meaning J T) (view : RecordedView J T) → IsRecorded meaning view →
    (name : JobId) (reason : Reason) (order : Order J) → IsSentUnder meaning view.took name order → (inward : Inward J T) → IsInOwing name.from (Some (name, note.Returned reason)) view inward →
    MayGive (Fits meaning) inward name.number (outcome.Returned reason order) × ((after : Inward J T) → Gives inward name.number (Some (outcome.Returned reason order)) after → IsInOf name.from view after)
given_back {T = T} meaning view recorded name reason order under inward is =
    let fit : Fits meaning (Job under.queue under.sent) (outcome.Returned reason order) = subst (λ order. Fits meaning (Job under.queue under.sent) (outcome.Returned reason order)) (sym under.back) (refl, under.same_task) in
    given view name (Job under.queue under.sent) under.task inward (recorded.taken name _ under.task) (Fits meaning) (Some (outcome.Returned reason order)) fit
    (subst (λ owed. IsInOwing name.from owed view inward) (sym (its_own view name (Job under.queue under.sent) under.task inward (outcome.Returned reason order))) is)

-- the outcome of a turn may be given, if the job is done
pub given_done : {J T : Type 0} (meaning : Meaning J T) (view : RecordedView J T) → IsRecorded meaning view → (name : JobId) (inward : Inward J T)
    (settled : Settled T) → MayAnswer meaning view.took name settled → IsInOwing name.from (told_under name (option_map outcome_note (outcome_settled {J = J} settled)) name.from) view inward →
    IfSome (outcome_settled settled) (λ outcome. MayGive (Fits meaning) inward name.number outcome) × ((after : Inward J T) → Gives inward name.number (outcome_settled settled) after → IsInOf name.from view after)
given_done meaning view recorded name inward Yielded may is = (tt, λ after gives. subst (IsInOf name.from view) (sym gives) is)
given_done meaning view recorded name inward Parked may is = (tt, λ after gives. subst (IsInOf name.from view) (sym gives) is)
given_done meaning view recorded name inward Stayed may is = (tt, λ after gives. subst (IsInOf name.from view) (sym gives) is)
given_done meaning view recorded name inward (Finished answer) may is =
    given view name (Job may.0 may.1) may.2 inward (recorded.taken name _ may.2) (Fits meaning) (Some (outcome.Finished answer)) may.3 is
