-- Each order that was accepted of a drained core has an outcome.
use Rattle.std.proofs.Common.{◌≡◌, ℕ, ◌<◌, ◌≤◌, Bool, true, false, [], ◌∷◌, refl, sym, ◌∙◌, ap, subst, cond, arith}
use Rattle.std.specs.Prelude.{◌||◌, Option, Some, None, IfSome, is_some}
use Rattle.std.specs.Option.{IsSome, option_map}
use Rattle.std.proofs.lemmas.Bool.{eq-eqb, true≢false}
use Rattle.base_words.specs.declared.names.JobId.{JobId}
use Rattle.base_words.specs.declared.note.Note.{Note}
use Rattle.base_words.specs.declared.note.Note.TheVariants.{Back, Answered, Done, Returned}
use Rattle.base_words.specs.declared.note.OutcomeNote.{OutcomeNote}
use Rattle.base_words.specs.declared.note.OutcomeNote.TheVariants as outcome
use Rattle.base_words.specs.declared.order.Order.{Order}
use Rattle.base_words.specs.declared.order.Order.TheVariants.{Job}
use Rattle.base_words.specs.Assembly.{Assembly, first_under, is_command, journal_of, order_of, outcome_of}
use Rattle.base_words.specs.Clauses.{name_answered}
use Rattle.base_words.specs.Closing.{IsDrained}
use Rattle.base_words.specs.Filters.{given_outcomes, if_from, name_ended, outcome_given}
use Rattle.base_words.specs.Journal.{Journal, is_told}
use Rattle.base_words.specs.Names.{is_name, same_name}
use Rattle.base_words.specs.Orders.{without_job}
use Rattle.base_words.specs.Sound.{IsSound}
use Rattle.base_words.proofs.NameLemmas.{one_name, same_as_itself}
use Rattle.base_words.proofs.Under.{first_under-last, first_under-stays}
use Rattle.link_ends.specs.Fits.{Fits}
use Rattle.base_jobs.specs.Meanings.{Meaning}
use Rattle.run_runtime.specs.Laws.{IsToldOf, SubmittedOrdersAreTold}
use Rattle.run_runtime.specs.Outcomes.{AllHaveOutcomes, AreItsOrders, FitsItsOrder, Orders}
use Rattle.actor_caller.specs.State.{RuntimeView}
use Rattle.run_runtime.proofs.WrongAnswers.{the_callers}

module _ {T : Type 0} (name : JobId) where
  -- an outcome was given under the name
  record IsGiven (journal : Journal T) : Type 0 where
    what : OutcomeNote T
    first : first_under name (given_outcomes name.from journal) ≡ Some what

  -- a note gives one under it
  record Gives (note : Note T) : Type 0 where
    what : OutcomeNote T
    now : outcome_given name.from note ≡ Some (name, what)

  gives_own : (other : JobId) (what : OutcomeNote T) → same_name name other ≡ true → if_from {A = JobId × OutcomeNote T} name.from other (other, what) ≡ Some (name, what)
  gives_own other what same =
      let own : if_from {A = JobId × OutcomeNote T} name.from name (name, what) ≡ Some (name, what) = rw (eq-eqb name.from name.from refl) refl in
      subst (λ (other : JobId). if_from {A = JobId × OutcomeNote T} name.from other (other, what) ≡ Some (name, what)) (one_name name other same) own

  ended_gives : (note : Note T) → is_name name (name_ended note) ≡ true → Gives note
  ended_gives (Done other time value) same = record { what = outcome.Finished value; now = gives_own other (outcome.Finished value) same }
  ended_gives (Back other reason) same = record { what = outcome.Returned reason; now = gives_own other (outcome.Returned reason) same }
  ended_gives (Returned other reason) same = record { what = outcome.Returned reason; now = gives_own other (outcome.Returned reason) same }
  ended_gives _ same = cc

  answered_gives : (note : Note T) → is_name name (name_answered note) ≡ true → Gives note
  answered_gives (Answered other answer) same = record { what = outcome.Answered answer; now = gives_own other (outcome.Answered answer) same }
  answered_gives _ same = cc

  given_before : (note : Note T) (before : Journal T) → IsGiven before → IsGiven (note ∷ before)
  given_before note before was =
      record { what = was.what; first = first_under-stays name (given_outcomes name.from before) (outcome_given name.from note) was.what was.first }

  given_now : (note : Note T) (before : Journal T) → Gives note → IsGiven (note ∷ before)
  given_now note before gives = by_found (first_under name (given_outcomes name.from before)) refl
    where
      by_found : (found : Option (OutcomeNote T)) → first_under name (given_outcomes name.from before) ≡ found → IsGiven (note ∷ before)
      by_found (Some what) at = given_before note before (record { what = what; first = at })
      by_found None at =
          record {
            what = gives.what;
            first = rw gives.now (first_under-last name (given_outcomes name.from before) (name, gives.what) at ∙ ap (λ test. cond test (Some gives.what) None) (same_as_itself name));
          }

  told_given : (says : Note T → Option JobId) → ((note : Note T) → is_name name (says note) ≡ true → Gives note) → (journal : Journal T) → is_told says name journal ≡ true → IsGiven journal
  told_given says gives [] told = absurd (true≢false (sym told))
  told_given says gives (note ∷ before) told = by_test (is_name name (says note)) refl told (told_given says gives before)
    where
      by_test : (test : Bool) → is_name name (says note) ≡ test → (test || is_told says name before) ≡ true → (is_told says name before ≡ true → IsGiven before) → IsGiven (note ∷ before)
      by_test true now told rest = given_now note before (gives note now)
      by_test false now told rest = given_before note before (rest told)

module _ {T : Type 0} (assembly : Assembly T) (sound : IsSound assembly) (name : JobId) (there : name.to < assembly.cores) (drained : IsDrained assembly.cores (journal_of name.to assembly)) where
  given_of : (order : Order (Unit {0})) → order_of name assembly ≡ Some order → IsGiven name (journal_of name.to assembly)
  given_of (Job queue task) is = told_given name name_ended (ended_gives name) (journal_of name.to assembly) ((sound.outcomes.all_ended name.to there drained).jobs name refl (queue, is))
  given_of _ is = told_given name name_answered (answered_gives name) (journal_of name.to assembly) ((sound.outcomes.all_ended name.to there drained).commands name refl (ap is_command is))

  -- so it has an outcome
  pub has_outcome : (order : Order (Unit {0})) → order_of name assembly ≡ Some order → IsSome (outcome_of name assembly)
  has_outcome order is = ap is_some (given_of order is).first

-- each order of a house has one, if all cores are drained
pub all_have_outcomes : {J : Type 0} (view : RuntimeView J ℕ) (assembly : Assembly ℕ) (orders : Orders J) → assembly.cores ≡ view.desk.cores → IsSound assembly → AreItsOrders view assembly orders →
    ((core : ℕ) → core < view.desk.cores → IsDrained view.desk.cores (journal_of core assembly)) → AllHaveOutcomes view assembly orders
all_have_outcomes {J} view assembly orders cores sound are drained name from there = by_order (orders name) refl
  where
    drained_here : IsDrained assembly.cores (journal_of name.to assembly)
    drained_here = subst (λ cores. IsDrained cores (journal_of name.to assembly)) (sym cores) (drained name.to there)

    by_order : (found : Option (Order J)) → orders name ≡ found → IfSome found (λ order. IsSome (outcome_of name assembly))
    by_order None at = tt
    by_order (Some order) at =
        has_outcome assembly sound name (omega (arith, there, cores)) drained_here (without_job order) (are.sent name from there ∙ ap (option_map without_job) at)

-- each order that the caller submitted has one that fits
pub submitted_told : {J : Type 0} (meaning : Meaning J ℕ) → SubmittedOrdersAreTold meaning
submitted_told {J} meaning view assembly name order from there counted is finished = by_told (outcome_of name assembly) refl has (finished.fitting name known there)
  where
    known : name.from ≤ view.desk.cores
    known = omega (arith, from)

    has : IsSome (outcome_of name assembly)
    has =
        subst (λ found. IfSome found (λ order. IsSome (outcome_of name assembly))) (finished.orders_are.all_of_caller name from there counted ∙ is)
        (finished.outcomes name known there)

    by_told : (found : Option (OutcomeNote ℕ)) → outcome_of name assembly ≡ found → IsSome found → IfSome found (FitsItsOrder (Fits meaning) finished.orders name) → IsToldOf meaning assembly name order
    by_told None at some fits = absurd (true≢false (sym some))
    by_told (Some what) at some fits =
        record {
          outcome = fits.outcome;
          told = at ∙ ap Some (sym fits.as_told);
          fit = subst (λ order. Fits meaning order fits.outcome) (the_callers view assembly finished.orders finished.orders_are name from there fits.order order fits.under is) fits.fit;
        }
