-- The journals of a drained core make each front of theirs sound.
use Rattle.base_words.proofs.Joining.{joined_are_spelled}
use Rattle.base_words.specs.BadJournals.{submission, with_journals, one_job}
use Rattle.base_words.specs.GoodJournals.{closing, served, ended, drained_core, IsServed}
use Rattle.base_words.specs.declared.note.Note.TheVariants.{Pick, Start, Resume, Yield, Done, Collected, Redeemed}
use Rattle.base_words.specs.declared.note.OutcomeNote.TheVariants as outcome
use Rattle.judge_fronts.proofs.Names.{arith, Continues, IsSpelled, Journal, journal_of, refl, suc, zero, ℕ, [], ◌++◌, ◌∷◌, ◌≡◌, ◌≤◌}
use Rattle.judge_fronts.specs.BadFronts.{FrontsAreOpen}

goes_on : (core outside later_core later_outside : Journal ℕ) → Continues (with_journals core outside) (with_journals (later_core ++ core) (later_outside ++ outside))
goes_on core outside later_core later_outside = record { cores = refl; cap = refl; burst = refl; goes_on = by_actor }
  where
    by_actor : (actor : ℕ) → actor ≤ 1 →
        (later : Journal ℕ) × (journal_of actor (with_journals (later_core ++ core) (later_outside ++ outside)) ≡ later ++ journal_of actor (with_journals core outside))
    by_actor zero within = (later_core, refl)
    by_actor (suc zero) within = (later_outside, refl)
    by_actor (suc (suc actor)) within = absurd (omega (arith, within))

-- what the core does behind its first pick
abbrev after_pick : Journal ℕ
after_pick = Done (submission 1) 10 7 ∷ Resume (submission 1) ∷ Pick 0 10 ∷ Yield (submission 1) 10 ∷ Start (submission 1) ∷ []

-- what the outside actor does behind its send
abbrev after_send : Journal ℕ
after_send = Redeemed (submission 1) (outcome.Finished 7) ∷ Collected (submission 1) (outcome.Finished 7) ∷ []

module _ (is : IsServed drained_core) where
  spelled : IsSpelled drained_core
  spelled = joined_are_spelled drained_core is.joined
      (record { some_core = omega arith; few_cores = omega arith; some_place = omega arith; few_places = omega arith; some_poll = omega arith; few_polls = omega arith })

  pub fronts_open : FrontsAreOpen
  fronts_open = record {
    nothing = λ lost. lost drained_core (goes_on [] [] ended served) spelled is.sound;
    picked = record {
      unsound = λ sound. let followed = sound.picks.last_followed 0 (omega arith) in cc;
      not_lost = λ lost. lost drained_core (goes_on (Pick 0 0 ∷ closing) one_job after_pick after_send) spelled is.sound;
    };
    core = record {
      unsound = λ sound. let begins = sound.order.deliveries 1 0 (omega arith) (omega arith) in cc (begins.1);
      not_lost = λ lost. lost drained_core (goes_on closing [] (after_pick ++ Pick 0 0 ∷ []) served) spelled is.sound;
    };
    outside = record {
      unsound = λ sound. let begins = sound.order.collections 1 0 (omega arith) (omega arith) in cc (begins.1);
      not_lost = λ lost. lost drained_core (goes_on closing served (after_pick ++ Pick 0 0 ∷ []) []) spelled is.sound;
    };
  }
