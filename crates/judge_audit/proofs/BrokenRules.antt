-- A rule whose first fault has a place is broken.
use Rattle.judge_audit.proofs.Names.{arith, Assembly, BreaksRule, ClosesFault, ClosesOf, fault_breaks, inl, inr, IsFirstPlace, IsInOrder, IsPlaceOf, IsSound, journal_of, OrderFault, OrderIsSound, OutcomesAreSound, OutcomesFault, OutcomesOf}
use Rattle.judge_audit.proofs.Names.{OutcomesRight, pick_breaks, PicksFault, PicksOf, refl, RespectsCloses, StartsFault, StartsOf, StartsRight, suc, zero, ℕ, ◌+◌, ◌≡◌, ◌≤◌}
use Rattle.judge_audit.proofs.LinksOff.{order_broken}

module _ (assembly : Assembly ℕ) where
  -- the second rule, of one actor, if it is kept
  pub in_order : OrderIsSound assembly → (actor : ℕ) → actor ≤ assembly.cores → IsInOrder assembly actor
  in_order sound actor within = record {
    notes = sound.notes actor within;
    deliveries = λ here sender from. sound.deliveries sender actor from here;
    collections = λ core to. sound.collections actor core within to;
  }

  outcomes_broken : (actor line : ℕ) → actor ≤ assembly.cores → OutcomesFault assembly actor line → OutcomesAreSound assembly → ⊥
  outcomes_broken actor line within (inl lost) sound = lost.1 (sound.all_ended actor)
  outcomes_broken actor line within (inr fault) sound =
      fault_breaks (OutcomesRight assembly) (journal_of actor assembly) line fault.1 (sound.notes actor within)

  -- the rule whose place it is is broken
  pub breaks : (rule actor line : ℕ) → IsPlaceOf assembly rule actor line → BreaksRule assembly rule
  breaks rule actor line place = record {
    starts = λ is sound.
        let at = place.starts is in
        fault_breaks (StartsRight assembly) (journal_of actor assembly) line at.here (sound.notes actor (omega (arith, at.within)));
    order = λ is sound. let at = place.order is in order_broken assembly actor line at.here.0 (in_order sound actor (omega (arith, at.within)));
    closes = λ is sound.
        let at = place.closes is in
        fault_breaks (RespectsCloses assembly actor) (journal_of actor assembly) line at.here (sound.notes actor at.within);
    outcomes = λ is sound. let at = place.outcomes is in outcomes_broken actor line (omega (arith, at.within)) at.here sound;
    picks = λ is sound.
        let at = place.picks is in
        pick_breaks assembly.burst (journal_of actor assembly) line at.here (sound.notes actor at.within) (sound.last_followed actor at.within);
  }

  -- sound journals have no fault
  pub no_fault_if_sound : (rule : ℕ) → 1 ≤ rule → rule ≤ 5 → BreaksRule assembly rule → IsSound assembly → ⊥
  no_fault_if_sound zero some few broken sound = absurd (omega (arith, some))
  no_fault_if_sound (suc zero) some few broken sound = broken.starts refl sound.starts
  no_fault_if_sound (suc (suc zero)) some few broken sound = broken.order refl sound.order
  no_fault_if_sound (suc (suc (suc zero))) some few broken sound = broken.closes refl sound.closes
  no_fault_if_sound (suc (suc (suc (suc zero)))) some few broken sound = broken.outcomes refl sound.outcomes
  no_fault_if_sound (suc (suc (suc (suc (suc zero))))) some few broken sound = broken.picks refl sound.picks
  no_fault_if_sound (suc (suc (suc (suc (suc (suc rule)))))) some few broken sound = absurd (omega (arith, few))

  module _ (rule actor line : ℕ) where
    pub placed_starts : rule ≡ 1 → IsFirstPlace (assembly.cores + 1) (StartsOf assembly) (StartsFault assembly) actor line → IsPlaceOf assembly rule actor line
    placed_starts is place = record {
      starts = λ named. place;
      order = λ named. absurd (omega (arith, is, named));
      closes = λ named. absurd (omega (arith, is, named));
      outcomes = λ named. absurd (omega (arith, is, named));
      picks = λ named. absurd (omega (arith, is, named));
    }

    pub placed_order : rule ≡ 2 → IsFirstPlace (assembly.cores + 1) (IsInOrder assembly) (OrderFault assembly) actor line → IsPlaceOf assembly rule actor line
    placed_order is place = record {
      starts = λ named. absurd (omega (arith, is, named));
      order = λ named. place;
      closes = λ named. absurd (omega (arith, is, named));
      outcomes = λ named. absurd (omega (arith, is, named));
      picks = λ named. absurd (omega (arith, is, named));
    }

    pub placed_closes : rule ≡ 3 → IsFirstPlace assembly.cores (ClosesOf assembly) (ClosesFault assembly) actor line → IsPlaceOf assembly rule actor line
    placed_closes is place = record {
      starts = λ named. absurd (omega (arith, is, named));
      order = λ named. absurd (omega (arith, is, named));
      closes = λ named. place;
      outcomes = λ named. absurd (omega (arith, is, named));
      picks = λ named. absurd (omega (arith, is, named));
    }

    pub placed_outcomes : rule ≡ 4 → IsFirstPlace (assembly.cores + 1) (OutcomesOf assembly) (OutcomesFault assembly) actor line →
        IsPlaceOf assembly rule actor line
    placed_outcomes is place = record {
      starts = λ named. absurd (omega (arith, is, named));
      order = λ named. absurd (omega (arith, is, named));
      closes = λ named. absurd (omega (arith, is, named));
      outcomes = λ named. place;
      picks = λ named. absurd (omega (arith, is, named));
    }

    pub placed_picks : rule ≡ 5 → IsFirstPlace assembly.cores (PicksOf assembly) (PicksFault assembly) actor line → IsPlaceOf assembly rule actor line
    placed_picks is place = record {
      starts = λ named. absurd (omega (arith, is, named));
      order = λ named. absurd (omega (arith, is, named));
      closes = λ named. absurd (omega (arith, is, named));
      outcomes = λ named. absurd (omega (arith, is, named));
      picks = λ named. place;
    }
