-- A worker that passes on its notes before a round comes to its end in it only if its sink refused.
use Rattle.run_worker.proofs.Names.{ActsAsItMay, ActsByCommand, ap, arith, Bool, ends_same, false, false≢true, HandsOn, HandsOnWhere, HasPlaces, HasSpare, inl, inr, IsBetweenTurns}
use Rattle.run_worker.proofs.Names.{IsLinked, IsProvided, IsServed, IsSupplied, Journal, KnowsSeat, least_free, length, LinkedView, Meaning, opening_of, PassesTo, places_of, refl, round_most, RunsOn, same_notes}
use Rattle.run_worker.proofs.Names.{same_places, SameEnds, sees_same, SeesNoLess, ServedView, StepsServed, still_free, subst, sym, TellsAlone, terms_at, true, WorkerView, ℕ, [], ◌*◌, ◌+◌, ◌∙◌, ◌≡◌}
use Rattle.note_journal.specs.declared.sink.Sink as taking
use Rattle.run_worker.proofs.Spare.{least_along}

module _ {J S : Type 0} (takes : taking.Ghosts S) where
  module _ (old new : LinkedView J ℕ) (before after : S) (did : HandsOn takes old before new after) where
    pub hands_notes : new.recorded.journal.notes ≡ old.recorded.journal.notes
    hands_notes = same_notes takes.has takes.refused old.recorded.journal new.recorded.journal before after did.answer did.passes

    pub hands_places : places_of new.recorded.journal ≡ places_of old.recorded.journal
    hands_places = same_places takes.has takes.refused old.recorded.journal new.recorded.journal before after did.answer did.passes

    pub hands_least : least_free new.recorded.core.cores new.recorded.cap new.recorded.core.bursts.burst ≡ least_free old.recorded.core.cores old.recorded.cap old.recorded.core.bursts.burst
    hands_least = ap (λ view. least_free view.recorded.core.cores view.recorded.cap view.recorded.core.bursts.burst) did.rest

    -- it is part of a worker's life
    pub hands_runs : RunsOn old new
    hands_runs = record {
      seat = ap (λ view. terms_at view.recorded) did.rest;
      places = hands_places;
      ends = subst (SameEnds old.ends) (sym (ap (λ view. view.ends) did.rest)) (ends_same old.ends);
      sees = subst (SeesNoLess old.ends) (sym (ap (λ view. view.ends) did.rest)) (sees_same old.ends);
      opening = ap opening_of hands_notes;
      grows = ([], hands_notes);
    }

    -- there is room for its end
    pub hands_spare : HasPlaces old.recorded → HasSpare old.recorded → HasSpare new.recorded
    hands_spare places spare =
        let same : (new.recorded.core.cores + 1) * (new.recorded.cap + 1) ≡ (old.recorded.core.cores + 1) * (old.recorded.cap + 1) = ap (λ view. (view.recorded.core.cores + 1) * (view.recorded.cap + 1)) did.rest in
        let free = still_free takes.has takes.refused old.recorded.journal new.recorded.journal before after did.answer did.passes (4 * ((old.recorded.core.cores + 1) * (old.recorded.cap + 1))) spare (omega (arith, places)) in
        omega (arith, free, same)

    -- a worker that isn't at its end has room for it behind a passing, and never closed by itself
    pub hands_served : {meaning : Meaning J ℕ} (ending : Bool) → ending ≡ false → HasPlaces old.recorded → IsServed meaning (record { linked = old; ending = ending }) → IsLinked meaning new → IsBetweenTurns new.recorded →
        IsServed meaning (record { linked = new; ending = ending })
    hands_served ending going places served linked between = record {
      linked = linked;
      between = between;
      provided = rw going (hands_spare places (subst (λ ending. IsProvided ending old.recorded) going served.provided));
      acts = rw going (subst ActsByCommand (sym hands_notes) (subst (λ ending. ActsAsItMay ending old.recorded) going served.acts));
    }

    -- it knows of its seat what it knew
    pub hands_knows : (cores least : ℕ) (alone : Bool) → KnowsSeat cores least alone old → KnowsSeat cores least alone new
    hands_knows cores least alone knows = record {
      cores_are = knows.cores_are ∙ sym (ap (λ view. view.recorded.core.cores) did.rest);
      least_is = knows.least_is ∙ sym hands_least;
      tells = subst (TellsAlone alone) (sym hands_notes) knows.tells;
    }

  -- what is handed on where it is due, or nothing
  pub where_notes : {C G : Type 0} (due : Type 0) (old new : WorkerView J ℕ C G S) → HandsOnWhere takes due old new → new.linked.recorded.journal.notes ≡ old.linked.recorded.journal.notes
  where_notes due old new (inl did) = hands_notes old.linked new.linked old.sink new.sink did.1
  where_notes due old new (inr none) = ap (λ view. view.linked.recorded.journal.notes) none.1

module _ {J T S : Type 0} (has : S → Journal T) (refused : S → ℕ → Type 0) where
  module _ (served : ServedView J T) (sink : S) (passes : PassesTo has refused served sink) where
    -- behind a round the worker is at its end only if its sink refused
    pub round_passes : {some : Bool} (new : ServedView J T) → IsSupplied has refused served sink → StepsServed (round_most served) served some new → PassesTo has refused new sink
    round_passes new supplied steps = record {
      passed = passes.passed ∙ sym steps.stays.seat.passed;
      places =
          let places = passes.places in
          let least = least_along served.linked.recorded new.linked.recorded steps.stays.seat in
          let passed : length new.linked.recorded.journal.passed ≡ length served.linked.recorded.journal.passed = ap length steps.stays.seat.passed in
          omega (arith, places, least, passed, steps.stays.seat.room);
      refuses = λ ends. subst (λ passed. refused sink (length passed)) (sym steps.stays.seat.passed) (by_ending served.ending refl ends supplied);
    }
      where
        by_ending : (ending : Bool) → served.ending ≡ ending → new.ending ≡ true → IsSupplied has refused served sink → refused sink (length served.linked.recorded.journal.passed)
        by_ending true is ends had = passes.refuses is
        by_ending false is ends (inr had) = had
        by_ending false is ends (inl enough) = let goes : new.ending ≡ false = steps.few.goes is (omega (arith, enough)) in absurd (false≢true (sym goes ∙ ends))
