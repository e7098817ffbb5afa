-- What a worker gives back has ended.
use Rattle.run_worker.proofs.Names.{ActsAsItMay, ActsByCommand, ActsUnlessRefused, all_passed, ap, arith, Bool, EachNote, false, HandsOn, has_passed, HasEnded, inl, inr, IsBetweenTurns, IsDrained, IsLinked, IsServed}
use Rattle.run_worker.proofs.Names.{IsShownWhole, least_free, length, LinkedView, MayAct, Meaning, PassesTo, places_of, RecordedView, refl, ServedView, ShownView, subst, sym, true, ℕ, ◌+◌, ◌≡◌}
use Rattle.note_journal.specs.declared.sink.Sink as taking
use Rattle.run_worker.proofs.Published.{whole_runs}
use Rattle.run_worker.proofs.Spare.{places_some}
use Rattle.run_worker.proofs.Supplied.{hands_least, hands_notes, hands_places, hands_runs}

module _ {J S : Type 0} (takes : taking.Ghosts S) where
  module _ (served : ServedView J ℕ) (new : LinkedView J ℕ) (sink after : S) (passes : PassesTo takes.has takes.refused served sink) (did : HandsOn takes served.linked sink new after) where
    -- at its end the core acts as it may by the room of the journal when its sink refused
    acts_behind : (ending : Bool) → served.ending ≡ ending → ActsAsItMay ending served.linked.recorded → ActsUnlessRefused takes.refused after new.recorded
    acts_behind false is acts = inl (subst ActsByCommand (sym (hands_notes takes served.linked new sink after did)) acts)
    acts_behind true is acts =
        let room : length served.linked.recorded.journal.passed + places_of new.recorded.journal ≡ served.linked.recorded.journal.room =
        let places = passes.places in omega (arith, places, hands_places takes served.linked new sink after did, places_some served.linked.recorded.core.cores served.linked.recorded.cap) in
        inr (
          length served.linked.recorded.journal.passed,
          did.refusals _ (passes.refuses is),
          subst (λ least. EachNote (MayAct least (length served.linked.recorded.journal.passed + places_of new.recorded.journal)) new.recorded.journal.notes) (sym (hands_least takes served.linked new sink after did))
              (subst (λ room. EachNote (MayAct (least_free served.linked.recorded.core.cores served.linked.recorded.cap served.linked.recorded.core.bursts.burst) room) new.recorded.journal.notes) (sym room)
              (subst (EachNote (MayAct (least_free served.linked.recorded.core.cores served.linked.recorded.cap served.linked.recorded.core.bursts.burst) served.linked.recorded.journal.room)) (sym (hands_notes takes served.linked new sink after did)) acts)),
        )

    -- its core is drained, and its sink has what was passed on
    pub given_back : {meaning : Meaning J ℕ} (shown : ShownView ℕ) → IsServed meaning served → IsDrained served.linked.recorded.core.cores served.linked.recorded.journal.notes → IsLinked meaning new → IsBetweenTurns new.recorded →
        IsShownWhole served.linked.recorded shown → HasEnded meaning takes.has takes.refused (record { linked = new; sink = after; shown = shown })
    given_back shown sound drained linked between shows = record {
      drained = record {
        linked = linked;
        between = between;
        drained =
            subst (λ cores. IsDrained cores new.recorded.journal.notes) (sym (ap (λ view. view.recorded.core.cores) did.rest))
            (subst (IsDrained served.linked.recorded.core.cores) (sym (hands_notes takes served.linked new sink after did)) drained);
      };
      passed = has_passed takes.has takes.refused served.linked.recorded.journal new.recorded.journal sink after did.answer did.passes passes.passed;
      rest = all_passed takes.has takes.refused served.linked.recorded.journal new.recorded.journal sink after did.answer did.passes;
      acts = acts_behind served.ending refl sound.acts;
      shows = whole_runs served.linked new shown (hands_runs takes served.linked new sink after did) (hands_notes takes served.linked new sink after did) shows;
    }

module _ {J T S : Type 0} (refused : S → ℕ → Type 0) (sink : S) (view : RecordedView J T) where
  -- a core whose sink never refused never closed by itself
  pub never_short : ActsUnlessRefused refused sink view → ((count : ℕ) → refused sink count → ⊥) → ActsByCommand view.journal.notes
  never_short (inl acts) never = acts
  never_short (inr did) never = absurd (never did.0 did.1)
