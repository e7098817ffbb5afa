-- A core is drained where its journal says so.
use Rattle.actor_core.proofs.Names.{sym, ◌∙◌, ap, Some, false_from_ne_true, true≢false, has_work, Meaning, RecordedView, terms_at, IsRecorded, Parks, [], names_parked, parked_of, refl, ◌∷◌, ◌≡◌}
use Rattle.base_words.specs.Closing as told
use Rattle.core_core.specs.Closing as core
use Rattle.actor_core.proofs.Kept.{working}

-- where there are no names there is no job
no_names : {J : Type 0} (parks : Parks J) → names_parked parks ≡ [] → parks ≡ []
no_names [] none = refl
no_names (first ∷ parks) none = cc

module _ {J T : Type 0} {meaning : Meaning J T} (view : RecordedView J T) (recorded : IsRecorded meaning view) where
  pub drained_told : core.IsDrained view.core → told.IsDrained view.core.cores view.journal.notes
  drained_told drained = record {
    delivered_all = λ sender known. sym (recorded.kept.agrees.closing.gates sender) ∙ (drained.delivered_all sender known ∙ ap Some (recorded.kept.agrees.delivered sender known));
    idle = λ queue busy. true≢false (sym busy ∙ (sym (working view.core view.journal.notes (terms_at view) queue recorded.kept.notes recorded.kept.agrees) ∙ drained.idle queue));
    nobody_parked = λ queue. sym (recorded.kept.agrees.parks queue) ∙ ap names_parked (drained.nobody_parked queue);
  }

  pub drained_here : told.IsDrained view.core.cores view.journal.notes → core.IsDrained view.core
  drained_here drained = record {
    delivered_all = λ sender known. recorded.kept.agrees.closing.gates sender ∙ (drained.delivered_all sender known ∙ ap Some (sym (recorded.kept.agrees.delivered sender known)));
    idle = λ queue. working view.core view.journal.notes (terms_at view) queue recorded.kept.notes recorded.kept.agrees ∙ false_from_ne_true (has_work queue view.journal.notes) (drained.idle queue);
    nobody_parked = λ queue. no_names (parked_of queue view.core.queues) (recorded.kept.agrees.parks queue ∙ drained.nobody_parked queue);
  }
