-- If no queue is ordered, no refusal is told.
use Rattle.model_laws.proofs.Words.{ℕ, List, [], ◌∷◌, sym, ◌∙◌, ap, subst, ⊎_elim, true≢false, none-some, slice_get, Meaning, Event, Reply, WorldView, journal_at}
use Rattle.model_laws.proofs.Words.{Create, IsUnbegun, IsToldRun, OrderNoQueues, PollsOrderNone}
use Rattle.model_laws.specs.Creations.{RunOfJobsIsDetermined}
use Rattle.model_laws.proofs.PlainNotes.{opening_plain}
use Rattle.model_laws.proofs.KeptLists.{IsPlain, is_later}
use Rattle.model_laws.proofs.DeterminedRefusals.{was_refused}
use Rattle.model_laws.proofs.DeterminedRuns.{run_once}

pub plain_unbegun : {J T : Type 0} (world : WorldView J T) → IsUnbegun world → IsPlain world
plain_unbegun world unbegun = record {
  orders = λ sender core place weight at. none-some (Create weight) (sym (ap (λ orders. slice_get orders place) (unbegun.no_order sender core)) ∙ at);
  told = λ refused. true≢false (sym refused.1 ∙ opening_plain (journal_at refused.0 world) (unbegun.opening refused.0));
}

module _ {J : Type 0} (meaning : Meaning J ℕ) where
  pub run_plain : PollsOrderNone meaning → (events : List (Event J)) → OrderNoQueues events → (old new : WorldView J ℕ) (replies : List (Reply J)) →
      IsToldRun meaning events old new replies → IsPlain old → IsPlain new
  run_plain polls_none [] none old new replies run plain = subst (λ world. IsPlain world) (sym run.0) plain
  run_plain polls_none (event ∷ events) none old new replies run plain =
      run_plain polls_none events none.1 run.0 new run.2 run.4 ((is_later meaning event old run.0 run.1 run.3).plain (none.0, polls_none) plain)

  pub jobs_once : RunOfJobsIsDetermined meaning
  jobs_once owes polls_none events old new other replies others unbegun none run other_run =
      let plain = plain_unbegun old unbegun in
      ⊎_elim (λ same. same)
      (λ refused.
      absurd (⊎_elim (λ told. (run_plain polls_none events none old new replies run plain).told (was_refused told))
      (λ told. (run_plain polls_none events none old other others other_run plain).told (was_refused told)) refused))
      (run_once meaning owes events old new other replies others unbegun.lists run other_run)
