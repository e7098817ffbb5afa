-- A finish tells no answer of a job that isn't one of its task.
use Rattle.std.proofs.Common.{◌≡◌, ℕ, ◌<◌, ◌≤◌, sym, ◌∙◌, subst, arith}
use Rattle.std.specs.Prelude.{Some, IfSome}
use Rattle.base_words.specs.declared.names.JobId.{JobId}
use Rattle.base_words.specs.declared.note.OutcomeNote.TheVariants as notes
use Rattle.base_words.specs.declared.order.Order.{Order}
use Rattle.base_words.specs.declared.order.Order.TheVariants.{Job}
use Rattle.base_words.specs.declared.order.Outcome.{Outcome}
use Rattle.base_words.specs.declared.order.Outcome.TheVariants as outcomes
use Rattle.base_words.specs.Assembly.{Assembly}
use Rattle.base_words.specs.Outcomes.{outcome_note}
use Rattle.link_ends.specs.Fits.{Fits}
use Rattle.run_runtime.specs.Laws.{TellsAnswer, WrongAnswersAreRefused}
use Rattle.run_runtime.specs.Outcomes.{AreItsOrders, FitsItsOrder, Orders, TellsOrders}
use Rattle.actor_caller.specs.State.{RuntimeView, submitted_under}
use Rattle.base_jobs.specs.Meanings.{Meaning}

one_order : {J : Type 0} (a b : Order J) → Some a ≡ Some b → a ≡ b
one_order a b same = cc

-- the order under a name of the outside actor is the one that the caller submitted
pub the_callers : {J T : Type 0} (view : RuntimeView J T) (assembly : Assembly T) (orders : Orders J) → AreItsOrders view assembly orders → (name : JobId) → name.from ≡ view.desk.cores → name.to < view.desk.cores →
    (order submitted : Order J) → orders name ≡ Some order → submitted_under name view ≡ Some submitted → order ≡ submitted
the_callers view assembly orders are name from there order submitted under is =
    let same = subst (λ found. IfSome found (λ order. submitted_under name view ≡ Some order)) under (are.by_caller name from there) in
    one_order order submitted (sym same ∙ is)

module _ {J : Type 0} (meaning : Meaning J ℕ) where
  -- the only outcome that is told as finished with this answer is that
  answer_of : (queue : ℕ) (job : J) (outcome : Outcome J ℕ) (answer : ℕ) → outcome_note outcome ≡ notes.Finished answer → Fits meaning (Job queue job) outcome → meaning.answers job answer
  answer_of queue job (outcomes.Finished value) answer told fit = let is : value ≡ answer = cc in subst (meaning.answers job) is fit
  answer_of queue job (outcomes.Returned reason order) answer told fit = absurd cc
  answer_of queue job (outcomes.Answered what) answer told fit = absurd cc

  -- what a finish tells of a job that was submitted is an answer of its task
  pub right_answer : (view : RuntimeView J ℕ) (assembly : Assembly ℕ) (name : JobId) (job : J) (answer : ℕ) → TellsAnswer view assembly name job answer → TellsOrders meaning view assembly → meaning.answers job answer
  right_answer view assembly name job answer tells finished =
      let known : name.from ≤ view.desk.cores = omega (arith, tells.caller) in
      let fits = subst (λ found. IfSome found (FitsItsOrder (Fits meaning) finished.orders name)) tells.told (finished.fitting name known tells.there) in
      let is : fits.order ≡ Job tells.queue job = the_callers view assembly finished.orders finished.orders_are name tells.caller tells.there fits.order (Job tells.queue job) fits.under tells.submitted in
      answer_of tells.queue job fits.outcome answer fits.as_told (subst (λ order. Fits meaning order fits.outcome) is fits.fit)

  pub wrong_answers_refused : WrongAnswersAreRefused meaning
  wrong_answers_refused view assembly name job answer tells wrong finished = wrong (right_answer view assembly name job answer tells finished)
