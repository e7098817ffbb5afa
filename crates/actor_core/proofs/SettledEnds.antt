-- What a settled poll gives and owes, as the caller is told it.
use Rattle.actor_core.proofs.Names.{◌≡◌, ℕ, Bool, true, false, List, sym, ◌∙◌, subst, Option, Some, JobId, Step, Meaning, AfterPoll, IfDone, Settled, JobOut, RecordedView, IsRecorded, Settles, Job, option_map, Inward, IsInOf, told_under}
use Rattle.actor_core.proofs.Names.{outcome_note, outcome_settled, IfSome, same_Some, Envelope, Outcome, MayGive, Fits, order_taken, KeepsIn, LeavesOwed, Gives, IsOutUnder, OwesSettled, settled_of, stays_in_line, MayAnswer}
use Rattle.base_jobs.specs.declared.job.Step.TheVariants as steps
use Rattle.actor_core.proofs.QuietSteps.{given_settled}
use Rattle.actor_core.proofs.DeliveredEnds.{told_elsewhere}
use Rattle.actor_core.proofs.GivenEnds.{given_done}
use Rattle.actor_core.proofs.SettledPolls.{given_told}

-- what is owed by the note is owed by what the caller is told
pub owes_settled : {J T : Type 0} (old new : RecordedView J T) (out : JobOut J) → old.core.out ≡ Some out → (settled : Settled T) →
    ((sender : ℕ) → LeavesOwed sender (given_settled out.name settled sender) old new) → OwesSettled old settled new
owes_settled {J} old new out was_out settled owes other at sender =
    subst (λ job. LeavesOwed sender (told_under job.name (option_map outcome_note (outcome_settled {J = J} settled)) sender) old new) (same_Some out other (sym was_out ∙ at))
    (subst (λ owed. LeavesOwed sender owed old new) (given_told J out.name settled sender) (owes sender))

-- what the caller is told may be answered by the job that was sent
pub its_answer : {J T : Type 0} (meaning : Meaning J T) (took : List (Envelope J)) (name : JobId) (queue : ℕ) (sent : J) → order_taken took name ≡ Some (Job queue sent) →
    (step : Step T) (settled : Settled T) (staying : Bool) → settled ≡ settled_of step staying → IfDone step (meaning.answers sent) → MayAnswer meaning took name settled
its_answer meaning took name queue sent task steps.Yield settled staying tells right = subst (MayAnswer meaning took name) (sym tells) tt
its_answer meaning took name queue sent task steps.Park settled true tells right = subst (MayAnswer meaning took name) (sym tells) tt
its_answer meaning took name queue sent task steps.Park settled false tells right = subst (MayAnswer meaning took name) (sym tells) tt
its_answer meaning took name queue sent task (steps.Done value) settled staying tells right = subst (MayAnswer meaning took name) (sym tells) (queue, sent, task, right)

module _ {J T : Type 0} {meaning : Meaning J T} (old new : RecordedView J T) (ran : AfterPoll J T) (spent : ℕ) (settled : Settled T)
    (settles : Settles meaning old ran spent settled new) (owes : OwesSettled old settled new) (recorded : IsRecorded meaning new) (name : JobId) (named : IsOutUnder old.core.out name) where
  abbrev outcome : Option (Outcome J T)
  outcome = outcome_settled settled

  name_is : settles.out.name ≡ name
  name_is = subst (λ who. IsOutUnder who name) settles.was_out named

  owes_it : (sender : ℕ) → LeavesOwed sender (told_under name (option_map outcome_note outcome) sender) old new
  owes_it sender = subst (λ name. LeavesOwed sender (told_under name (option_map outcome_note outcome) sender) old new) name_is (owes settles.out settles.was_out sender)

  -- it may be given, and is owed no more then
  pub settled_given : (before : Inward J T) → IsInOf name.from old before →
      IfSome outcome (λ outcome. MayGive (Fits meaning) before name.number outcome) × ((after : Inward J T) → Gives before name.number outcome after → IsInOf name.from new after)
  settled_given before beside = given_done meaning new recorded name before settled
      (its_answer meaning new.took name settles.out.queue settles.sent ((λ i. order_taken (settles.took i) (sym name_is i)) ∙ settles.task) ran.step settled (stays_in_line settles.out.name old.journal.notes) settles.tells settles.answered)
      ((owes_it name.from).each before beside)

  pub others_settled : (sender : ℕ) → (sender ≡ name.from → ⊥) → KeepsIn sender old new
  others_settled sender away = subst (λ owed. LeavesOwed sender owed old new) (told_elsewhere name (option_map outcome_note outcome) sender away) (owes_it sender)
