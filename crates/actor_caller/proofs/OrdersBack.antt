-- A submission that is refused gives its order back.
use Rattle.std.proofs.Common.{◌≡◌, ℕ, ◌<◌, ◌≤◌, ⊎_elim}
use Rattle.std.proofs.lemmas.Bool.{cases_lt}
use Rattle.std.specs.Prelude.{Result, Err}
use Rattle.base_words.specs.declared.names.JobId.{JobId}
use Rattle.base_words.specs.declared.order.Order.{Order}
use Rattle.base_words.specs.declared.order.SendError.{SendError}
use Rattle.base_words.specs.declared.order.SendError.TheVariants.{Closed, Full, Spent, NoCore}
use Rattle.base_jobs.specs.Posts.{order_back}
use Rattle.actor_desk.specs.Submissions.{DeskView, Submits}
use Rattle.actor_caller.specs.declared.error.SubmitError.TheVariants.{JournalFull, Send}
use Rattle.actor_caller.specs.Laws.{RefusedOrdersComeBack}
use Rattle.actor_caller.specs.Sends.{Sends}
use Rattle.actor_caller.specs.State.{RuntimeView}

module _ {J : Type 0} (core : ℕ) (order : Order J) where
  sent_back : (old new : DeskView J ℕ) (error : SendError J) → Submits core order old (Err error) new → order_back error ≡ order
  sent_back old new (Closed back final) submits = submits.0
  sent_back old new (Full back) submits = submits.0
  sent_back old new (Spent back) submits = submits.0
  sent_back old new (NoCore back) submits = absurd submits

  missing_back : (error : SendError J) → ◌≡◌ {A = Result JobId (SendError J)} (Err error) (Err (NoCore order)) → order_back error ≡ order
  missing_back (Closed back final) is = absurd cc
  missing_back (Full back) is = absurd cc
  missing_back (Spent back) is = absurd cc
  missing_back (NoCore back) is = cc

  comes_back : (old new : RuntimeView J ℕ) (error : SendError J) → Sends core order old (Err error) new → order_back error ≡ order
  comes_back old new error sends =
      ⊎_elim
      (λ (there : core < old.desk.cores). sent_back old.desk new.desk error (sends.there there).submits)
      (λ (missing : old.desk.cores ≤ core). missing_back error (sends.missing missing).0)
      (cases_lt core old.desk.cores)

pub refused_come_back : {J : Type 0} → RefusedOrdersComeBack J
refused_come_back each core order old (JournalFull back) new submits = submits.1
refused_come_back each core order old (Send error) new submits = comes_back core order submits.0 new error submits.2
