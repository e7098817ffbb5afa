-- A submission that found the link full, as the loop of a wait has it.
use Rattle.std.proofs.Common.{◌≡◌, ℕ, ◌<◌, ◌∙◌, subst, ⊎_elim, Result, Err}
use Rattle.std.proofs.lemmas.Bool.{cases_lt}
use Rattle.base_words.specs.declared.names.JobId.{JobId}
use Rattle.base_words.specs.declared.order.Order.{Order}
use Rattle.base_words.specs.declared.order.SendError.TheVariants.{Full}
use Rattle.actor_caller.specs.declared.error.SubmitError.{SubmitError}
use Rattle.actor_caller.specs.declared.error.SubmitError.TheVariants.{Send}
use Rattle.actor_caller.specs.Sends.{SubmitsTo}
use Rattle.actor_caller.specs.State.{RuntimeView}

module _ {J T : Type 0} (each core : ℕ) where
  -- its order comes back
  vain_full : (order back : Order J) (old new : RuntimeView J T) → SubmitsTo each core order old (Err (Send (Full back))) new → back ≡ order
  vain_full order back old new submits =
      ⊎_elim (λ (low : core < submits.0.desk.cores). (submits.2.there low).submits.0) (λ high. let never = (submits.2.missing high).0 in absurd cc) (cases_lt core submits.0.desk.cores)

  -- so it is the order of the wait that came back
  pub full_again : (order again back : Order J) (old new : RuntimeView J T) (answer : Result JobId (SubmitError J)) → answer ≡ Err (Send (Full back)) → again ≡ order → SubmitsTo each core again old answer new →
      (back ≡ order) × SubmitsTo each core order old (Err (Send (Full order))) new
  full_again order again back old new answer is same submits =
      let now : SubmitsTo each core again old (Err (Send (Full back))) new = subst (λ (answer : Result JobId (SubmitError J)). SubmitsTo each core again old answer new) is submits in
      let given : back ≡ again = vain_full again back old new now in
      let own : SubmitsTo each core again old (Err (Send (Full again))) new = subst (λ (one : Order J). SubmitsTo each core again old (Err (Send (Full one))) new) given now in
      (given ∙ same, subst (λ (one : Order J). SubmitsTo each core one old (Err (Send (Full one))) new) same own)
