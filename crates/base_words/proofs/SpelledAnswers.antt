-- What is refused, handed back or answered can be spelled.
use Rattle.base_words.proofs.Words.{Answer, arith, Bool, closes, cond, core_mode, created_count, false, inl, inr, is_inside, IsAnswer, IsBackReason, IsCreationAnswer, IsReturnReason, job_at, Journal, leb-false, Mode, nat_le, None, Option}
use Rattle.base_words.proofs.Words.{or_else, Order, queue_mode, Reason, reason_if_closed, reason_if_returning, refl, Some, subst, sym, true, ℕ, ◌+◌, ◌<◌, ◌≡◌}
use Rattle.base_words.specs.declared.order.Answer.TheVariants as answers
use Rattle.base_words.specs.declared.order.Mode.TheVariants.{Finish, Return}
use Rattle.base_words.specs.declared.order.Order.TheVariants.{Job, Create, SetShares, Close, CloseCore, Wake}
use Rattle.base_words.specs.declared.order.Reason.TheVariants as why
use Rattle.base_words.specs.Spelled.{IsSpelledAnswer}

-- a delivery refuses a job for a reason of its own
pub back_reason : (there : Bool) (mode core : Option Mode) (reason : Reason) →
    cond there (or_else (reason_if_closed mode why.QueueClosed) (reason_if_returning core why.CoreClosing)) (Some why.NoQueue) ≡ Some reason → IsBackReason reason
back_reason false mode core reason refused = subst (λ one. IsBackReason one) (let same : why.NoQueue ≡ reason = cc in same) tt
back_reason true (Some mode) core reason refused = subst (λ one. IsBackReason one) (let same : why.QueueClosed ≡ reason = cc in same) tt
back_reason true None None reason refused = cc
back_reason true None (Some Finish) reason refused = cc
back_reason true None (Some Return) reason refused = subst (λ one. IsBackReason one) (let same : why.CoreClosing ≡ reason = cc in same) tt

-- a pick hands a job back for a reason of its own
pub returning : (mode core : Option Mode) (reason : Reason) →
    or_else (reason_if_returning mode why.QueueReturned) (reason_if_returning core why.CoreReturned) ≡ Some reason → IsReturnReason reason
returning (Some Return) core reason told = subst (λ one. IsReturnReason one) (let same : why.QueueReturned ≡ reason = cc in same) tt
returning (Some Finish) (Some Return) reason told = subst (λ one. IsReturnReason one) (let same : why.CoreReturned ≡ reason = cc in same) tt
returning None (Some Return) reason told = subst (λ one. IsReturnReason one) (let same : why.CoreReturned ≡ reason = cc in same) tt
returning (Some Finish) (Some Finish) reason told = cc
returning (Some Finish) None reason told = cc
returning None (Some Finish) reason told = cc
returning None None reason told = cc

-- a job enters a queue that there is
pub queue_there : (there : Bool) (refused : Option Reason) → cond there refused (Some why.NoQueue) ≡ None → there ≡ true
queue_there true refused enters = refl
queue_there false refused enters = cc

-- a creation is answered by a queue that there may be
created_spelled : (mode : Option Mode) (count : ℕ) (full : Bool) (answer : Answer) → nat_le 255 count ≡ full →
    IsCreationAnswer mode full (count + 1) answer → IsSpelledAnswer answer
created_spelled (Some mode) count full answer is fits = subst (λ one. IsSpelledAnswer one) (sym fits) tt
created_spelled None count true answer is fits = subst (λ one. IsSpelledAnswer one) (sym fits) tt
created_spelled None count false answer is fits =
    elim fits [
      | inl none ↦ subst (λ one. IsSpelledAnswer one) (sym none) tt
      | inr created ↦ subst (λ one. IsSpelledAnswer one) (sym created) (let few : count < 255 = leb-false 255 count is in omega arith)
    ]

-- shares are set or there is no such queue
shares_spelled : (there : Bool) (answer : Answer) → answer ≡ cond there answers.SharesSet answers.NoQueue → IsSpelledAnswer answer
shares_spelled true answer is = subst (λ one. IsSpelledAnswer one) (sym is) tt
shares_spelled false answer is = subst (λ one. IsSpelledAnswer one) (sym is) tt

-- something is closed, or was, or there is no such queue
closing_spelled : (there changes : Bool) (answer : Answer) → answer ≡ cond there (cond changes answers.Closed answers.AlreadyClosed) answers.NoQueue → IsSpelledAnswer answer
closing_spelled true true answer is = subst (λ one. IsSpelledAnswer one) (sym is) tt
closing_spelled true false answer is = subst (λ one. IsSpelledAnswer one) (sym is) tt
closing_spelled false changes answer is = subst (λ one. IsSpelledAnswer one) (sym is) tt

-- a job is woken, or isn't inside
waking_spelled : (inside : Bool) (answer : Answer) → answer ≡ cond inside answers.Woken answers.NoJob → IsSpelledAnswer answer
waking_spelled true answer is = subst (λ one. IsSpelledAnswer one) (sym is) tt
waking_spelled false answer is = subst (λ one. IsSpelledAnswer one) (sym is) tt

-- what a command may be answered can be spelled
pub answer_spelled : {T : Type 0} (core : ℕ) (order : Order (Unit {0})) (answer : Answer) (before : Journal T) → IsAnswer core order answer before → IsSpelledAnswer answer
answer_spelled core (Job queue task) answer before fits = absurd fits
answer_spelled core (Create weight) answer before fits =
    created_spelled (core_mode before) (created_count before) (nat_le 255 (created_count before)) answer refl fits
answer_spelled core (SetShares queue weight) answer before fits = shares_spelled (nat_le queue (created_count before)) answer fits
answer_spelled core (Close queue mode) answer before fits = closing_spelled (nat_le queue (created_count before)) (closes (queue_mode queue before) mode) answer fits
answer_spelled core (CloseCore mode) answer before fits = closing_spelled true (closes (core_mode before) mode) answer fits
answer_spelled core (Wake actor number) answer before fits = waking_spelled (is_inside (job_at core actor number) before) answer fits
