-- When an outcome fits the order that it is given for.
use Rattle.std.specs.Prelude.{◌≡◌}
use Rattle.base_words.specs.declared.order.Order.{Order}
use Rattle.base_words.specs.declared.order.Order.TheVariants.{Job, Create, SetShares, Close, CloseCore, Wake}
use Rattle.base_words.specs.declared.order.Outcome.{Outcome}
use Rattle.base_words.specs.declared.order.Outcome.TheVariants.{Finished, Returned, Answered}
use Rattle.base_words.specs.declared.order.Answer.{Answer}
use Rattle.base_words.specs.declared.order.Answer.TheVariants as answer
use Rattle.base_words.specs.Outcomes.{AnswersClosing, AnswersCoreClosing, AnswersWaking}
use Rattle.base_jobs.specs.Meanings.{Meaning}

-- a creation is answered by the new queue, or by one of its three refusals
abbrev pub AnswersCreation : Answer → Type 0
AnswersCreation (answer.Created queue) = Unit {0}
AnswersCreation answer.TooMany = Unit {0}
AnswersCreation answer.NoMemory = Unit {0}
AnswersCreation answer.CoreClosing = Unit {0}
AnswersCreation _ = ⊥

-- a change of shares was made, or there was no such queue
abbrev pub AnswersShares : Answer → Type 0
AnswersShares answer.SharesSet = Unit {0}
AnswersShares answer.NoQueue = Unit {0}
AnswersShares _ = ⊥

module _ {J T : Type 0} (meaning : Meaning J T) where
  -- the first order holds a job, and the second a job of the same task for the same queue
  abbrev pub IsSameJob : Order J → Order J → Type 0
  IsSameJob (Job queue job) (Job other back) = (queue ≡ other) × meaning.same job back
  IsSameJob _ _ = ⊥

  -- a job is finished with an answer of its task, or handed back with its task and queue; a command is answered
  abbrev pub Fits : Order J → Outcome J T → Type 0
  Fits (Job queue job) (Finished out) = meaning.answers job out
  Fits (Job queue job) (Returned reason back) = IsSameJob (Job queue job) back
  Fits (Create shares) (Answered answer) = AnswersCreation answer
  Fits (SetShares queue shares) (Answered answer) = AnswersShares answer
  Fits (Close queue mode) (Answered answer) = AnswersClosing answer
  Fits (CloseCore mode) (Answered answer) = AnswersCoreClosing answer
  Fits (Wake actor number) (Answered answer) = AnswersWaking answer
  Fits _ _ = ⊥
