-- Outcomes without their jobs, as notes tell them, and which outcome can come of which order.
use Rattle.std.specs.Prelude.{◌<◌}
use Rattle.base_words.specs.declared.note.OutcomeNote.{OutcomeNote}
use Rattle.base_words.specs.declared.note.OutcomeNote.TheVariants as notes
use Rattle.base_words.specs.declared.order.Answer.{Answer}
use Rattle.base_words.specs.declared.order.Answer.TheVariants as answers
use Rattle.base_words.specs.declared.order.Order.{Order}
use Rattle.base_words.specs.declared.order.Order.TheVariants.{Job, Create, SetShares, Close, CloseCore, Wake}
use Rattle.base_words.specs.declared.order.Outcome.{Outcome}
use Rattle.base_words.specs.declared.order.Outcome.TheVariants as outcomes
use Rattle.base_words.specs.Limits.{most_queues}

-- the outcome, without its job
abbrev pub outcome_note : {J T : Type 0} → Outcome J T → OutcomeNote T
outcome_note (outcomes.Finished value) = notes.Finished value
outcome_note (outcomes.Returned reason order) = notes.Returned reason
outcome_note (outcomes.Answered answer) = notes.Answered answer

-- an answer that names a queue names one of those that there may be
abbrev pub IsSpelledAnswer : Answer → Type 0
IsSpelledAnswer (answers.Created queue) = queue < most_queues
IsSpelledAnswer _ = Unit {0}

abbrev pub IsSpelledOutcome : {T : Type 0} → OutcomeNote T → Type 0
IsSpelledOutcome (notes.Answered answer) = IsSpelledAnswer answer
IsSpelledOutcome _ = Unit {0}

-- a creation made a queue, or was refused for one of three reasons
abbrev pub AnswersCreation : Answer → Type 0
AnswersCreation (answers.Created queue) = queue < most_queues
AnswersCreation answers.TooMany = Unit {0}
AnswersCreation answers.NoMemory = Unit {0}
AnswersCreation answers.CoreClosing = Unit {0}
AnswersCreation _ = ⊥

-- a change of shares was made, or there was no such queue
abbrev pub AnswersShares : Answer → Type 0
AnswersShares answers.SharesSet = Unit {0}
AnswersShares answers.NoQueue = Unit {0}
AnswersShares _ = ⊥

-- a queue was closed, or was closed before, or there was no such queue
abbrev pub AnswersClosing : Answer → Type 0
AnswersClosing answers.Closed = Unit {0}
AnswersClosing answers.AlreadyClosed = Unit {0}
AnswersClosing answers.NoQueue = Unit {0}
AnswersClosing _ = ⊥

-- the core was closed, or was closed before
abbrev pub AnswersCoreClosing : Answer → Type 0
AnswersCoreClosing answers.Closed = Unit {0}
AnswersCoreClosing answers.AlreadyClosed = Unit {0}
AnswersCoreClosing _ = ⊥

-- the job was woken, or isn't inside
abbrev pub AnswersWaking : Answer → Type 0
AnswersWaking answers.Woken = Unit {0}
AnswersWaking answers.NoJob = Unit {0}
AnswersWaking _ = ⊥

-- an outcome fits its order: a job is done or handed back, and a command gets an answer of its own kind
abbrev pub FitsOrder : {T : Type 0} → Order (Unit {0}) → OutcomeNote T → Type 0
FitsOrder (Job queue task) (notes.Finished value) = Unit {0}
FitsOrder (Job queue task) (notes.Returned reason) = Unit {0}
FitsOrder (Create weight) (notes.Answered answer) = AnswersCreation answer
FitsOrder (SetShares queue weight) (notes.Answered answer) = AnswersShares answer
FitsOrder (Close queue mode) (notes.Answered answer) = AnswersClosing answer
FitsOrder (CloseCore mode) (notes.Answered answer) = AnswersCoreClosing answer
FitsOrder (Wake actor number) (notes.Answered answer) = AnswersWaking answer
FitsOrder _ _ = ⊥
