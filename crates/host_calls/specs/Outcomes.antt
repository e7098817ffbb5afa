-- What the host is told of what became of its submissions.
use Rattle.std.specs.Prelude.{ℕ, Result, Ok, Err}
use Rattle.base_words.specs.declared.order.Answer.{Answer}
use Rattle.base_words.specs.declared.order.Answer.TheVariants as answer
use Rattle.base_words.specs.declared.order.Order.{Order}
use Rattle.base_words.specs.declared.order.Order.TheVariants as order
use Rattle.base_words.specs.declared.order.Outcome.{Outcome}
use Rattle.base_words.specs.declared.order.Outcome.TheVariants.{Finished, Returned, Answered}
use Rattle.base_words.specs.declared.order.Reason.{Reason}
use Rattle.host_core.specs.declared.answers.Refusal.{Refusal}
use Rattle.host_core.specs.declared.job.HostJob.{HostJob}
use Rattle.host_calls.specs.declared.code.Code.{Code}
use Rattle.host_calls.specs.declared.code.Code.TheVariants as code
use Rattle.host_calls.specs.declared.outcomes.OutcomeTold.{OutcomeTold}
use Rattle.host_calls.specs.Codes.{code_of_refusal}
use Rattle.host_calls.specs.Turns.{reason_number}

-- the number of an answer
abbrev pub answer_number : Answer → ℕ
answer_number (answer.Created queue) = 0
answer_number answer.TooMany = 1
answer_number answer.NoMemory = 2
answer_number answer.CoreClosing = 3
answer_number answer.SharesSet = 4
answer_number answer.NoQueue = 5
answer_number answer.Closed = 6
answer_number answer.AlreadyClosed = 7
answer_number answer.Woken = 8
answer_number answer.NoJob = 9

-- the queue that was made, or 0
abbrev pub queue_made : Answer → ℕ
queue_made (answer.Created queue) = queue
queue_made other = 0

-- what an order that is no job was answered
abbrev pub answer_told : Answer → OutcomeTold
answer_told answer = record { size = 32; kind = 2; why = answer_number answer; queue = queue_made answer; answer = 0; job = 0 }

-- a job that comes back
abbrev pub back_told : Reason → Order HostJob → OutcomeTold
back_told reason (order.Job queue job) = record { size = 32; kind = 1; why = reason_number reason; queue = queue; answer = 0; job = job.handle }
back_told reason other = record { size = 32; kind = 1; why = reason_number reason; queue = 0; answer = 0; job = 0 }

-- an outcome in numbers
abbrev pub outcome_of : Outcome HostJob ℕ → OutcomeTold
outcome_of (Finished value) = record { size = 32; kind = 0; why = 0; queue = 0; answer = value; job = 0 }
outcome_of (Returned reason order) = back_told reason order
outcome_of (Answered answer) = answer_told answer

-- the code of a redemption
abbrev pub code_of_outcome : Result (Outcome HostJob ℕ) Refusal → Code
code_of_outcome (Ok outcome) = code.Ok
code_of_outcome (Err refusal) = code_of_refusal refusal

-- what is told of it; else what stood there stays
abbrev pub outcome_told : Result (Outcome HostJob ℕ) Refusal → OutcomeTold → OutcomeTold
outcome_told (Ok outcome) before = outcome_of outcome
outcome_told (Err refusal) before = before
