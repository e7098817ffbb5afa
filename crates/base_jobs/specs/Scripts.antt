-- What a script job is asked to do, poll by poll.
use Rattle.std.specs.Prelude.{◌≡◌, ◌≤◌, ℕ, zero, suc, List, [], ◌∷◌, ◌++◌, length, map, Option, Some, None, slice_get, Result, Ok, Err}
use Rattle.std.specs.Option.{option_map}
use Rattle.base_words.specs.declared.names.JobId.{JobId}
use Rattle.base_words.specs.declared.order.Order.TheVariants.{Job}
use Rattle.base_words.specs.declared.order.SendError.{SendError}
use Rattle.base_jobs.specs.Calls.{Call, Doing, Makes}
use Rattle.base_jobs.specs.Calls.Call.{Submit, Detach}
use Rattle.base_jobs.specs.declared.poll.Poll.{Poll}
use Rattle.base_jobs.specs.declared.poll.Poll.TheVariants as poll
use Rattle.base_jobs.specs.declared.poll.Early.{Early}
use Rattle.base_jobs.specs.declared.poll.Early.TheVariants.{Yields, Submits, Parks}
use Rattle.base_jobs.specs.declared.poll.Yielding.{Yielding}
use Rattle.base_jobs.specs.declared.job.Step.{Step}
use Rattle.base_jobs.specs.declared.job.Step.TheVariants as steps

-- a script job: its polls, and how many of them it has made
pub record Script : Type 0 where
  pub polls : List Poll
  pub polled : ℕ

-- the poll that tells this time and does so
abbrev pub written : ℕ → Early → Poll
written told Yields = poll.Yield told
written told (Submits core queue) = poll.Submit told core queue
written told Parks = poll.Park told

-- what a poll that does so comes to
abbrev pub step_of : Early → Step ℕ
step_of Parks = steps.Park
step_of _ = steps.Yield

-- the poll that is kept so
abbrev pub yielding_poll : Yielding → Poll
yielding_poll kept = written kept.told kept.does

-- the polls of a job that keeps these: those that yield or are parked, then the last one
abbrev pub script_polls : List Yielding → ℕ → ℕ → List Poll
script_polls yields told value = map yielding_poll yields ++ poll.Done told value ∷ []

-- exactly the last one is done
abbrev pub EndsDone : List Poll → Type 0
EndsDone [] = ⊥
EndsDone (poll.Yield told ∷ rest) = EndsDone rest
EndsDone (poll.Submit told core queue ∷ rest) = EndsDone rest
EndsDone (poll.Park told ∷ rest) = EndsDone rest
EndsDone (poll.Done told value ∷ rest) = rest ≡ []

-- polls that a script job may have: at most 64, and exactly the last one is done
pub record IsScript (polls : List Poll) : Type 0 where
  pub ends : EndsDone polls
  pub short : length polls ≤ 64

-- the job that a poll submits: it takes a nanosecond, and is done with zero
abbrev pub small_job : Script
small_job = record { polls = poll.Done 1 0 ∷ []; polled = 0 }

-- what is accepted is detached
abbrev pub detach_calls : Result JobId (SendError Script) → List (Call Script ℕ)
detach_calls (Ok name) = Detach name (Ok tt) ∷ []
detach_calls (Err refused) = []

-- the small job is submitted to this queue of this core, and detached if it is accepted
pub record SendsSmall (core queue : ℕ) (calls : List (Call Script ℕ)) : Type 0 where
  pub answer : Result JobId (SendError Script)
  pub are : calls ≡ Submit core (Job queue small_job) answer ∷ detach_calls answer

-- what a poll that does so calls of its post
abbrev pub CallsTo : Early → List (Call Script ℕ) → Type 0
CallsTo (Submits core queue) calls = SendsSmall core queue calls
CallsTo _ calls = calls ≡ []

-- what a poll does that is written so: it calls its post, steps and tells its time as its word says; where no word is left there is no poll
abbrev pub Does : Option Poll → List (Call Script ℕ) → Step ℕ → Option ℕ → Type 0
Does None calls step told = ⊥
Does (Some (poll.Yield time)) calls step told = (calls ≡ []) × (step ≡ steps.Yield) × (told ≡ Some time)
Does (Some (poll.Submit time core queue)) calls step told = SendsSmall core queue calls × (step ≡ steps.Yield) × (told ≡ Some time)
Does (Some (poll.Park time)) calls step told = (calls ≡ []) × (step ≡ steps.Park) × (told ≡ Some time)
Does (Some (poll.Done time value)) calls step told = (calls ≡ []) × (step ≡ steps.Done value) × (told ≡ Some time)

-- what a poll that does so calls of this post
abbrev pub Posts : {P : Type 0} → Doing P Script ℕ → Early → P → P → Type 0
Posts does early old new = (calls : List (Call Script ℕ)) × CallsTo early calls × Makes does calls old new

-- the time that a poll tells
abbrev pub time_of : Poll → ℕ
time_of (poll.Yield told) = told
time_of (poll.Submit told core queue) = told
time_of (poll.Park told) = told
time_of (poll.Done told value) = told

-- the time that the last poll told, after so many polls
abbrev pub time_told : List Poll → ℕ → Option ℕ
time_told polls zero = None
time_told polls (suc polled) = option_map time_of (slice_get polls polled)

-- the number is the one that the last poll is done with
abbrev pub IsAnswer : List Poll → ℕ → Type 0
IsAnswer [] out = ⊥
IsAnswer (poll.Yield told ∷ rest) out = IsAnswer rest out
IsAnswer (poll.Submit told core queue ∷ rest) out = IsAnswer rest out
IsAnswer (poll.Park told ∷ rest) out = IsAnswer rest out
IsAnswer (poll.Done told value ∷ rest) out = out ≡ value
