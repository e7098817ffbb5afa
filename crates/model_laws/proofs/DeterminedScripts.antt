-- A poll of a script job owes one step and one time, and asks one thing, so a run of script jobs has one result.
use Rattle.model_laws.proofs.Words.{◌≡◌, ℕ, List, [], refl, sym, ◌∙◌, subst, Option, Some, None, slice_get, Result, Ok, Err, JobId, SendError, Call, Step, Script}
use Rattle.model_laws.proofs.Words.{AskAlike, CallNoQueues, PollsOrderNone, OwesOne, script_meaning}
use Rattle.base_jobs.specs.declared.poll.Poll.{Poll}
use Rattle.base_jobs.specs.declared.poll.Poll.TheVariants as poll
use Rattle.base_jobs.specs.Scripts.{Does, SendsSmall, detach_calls}
use Rattle.model_laws.specs.ScriptRuns.{ScriptRunIsDetermined}
use Rattle.model_laws.proofs.DeterminedRuns.{run_once}

module _ (calls others : List (Call Script ℕ)) where
  module _ (step other : Step ℕ) (told other_told : Option ℕ) where
    one_step : (word : Option Poll) → Does word calls step told → Does word others other other_told → (step ≡ other) × (told ≡ other_told)
    one_step None first second = absurd first
    one_step (Some (poll.Yield time)) first second = (first.1 ∙ sym second.1, first.2 ∙ sym second.2)
    one_step (Some (poll.Submit time core queue)) first second = (first.1 ∙ sym second.1, first.2 ∙ sym second.2)
    one_step (Some (poll.Park time)) first second = (first.1 ∙ sym second.1, first.2 ∙ sym second.2)
    one_step (Some (poll.Done time value)) first second = (first.1 ∙ sym second.1, first.2 ∙ sym second.2)

  -- two lists of calls, said otherwise
  alike_as : (same : List (Call Script ℕ)) (same_others : List (Call Script ℕ)) → calls ≡ same → others ≡ same_others → AskAlike same same_others → AskAlike calls others
  alike_as same same_others is others_is alike = subst (λ calls. AskAlike calls others) (sym is) (subst (AskAlike same) (sym others_is) alike)

  -- what is accepted is detached, and it is the same
  detach_alike : (answer told : Result JobId (SendError Script)) → answer ≡ told → AskAlike (detach_calls answer) (detach_calls told)
  detach_alike answer told is = subst (λ told. AskAlike (detach_calls answer) (detach_calls told)) is (itself answer)
    where
      itself : (answer : Result JobId (SendError Script)) → AskAlike (detach_calls answer) (detach_calls answer)
      itself (Ok name) = (refl, (λ same. refl))
      itself (Err error) = refl

  sends_alike : (core queue : ℕ) → SendsSmall core queue calls → SendsSmall core queue others → AskAlike calls others
  sends_alike core queue first second = alike_as _ _ first.are second.are ((refl, refl), (λ same. detach_alike first.answer second.answer same))

  asks_one : (word : Option Poll) (step other : Step ℕ) (told other_told : Option ℕ) → Does word calls step told → Does word others other other_told → AskAlike calls others
  asks_one None step other told other_told first second = absurd first
  asks_one (Some (poll.Yield time)) step other told other_told first second = alike_as [] [] first.0 second.0 refl
  asks_one (Some (poll.Submit time core queue)) step other told other_told first second = sends_alike core queue first.0 second.0
  asks_one (Some (poll.Park time)) step other told other_told first second = alike_as [] [] first.0 second.0 refl
  asks_one (Some (poll.Done time value)) step other told other_told first second = alike_as [] [] first.0 second.0 refl

pub scripts_owe_one : OwesOne script_meaning
scripts_owe_one = record {
  step = λ job place calls others step other told other_told first second. (one_step calls others step other told other_told (slice_get job.polls place) first second).0;
  told = λ job place calls others step other told other_told first second. (one_step calls others step other told other_told (slice_get job.polls place) first second).1;
  asks = λ job place calls others step other told other_told first second. asks_one calls others (slice_get job.polls place) step other told other_told first second;
}

-- no poll of a script job orders a queue
none_as : (calls same : List (Call Script ℕ)) → calls ≡ same → CallNoQueues same → CallNoQueues calls
none_as calls same is none = subst CallNoQueues (sym is) none

orders_none : (word : Option Poll) (calls : List (Call Script ℕ)) (step : Step ℕ) (told : Option ℕ) → Does word calls step told → CallNoQueues calls
orders_none None calls step told does = absurd does
orders_none (Some (poll.Yield time)) calls step told does = none_as calls [] does.0 tt
orders_none (Some (poll.Submit time core queue)) calls step told does = none_as calls _ does.0.are (tt, detached does.0.answer)
  where
    detached : (answer : Result JobId (SendError Script)) → CallNoQueues (detach_calls answer)
    detached (Ok name) = tt
    detached (Err error) = tt
orders_none (Some (poll.Park time)) calls step told does = none_as calls [] does.0 tt
orders_none (Some (poll.Done time value)) calls step told does = none_as calls [] does.0 tt

pub scripts_order_none : PollsOrderNone script_meaning
scripts_order_none job place calls step told does = orders_none (slice_get job.polls place) calls step told does

pub script_run_once : ScriptRunIsDetermined
script_run_once = run_once script_meaning scripts_owe_one
