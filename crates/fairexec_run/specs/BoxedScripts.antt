-- The job that a form stands for, and what becomes of its submissions.
use Rattle.std.specs.Prelude.{◌≡◌, ℕ, List, [], ◌∷◌, Option, Some, None}
use Rattle.base_words.specs.declared.order.Order.TheVariants.{Job}
use Rattle.base_jobs.specs.Calls.{Call, Doing, Makes}
use Rattle.base_jobs.specs.Calls.Call.{Submit}
use Rattle.base_jobs.specs.declared.poll.Poll.TheVariants.{Done}
use Rattle.base_jobs.specs.Scripts.{Script, SendsSmall}
use Rattle.fairexec_run.specs.declared.boxed_script.Form.{Form}
use Rattle.fairexec_run.specs.declared.boxed_script.Form.TheVariants.{Short, Polled, Long}

-- the script job that a form stands for
abbrev pub script_in : Form → Script
script_in (Short told answer) = record { polls = Done told answer ∷ []; polled = 0 }
script_in (Polled told answer) = record { polls = Done told answer ∷ []; polled = 1 }
script_in (Long boxed) = boxed.value

-- what a call of a recorder does: of a job that is submitted it keeps the place, and of any other call nothing
abbrev pub Records : Doing (Option (ℕ × ℕ)) Script ℕ
Records old (Submit to (Job queue job) answer) new = new ≡ Some (to, queue)
Records old call new = new ≡ old

-- the small job is submitted to this place, if there is one, and detached if it is accepted
abbrev pub SendsTo : {P : Type 0} → Doing P Script ℕ → Option (ℕ × ℕ) → P → P → Type 0
SendsTo does None old new = new ≡ old
SendsTo does (Some place) old new = (calls : List (Call Script ℕ)) × SendsSmall place.0 place.1 calls × Makes does calls old new
