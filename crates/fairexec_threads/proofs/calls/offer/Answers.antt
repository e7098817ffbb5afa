use Rattle.std.proofs.Common.{◌≡◌, ℕ, ◌≤◌, ◌==◌, false, length, arith}
use Rattle.std.proofs.lemmas.Bool.Decides.{nat_tests}
use Rattle.base_words.specs.declared.order.Order.{Order}
use Rattle.base_words.specs.declared.order.Order.TheVariants as order
use Rattle.base_jobs.specs.Ready.{HasReadyJob}
use Rattle.base_jobs.specs.ScriptMeaning.{script_meaning}
use Rattle.base_jobs.specs.Scripts.{Script}
use Rattle.fairexec_script.specs.ThreadsLimits.{IsToldOf}
use Rattle.fairexec_threads.proofs.Sending.{offered}
use Rattle.fairexec_threads.proofs.calls.offer.Goals as goal

not_done : (polled count : ℕ) → polled ≡ 0 → 1 ≤ count → (polled == count) ≡ false
not_done polled count none some = grind (arith, nat_tests, none, some)

ready_told : (cores core : ℕ) (one : Order Script) → IsToldOf cores (core, one) → HasReadyJob script_meaning one
ready_told cores core (order.Job queue job) told = (not_done job.polled (length job.polls) told.none_made told.some_polls, tt)
ready_told cores core (order.Create weight) told = tt
ready_told cores core (order.SetShares queue weight) told = tt
ready_told cores core (order.Close queue mode) told = tt
ready_told cores core (order.CloseCore mode) told = tt
ready_told cores core (order.Wake actor number) told = tt

pub returns : goal.returns
returns c = offered 3 c.args.core c.args.order c.polls_of-polls.ensures c.args.house.now c.submit-answer.result c.submit-answer.new.self (omega arith) c.requires.told.core c.requires.place c.submit-answer.ensures

pub submit-answer-requires : goal.submit-answer-requires
submit-answer-requires c = record { ready = ready_told c.args.house.now.desk.cores c.args.core c.args.order c.requires.told }
