-- Runs of a script on threads that are refused, each for one thing.
use Rattle.std.specs.Prelude.{◌≡◌, ℕ, Bool, List, [], ◌∷◌, Option, Some, Err, length}
use Rattle.base_words.specs.declared.names.JobId.{JobId}
use Rattle.base_words.specs.declared.note.Note.TheVariants.{Pick, Resume, Yield}
use Rattle.base_words.specs.declared.order.Mode.TheVariants.{Finish, Return}
use Rattle.base_words.specs.declared.order.Order.{Order}
use Rattle.base_words.specs.declared.order.Order.TheVariants.{Job}
use Rattle.base_words.specs.declared.order.SendError.TheVariants.{Full}
use Rattle.base_words.specs.Assembly.{Assembly}
use Rattle.base_words.specs.Journal.{Journal}
use Rattle.base_jobs.specs.Scripts.{Script}
use Rattle.base_jobs.specs.declared.poll.Poll.{Poll}
use Rattle.base_jobs.specs.declared.poll.Poll.TheVariants as poll
use Rattle.actor_core.specs.BadPolls.{job, begun}
use Rattle.run_runtime.specs.Outcomes.{Orders}
use Rattle.run_runtime.specs.State.{RuntimeView}
use Rattle.text_words.specs.declared.fault.Fault.TheVariants.{Read}
use Rattle.fairexec_script.specs.declared.fault.ThreadsFault.TheVariants.{Of}
use Rattle.fairexec_script.specs.Orders.{Told}
use Rattle.fairexec_threads.specs.Accepted.{IsSent, ClosesItself, IsHeard}
use Rattle.fairexec_threads.specs.Counting.{sent_to, HasPlace, CanClose}
use Rattle.fairexec_threads.specs.Offers.{Offers}
use Rattle.fairexec_threads.specs.Polled.{IsPolledAsTold}
use Rattle.fairexec_threads.specs.Runs.{IsRun, IsCutShort, IsOfStart}

-- the journals of one core and of the outside actor tell of nothing
abbrev pub silent : Assembly ℕ
silent = record { cores = 1; cap = 1; burst = 1; journals = [] }

-- the journal of core 0 tells these notes, and those of core 1 and of the outside actor tell of nothing
abbrev pub of_core_0 : Journal ℕ → Assembly ℕ
of_core_0 notes = record { cores = 2; cap = 4; burst = 1; journals = notes ∷ [] ∷ [] ∷ [] }

-- whatever was sent, these notes aren't what the journal of core 0 tells of a job of these words
abbrev pub IsNotPolledAsTold : List Poll → Journal ℕ → Type 0
IsNotPolledAsTold words notes = (sent : Orders Script) → IsPolledAsTold sent (of_core_0 notes) job (Job 0 (record { polls = words; polled = 0 })) → ⊥

-- each of these is refused
pub record RunsAreRefused : Type 0 where
  -- a run, and the beginning of one, over an empty text: it tells no size
  pub no_script : (journal stats answer : Bool) (sink_old sink_new : Option (List ℕ)) → IsRun journal stats (Some []) sink_old sink_new answer → ⊥
  pub early : (journal stats : Bool) (sink_old sink_new : Option (List ℕ)) → IsCutShort journal stats (Some []) sink_old sink_new → ⊥
  -- an order that no journal tells of, and one that was sent to another core
  pub unsent : (told : Told) (name : JobId) → IsSent told name silent → ⊥
  pub elsewhere : (order : Order Script) (name : JobId) (assembly : Assembly ℕ) → name.to ≡ 1 → IsSent (0, order) name assembly → ⊥
  -- an order that is refused by a full link
  pub full : (told : Told) → IsHeard silent told (Err (Full told.1)) → ⊥
  -- a core that closes by itself in mode `Finish`, one that does so with an empty journal, and one behind more notes than its journal had room for
  pub finishing : (before : Journal ℕ) (assembly : Assembly ℕ) → ClosesItself Finish before assembly → ⊥
  pub roomy : ClosesItself Return [] silent → ⊥
  pub overfull : (before : Journal ℕ) → length before ≡ 65601 → ClosesItself Return before silent → ⊥
  -- a job is polled once more than its words say, its `p` sends nothing though no gate is shut, and another time counts than the one that is told
  pub polled_once_more : IsNotPolledAsTold (poll.Yield 5 ∷ poll.Done 1 7 ∷ []) (Yield job 5 ∷ Resume job ∷ Pick 0 5 ∷ Yield job 5 ∷ begun)
  pub p_is_left_out : IsNotPolledAsTold (poll.Submit 5 1 0 ∷ poll.Done 1 7 ∷ []) (Yield job 5 ∷ begun)
  pub another_time : IsNotPolledAsTold (poll.Yield 5 ∷ poll.Done 1 7 ∷ []) (Yield job 6 ∷ begun)
  -- an order to a core that isn't there, to a full link, and the closing of a core whose link is full
  pub to_none : (order : Order Script) (old new : RuntimeView Script ℕ) → old.desk.cores ≡ 1 → Offers (1, order) old new → ⊥
  pub no_place : (view : RuntimeView Script ℕ) → sent_to 0 view ≡ view.desk.cap → HasPlace 0 view → ⊥
  pub no_closing_place : (view : RuntimeView Script ℕ) → sent_to 0 view ≡ view.desk.cap → CanClose view → ⊥
  -- a start that fails to read
  pub failed_read : IsOfStart (Of Read) → ⊥
