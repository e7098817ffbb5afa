-- What a job of the host means: it asks its post once for the outcome of its run, and does what it hears.
use Rattle.std.specs.Prelude.{◌≡◌, ℕ, None, Result, Ok, Err, List, [], ◌∷◌}
use Rattle.base_words.specs.declared.names.TicketError.{TicketError}
use Rattle.base_words.specs.declared.names.TicketError.TheVariants.{Unknown, Gone, Pending}
use Rattle.base_words.specs.declared.order.Outcome.{Outcome}
use Rattle.base_words.specs.declared.order.Outcome.TheVariants.{Finished, Returned, Answered}
use Rattle.base_jobs.specs.declared.job.Step.{Step}
use Rattle.base_jobs.specs.declared.job.Step.TheVariants.{Done, Yield, Park}
use Rattle.base_jobs.specs.Calls.{Call}
use Rattle.base_jobs.specs.Calls.Call.{Submit, Redeem, Detach}
use Rattle.base_jobs.specs.Meanings.{Meaning, IsMeaning}
use Rattle.base_jobs.specs.Same.{same_value}
use Rattle.host_core.specs.declared.job.HostJob.{HostJob}

-- what an answer of the post says of the run: an outcome says that the job is done, a ticket that nobody knows that it parks, and anything else that it wants to run again
abbrev pub heard : {J : Type 0} → Result (Outcome J ℕ) TicketError → Step ℕ
heard (Ok (Finished answer)) = Done answer
heard (Ok (Returned reason order)) = Yield
heard (Ok (Answered answer)) = Yield
heard (Err Unknown) = Park
heard (Err Gone) = Yield
heard (Err Pending) = Yield

-- the post is asked once, and the step is what it says
abbrev pub AsksOnce : List (Call HostJob ℕ) → Step ℕ → Type 0
AsksOnce [] step = ⊥
AsksOnce (Submit to order answer ∷ later) step = ⊥
AsksOnce (Detach name answer ∷ later) step = ⊥
AsksOnce (Redeem name answer ∷ []) step = step ≡ heard answer
AsksOnce (Redeem name answer ∷ call ∷ later) step = ⊥

-- two jobs of one number have one task, which may have any answer; a poll asks once and states no time
abbrev pub host_meaning : Meaning HostJob ℕ
host_meaning =
    record {
      same = λ a b. a.handle ≡ b.handle;
      done = λ job. job.ended;
      can_poll = λ job. Unit {0};
      made = λ job. 0;
      says = λ job. None;
      polls = λ job made calls step told. AsksOnce calls step × (told ≡ None);
      answers = λ job out. Unit {0};
    }

-- it keeps the laws
pub host_laws : IsMeaning host_meaning
host_laws =
    record {
      same_task = same_value (λ job. job.handle);
      answers_same = λ a b out same here. tt;
      polls_same = λ a b made calls step told same owed. owed;
      can_poll_same = λ a b same can. tt;
    }
