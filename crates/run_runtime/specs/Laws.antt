-- Laws over the definitions alone.
use Rattle.std.specs.Prelude.{◌≡◌, ℕ, ◌+◌, ◌<◌, Bool, List, ◌∷◌, ◌++◌, Option, Some}
use Rattle.base_words.specs.declared.names.JobId.{JobId}
use Rattle.base_words.specs.declared.note.OutcomeNote.TheVariants.{Finished}
use Rattle.base_words.specs.declared.order.Order.{Order}
use Rattle.base_words.specs.declared.order.Order.TheVariants.{Job}
use Rattle.base_words.specs.declared.order.Outcome.{Outcome}
use Rattle.base_words.specs.Assembly.{Assembly, journal_of, outcome_of}
use Rattle.base_words.specs.Journal.{Journal}
use Rattle.base_words.specs.Outcomes.{outcome_note}
use Rattle.base_jobs.specs.Calls.{Call}
use Rattle.link_ends.specs.Fits.{Fits}
use Rattle.base_jobs.specs.Meanings.{Meaning}
use Rattle.base_jobs.specs.declared.job.Step.{Step}
use Rattle.core_core.specs.Whole.{settled_of}
use Rattle.actor_core.specs.OwedPolls.{IsPollOf}
use Rattle.actor_core.specs.Polls.{polls_made, settle_note}
use Rattle.run_runtime.specs.Outcomes.{TellsOrders, seen_at_end}
use Rattle.actor_caller.specs.State.{RuntimeView, submitted_under}

module _ {J : Type 0} where
  -- the caller submitted this job under this name, and the journals tell that it is done with this answer
  pub record TellsAnswer (view : RuntimeView J ℕ) (assembly : Assembly ℕ) (name : JobId) (job : J) (answer : ℕ) : Type 0 where
    pub queue : ℕ
    pub caller : name.from ≡ view.desk.cores
    pub there : name.to < view.desk.cores
    pub submitted : submitted_under name view ≡ Some (Job queue job)
    pub told : outcome_of name assembly ≡ Some (Finished answer)

  -- the caller submitted this job under this name, and the journal of its core tells, behind these notes, that a poll of it came to this step; a job that asked to be parked may have stayed in its line
  pub record TellsPoll (view : RuntimeView J ℕ) (assembly : Assembly ℕ) (name : JobId) (job : J) (step : Step ℕ) : Type 0 where
    pub queue : ℕ
    pub caller : name.from ≡ view.desk.cores
    pub there : name.to < view.desk.cores
    pub submitted : submitted_under name view ≡ Some (Job queue job)
    pub time : ℕ
    pub stays : Bool
    pub before : Journal ℕ
    pub later : Journal ℕ
    pub told : journal_of name.to assembly ≡ later ++ settle_note name time (settled_of step stays) ∷ before

  -- each poll that a finish tells of a submitted job is one that this job owes
  abbrev pub ToldPollsAreOwed : Meaning J ℕ → Type 0
  ToldPollsAreOwed meaning =
      (view : RuntimeView J ℕ) (assembly : Assembly ℕ) (name : JobId) (job : J) (step : Step ℕ) (tells : TellsPoll view assembly name job step) (finished : TellsOrders meaning view assembly) →
      IsPollOf meaning (record { actor = name.to; cores = view.desk.cores; cap = view.desk.cap; burst = view.desk.burst }) (seen_at_end assembly finished.orders name.to) tells.queue job name tells.time step tells.before

  -- a finish tells no poll of a submitted job that its task doesn't owe behind as many polls
  abbrev pub UnowedPollsAreRefused : Meaning J ℕ → Type 0
  UnowedPollsAreRefused meaning =
      (view : RuntimeView J ℕ) (assembly : Assembly ℕ) (name : JobId) (job : J) (step : Step ℕ) (tells : TellsPoll view assembly name job step) →
      ((calls : List (Call J ℕ)) (told : Option ℕ) → meaning.polls job (meaning.made job + polls_made name tells.before) calls step told → ⊥) → TellsOrders meaning view assembly → ⊥

  -- a finish tells no answer of a job that isn't one of its task
  abbrev pub WrongAnswersAreRefused : Meaning J ℕ → Type 0
  WrongAnswersAreRefused meaning =
      (view : RuntimeView J ℕ) (assembly : Assembly ℕ) (name : JobId) (job : J) (answer : ℕ) →
      TellsAnswer view assembly name job answer → (meaning.answers job answer → ⊥) → TellsOrders meaning view assembly → ⊥

  -- the journals tell an outcome under this name, and it fits the order
  pub record IsToldOf (meaning : Meaning J ℕ) (assembly : Assembly ℕ) (name : JobId) (order : Order J) : Type 0 where
    pub outcome : Outcome J ℕ
    pub told : outcome_of name assembly ≡ Some (outcome_note outcome)
    pub fit : Fits meaning order outcome

  -- each order that the caller submitted under a name has its outcome in the journals of a finish
  abbrev pub SubmittedOrdersAreTold : Meaning J ℕ → Type 0
  SubmittedOrdersAreTold meaning =
      (view : RuntimeView J ℕ) (assembly : Assembly ℕ) (name : JobId) (order : Order J) → name.from ≡ view.desk.cores → name.to < view.desk.cores → 0 < name.number →
      submitted_under name view ≡ Some order → TellsOrders meaning view assembly → IsToldOf meaning assembly name order
