-- The orders of a house whose runtime has finished, and what its journals tell of them.
use Rattle.std.specs.Prelude.{◌≡◌, ℕ, ◌<◌, ◌≤◌, Option, Some, IfSome}
use Rattle.std.specs.Option.{IsSome, option_map}
use Rattle.base_words.specs.declared.names.JobId.{JobId}
use Rattle.base_words.specs.declared.note.OutcomeNote.{OutcomeNote}
use Rattle.base_words.specs.declared.order.Order.{Order}
use Rattle.base_words.specs.declared.order.Outcome.{Outcome}
use Rattle.base_words.specs.Assembly.{Assembly, journal_of, order_of, outcome_of}
use Rattle.base_words.specs.Closing.{final_count}
use Rattle.base_words.specs.Orders.{without_job}
use Rattle.base_words.specs.Outcomes.{outcome_note}
use Rattle.base_jobs.specs.Meanings.{Meaning}
use Rattle.link_ends.specs.Fits.{Fits}
use Rattle.actor_core.specs.OwedPolls.{PollsAreOwed}
use Rattle.actor_core.specs.RightAnswers.{Seen}
use Rattle.actor_caller.specs.State.{RuntimeView, submitted_under}

-- which order stands under a name, with its job
abbrev pub Orders : Type 0 → Type 0
Orders J = JobId → Option (Order J)

-- what is told under a name is an outcome that fits the order of that name
pub record FitsItsOrder {J T : Type 0} (fits : Order J → Outcome J T → Type 0) (orders : Orders J) (name : JobId) (told : OutcomeNote T) : Type 0 where
  pub order : Order J
  pub under : orders name ≡ Some order
  pub outcome : Outcome J T
  pub as_told : outcome_note outcome ≡ told
  pub fit : fits order outcome

-- What is known at the end of the links on which a core sent: at which number another core tells that its gate was shut, and which order was sent under a name.
abbrev pub seen_at_end : {J T : Type 0} → Assembly T → Orders J → ℕ → Seen J
seen_at_end assembly orders core =
    record {
      shut = λ other final. final_count core (journal_of other assembly) ≡ Some final;
      sent = λ name order. name.from ≡ core → orders name ≡ Some order;
    }

module _ {J T : Type 0} (view : RuntimeView J T) (assembly : Assembly T) (orders : Orders J) where
  -- These are the orders that were sent. The sender's journal tells each of them without its job, and no other. Under a name of the outside actor
  -- stands the one that the caller submitted, with its job. Each that the caller submitted stands there.
  pub record AreItsOrders : Type 0 where
    pub sent : (name : JobId) → name.from ≤ view.desk.cores → name.to < view.desk.cores → order_of name assembly ≡ option_map without_job (orders name)
    pub by_caller : (name : JobId) → name.from ≡ view.desk.cores → name.to < view.desk.cores → IfSome (orders name) (λ order. submitted_under name view ≡ Some order)
    pub all_of_caller : (name : JobId) → name.from ≡ view.desk.cores → name.to < view.desk.cores → 0 < name.number → orders name ≡ submitted_under name view

  -- the journals tell an outcome of each order that was sent
  abbrev pub AllHaveOutcomes : Type 0
  AllHaveOutcomes = (name : JobId) → name.from ≤ view.desk.cores → name.to < view.desk.cores → IfSome (orders name) (λ order. IsSome (outcome_of name assembly))

  -- each outcome that the journals tell of a submission is one that its order asks
  abbrev pub AllFitTheirOrders : (Order J → Outcome J T → Type 0) → Type 0
  AllFitTheirOrders fits =
      (name : JobId) → name.from ≤ view.desk.cores → name.to < view.desk.cores → IfSome (outcome_of name assembly) (FitsItsOrder fits orders name)

  -- Each poll that the journals tell is one that the job under its name owes: what it posted and was answered, its step, and the time that it states.
  abbrev pub AllPollsAreOwed : Meaning J T → Type 0
  AllPollsAreOwed meaning =
      (core : ℕ) → core < view.desk.cores →
      PollsAreOwed meaning (record { actor = core; cores = view.desk.cores; cap = view.desk.cap; burst = view.desk.burst }) (seen_at_end assembly orders core) orders (journal_of core assembly)

-- What the journals of a runtime that has finished tell of its orders. There is one for each name, as it was sent: each has an outcome, what is told of it is
-- what it asks, and each of its polls is one that it owes.
pub record TellsOrders {J : Type 0} (meaning : Meaning J ℕ) (view : RuntimeView J ℕ) (assembly : Assembly ℕ) : Type 0 where
  pub orders : Orders J
  pub orders_are : AreItsOrders view assembly orders
  pub outcomes : AllHaveOutcomes view assembly orders
  pub fitting : AllFitTheirOrders view assembly orders (Fits meaning)
  pub polls : AllPollsAreOwed view assembly orders meaning
