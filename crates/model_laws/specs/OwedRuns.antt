-- That each poll of a run did what its task says.
use Rattle.std.specs.Prelude.{◌≡◌, ℕ, Some, List}
use Rattle.base_words.specs.Closing.{final_count}
use Rattle.base_jobs.specs.Meanings.{Meaning}
use Rattle.actor_core.specs.OwedPolls.{PollsAreOwed}
use Rattle.actor_core.specs.RightAnswers.{Seen}
use Rattle.model_world.specs.declared.event.Event.{Event}
use Rattle.model_world.specs.State.{WorldView, journal_at, order_under, terms_at}
use Rattle.model_world.specs.Opening.{IsUnbegun}
use Rattle.model_world.specs.Runs.{IsRun}

-- what a world shows of the links of one actor: at which number each core's journal tells its gate shut, and which orders were accepted
abbrev pub seen_of : {J T : Type 0} → ℕ → WorldView J T → Seen J
seen_of actor world = record {
  shut = λ core final. final_count actor (journal_at core world) ≡ Some final;
  sent = λ name order. order_under name world ≡ Some order;
}

module _ {J : Type 0} (meaning : Meaning J ℕ) where
  -- each poll that a journal tells did what the order says that was accepted under its name
  abbrev pub HasAllPollsOwed : WorldView J ℕ → Type 0
  HasAllPollsOwed world =
      (actor : ℕ) → PollsAreOwed meaning (terms_at actor world) (seen_of actor world) (λ name. order_under name world) (journal_at actor world)

  -- after each run from a world before its first event
  abbrev pub RunsOwePolls : Type 0
  RunsOwePolls = (events : List (Event J)) (old end : WorldView J ℕ) → IsUnbegun old → IsRun meaning events old end → HasAllPollsOwed end
