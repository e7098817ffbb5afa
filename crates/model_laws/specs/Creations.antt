-- Queues that are made before the first event, and events that order none.
use Rattle.std.specs.Prelude.{◌≡◌, ℕ, ◌+◌, Option, List, [], ◌∷◌}
use Rattle.base_words.specs.declared.note.Note.TheVariants.{Created}
use Rattle.base_words.specs.declared.order.Order.{Order}
use Rattle.base_words.specs.declared.order.Order.TheVariants.{Create}
use Rattle.base_words.specs.Commands.{created_count}
use Rattle.base_jobs.specs.Calls.{Call}
use Rattle.base_jobs.specs.Calls.Call.{Submit}
use Rattle.base_jobs.specs.declared.job.Step.{Step}
use Rattle.base_jobs.specs.Meanings.{Meaning}
use Rattle.model_world.specs.declared.event.Event.{Event}
use Rattle.model_world.specs.declared.event.Event.TheVariants.{Send}
use Rattle.model_world.specs.declared.event.Reply.{Reply}
use Rattle.model_world.specs.State.{WorldView, journal_at, noted}
use Rattle.model_world.specs.Opening.{IsUnbegun}
use Rattle.model_laws.specs.Alike.{AreAllAlike}
use Rattle.model_laws.specs.Determined.{OwesOne, IsToldRun}

module _ {J T : Type 0} where
  -- queues of these cores, with these shares, each under the next number of its core
  abbrev pub with_creations : List (ℕ × ℕ) → WorldView J T → WorldView J T
  with_creations [] world = world
  with_creations (creation ∷ creations) world =
      with_creations creations (noted creation.0 (Created (created_count (journal_at creation.0 world) + 1) creation.1 ∷ []) world)

module _ {J : Type 0} where
  -- the order is for no new queue
  abbrev pub IsNoCreation : Order J → Type 0
  IsNoCreation (Create weight) = ⊥
  IsNoCreation _ = Unit {0}

  abbrev pub OrdersNoQueue : Event J → Type 0
  OrdersNoQueue (Send sender core order) = IsNoCreation order
  OrdersNoQueue _ = Unit {0}

  -- none of the events orders a queue
  abbrev pub OrderNoQueues : List (Event J) → Type 0
  OrderNoQueues [] = Unit {0}
  OrderNoQueues (event ∷ events) = OrdersNoQueue event × OrderNoQueues events

  -- none of the calls of a post orders one
  abbrev pub CallNoQueues : {T : Type 0} → List (Call J T) → Type 0
  CallNoQueues [] = Unit {0}
  CallNoQueues (Submit to order answer ∷ calls) = IsNoCreation order × CallNoQueues calls
  CallNoQueues (_ ∷ calls) = CallNoQueues calls

  -- no poll orders a queue
  abbrev pub PollsOrderNone : {T : Type 0} → Meaning J T → Type 0
  PollsOrderNone {T} meaning = (job : J) (place : ℕ) (calls : List (Call J T)) (step : Step T) (told : Option ℕ) → meaning.polls job place calls step told → CallNoQueues calls

module _ {J : Type 0} (meaning : Meaning J ℕ) where
  -- before its first event, a world and events that order no queue have one result, where no job orders one
  abbrev pub RunOfJobsIsDetermined : Type 0
  RunOfJobsIsDetermined =
      OwesOne meaning → PollsOrderNone meaning → (events : List (Event J)) (old new other : WorldView J ℕ) (replies others : List (Reply J)) → IsUnbegun old → OrderNoQueues events →
      IsToldRun meaning events old new replies → IsToldRun meaning events old other others →
      (new ≡ other) × AreAllAlike meaning replies others
