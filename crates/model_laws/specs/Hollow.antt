-- No world is hollow: a fresh one has its lists, and each event keeps them.
use Rattle.std.specs.Prelude.{◌≡◌, ◌⊎◌, ℕ, []}
use Rattle.base_jobs.specs.Meanings.{Meaning}
use Rattle.model_world.specs.declared.event.Event.{Event}
use Rattle.model_world.specs.declared.event.Reply.{Reply}
use Rattle.model_world.specs.State.{WorldView}
use Rattle.model_world.specs.Opening.{HasAllLists, IsUnbegun, IsFresh}
use Rattle.model_world.specs.Runs.{Happens}

-- a world that has no journal, or no list of orders, isn't fresh, nor is it one before its first event
abbrev pub HollowIsRefused : Type 0 → Type 0 → Type 0
HollowIsRefused J T =
    (cores cap burst room : ℕ) (world : WorldView J T) → (world.journals ≡ []) ⊎ (world.sent ≡ []) →
    (IsFresh cores cap burst room world → ⊥) × (IsUnbegun world → ⊥)

module _ {J : Type 0} (meaning : Meaning J ℕ) where
  -- after each event there are as many lists as before
  abbrev pub EventsKeepLists : Type 0
  EventsKeepLists = (event : Event J) (old new : WorldView J ℕ) (answer : Reply J) → Happens meaning event old new answer → HasAllLists old → HasAllLists new
