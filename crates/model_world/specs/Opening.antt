-- A world as it opens, and the numbers that it opens with.
use Rattle.std.specs.Prelude.{◌≡◌, ℕ, ◌+◌, ◌<◌, ◌≤◌, [], ◌∷◌, length, slice_index_or, Result, Ok, Err}
use Rattle.base_words.specs.declared.order.Order.{Order}
use Rattle.base_words.specs.Commands.{IsOpening}
use Rattle.model_world.specs.declared.event.Event.{Event}
use Rattle.model_world.specs.declared.event.Event.TheVariants.{Send}
use Rattle.base_words.specs.declared.note.Note.TheVariants.{Created}
use Rattle.base_words.specs.Commands.{created_count}
use Rattle.base_words.specs.Limits.{most_cores, most_capacity, most_burst, most_queues, most_notes}
use Rattle.core_queues.specs.declared.queues.CreateError.{CreateError}
use Rattle.core_queues.specs.declared.queues.CreateError.TheVariants.{TooMany, Memory}
use Rattle.model_world.specs.declared.model.WorldError.{WorldError}
use Rattle.model_world.specs.declared.model.WorldError.TheVariants as why
use Rattle.model_world.specs.State.{WorldView, journal_at, sent_at, noted}

-- at least one core, one place in each link and one poll in each turn, and no more cores, places, polls and notes than the limits allow
pub record IsConfig (cores cap burst room : ℕ) : Type 0 where
  pub some_core : 1 ≤ cores
  pub few_cores : cores ≤ most_cores
  pub some_cap : 1 ≤ cap
  pub low_cap : cap ≤ most_capacity
  pub some_burst : 1 ≤ burst
  pub low_burst : burst ≤ most_burst
  pub low_room : room ≤ most_notes

-- a journal for each core and for the outside actor, and for each of them a list of orders to each core
pub record HasAllLists {J T : Type 0} (world : WorldView J T) : Type 0 where
  pub journals_are : length world.journals ≡ world.cores + 1
  pub senders_are : length world.sent ≡ world.cores + 1
  pub links_are : (sender : ℕ) → sender ≤ world.cores → length (slice_index_or world.sent sender []) ≡ world.cores

-- no event has happened: nothing was sent, and the journals have the notes of creations alone
pub record IsUnbegun {J T : Type 0} (world : WorldView J T) : Type 0 where
  pub lists : HasAllLists world
  pub no_order : (sender core : ℕ) → sent_at sender core world ≡ []
  pub opening : (actor : ℕ) → IsOpening (journal_at actor world)

-- a world of these numbers in which nothing has happened and nothing was created
pub record IsFresh {J T : Type 0} (cores cap burst room : ℕ) (world : WorldView J T) : Type 0 where
  pub cores_are : world.cores ≡ cores
  pub cap_is : world.cap ≡ cap
  pub burst_is : world.burst ≡ burst
  pub room_is : world.room ≡ room
  pub lists : HasAllLists world
  pub no_note : (actor : ℕ) → journal_at actor world ≡ []
  pub no_order : (sender core : ℕ) → sent_at sender core world ≡ []

-- the job that an event hands in is ready
abbrev pub HasReadyEvent : {J : Type 0} → (Order J → Type 0) → Event J → Type 0
HasReadyEvent ready (Send sender core order) = ready order
HasReadyEvent ready _ = Unit {0}

-- what an opening answers: a fresh world, or why there is none
abbrev pub Opens : {J T : Type 0} → ℕ → ℕ → ℕ → ℕ → Result (WorldView J T) WorldError → Type 0
Opens cores cap burst room (Ok world) = IsConfig cores cap burst room × IsFresh cores cap burst room world
Opens cores cap burst room (Err why.BadConfig) = IsConfig cores cap burst room → ⊥
Opens cores cap burst room (Err why.Memory) = IsConfig cores cap burst room

-- a queue is made before the first event, under the next number; a core that has as many queues as it may says so, else there was no memory
abbrev pub CreatesAtOpening : {J T : Type 0} → ℕ → ℕ → WorldView J T → Result ℕ CreateError → WorldView J T → Type 0
CreatesAtOpening core weight old (Ok queue) new =
    (queue ≡ created_count (journal_at core old) + 1) × (queue < most_queues) × (new ≡ noted core (Created queue weight ∷ []) old)
CreatesAtOpening core weight old (Err TooMany) new = (created_count (journal_at core old) + 1 ≡ most_queues) × (new ≡ old)
CreatesAtOpening core weight old (Err Memory) new = (created_count (journal_at core old) + 1 < most_queues) × (new ≡ old)
