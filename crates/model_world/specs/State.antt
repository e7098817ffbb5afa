-- What the model of an executor is: its journals, and the orders that its links have accepted.
use Rattle.std.specs.Prelude.{ℕ, ◌+◌, ◌*◌, ◌-◌, ◌<◌, List, [], ◌∷◌, ◌++◌, length, Option, slice_get, slice_set, slice_index_or}
use Rattle.base_words.specs.declared.names.JobId.{JobId}
use Rattle.base_words.specs.declared.note.Note.{Note}
use Rattle.base_words.specs.declared.order.Order.{Order}
use Rattle.base_words.specs.Journal.{Journal}
use Rattle.base_words.specs.Assembly.{Assembly}
pub use Rattle.base_words.specs.Orders.{without_job}
use Rattle.base_words.specs.Terms.{Terms}

-- the number of cores, the capacity of each link, how many polls a turn may have, and the room of each journal; the journals by actor; and the orders accepted, by sender and then by core, the oldest first
pub record WorldView (J T : Type 0) : Type 0 where
  pub cores : ℕ
  pub cap : ℕ
  pub burst : ℕ
  pub room : ℕ
  pub journals : List (Journal T)
  pub sent : List (List (List (Order J)))

module _ {J T : Type 0} where
  abbrev pub journal_at : ℕ → WorldView J T → Journal T
  journal_at actor world = slice_index_or world.journals actor []

  -- whose journal it is, and what holds of the whole house
  abbrev pub terms_at : ℕ → WorldView J T → Terms
  terms_at actor world = record { actor = actor; cores = world.cores; cap = world.cap; burst = world.burst }

  -- the orders accepted from an actor to a core
  abbrev pub sent_at : ℕ → ℕ → WorldView J T → List (Order J)
  sent_at sender core world = slice_index_or (slice_index_or world.sent sender []) core []

  -- the order accepted under a name
  abbrev pub order_under : JobId → WorldView J T → Option (Order J)
  order_under name world = slice_get (sent_at name.from name.to world) (name.number - 1)

  -- the actor's journal is longer by these notes, the newest first
  abbrev pub noted : ℕ → List (Note T) → WorldView J T → WorldView J T
  noted actor notes world = record world { journals = slice_set world.journals actor (notes ++ journal_at actor world) }

  -- one more order is accepted
  abbrev pub with_sent : ℕ → ℕ → Order J → WorldView J T → List (List (List (Order J)))
  with_sent sender core order world =
      slice_set world.sent sender (slice_set (slice_index_or world.sent sender []) core (sent_at sender core world ++ order ∷ []))

  -- the journals together
  abbrev pub assembly_of : WorldView J T → Assembly T
  assembly_of world = record { cores = world.cores; cap = world.cap; burst = world.burst; journals = world.journals }

  -- fewer notes are free than the actor may need for one event
  abbrev pub IsNearlyFull : ℕ → WorldView J T → Type 0
  IsNearlyFull actor world = world.room < length (journal_at actor world) + (3 * world.cores * world.cap + 2 * world.burst + 2)
