-- What a delivery does: a job enters its queue or goes back, a command is carried out and answered.
use Rattle.std.specs.Prelude.{◌≡◌, ℕ, ◌+◌, Bool, true, false, Some, None, slice_get, List, length}
use Rattle.base_words.specs.declared.note.Note.{Note}
use Rattle.base_words.specs.declared.order.Order.{Order}
use Rattle.base_words.specs.Filters.{delivered_names}
pub use Rattle.actor_core.specs.Deliveries.{entry_note, with_effect, IsAnswered, IsDelivery}
use Rattle.model_world.specs.declared.event.Reply.{Reply}
use Rattle.model_world.specs.declared.event.Reply.TheVariants as reply
use Rattle.model_world.specs.State.{WorldView, journal_at, sent_at, noted}

-- what the core is told: there was an order, or there was none
abbrev pub taken_reply : {J : Type 0} → Bool → Reply J
taken_reply true = reply.Noted
taken_reply false = reply.Empty

module _ {J T : Type 0} where
  -- the place of the next order to be delivered among those that were accepted
  abbrev pub next_place : ℕ → ℕ → WorldView J T → ℕ
  next_place sender core world = length (delivered_names sender (journal_at core world))

  -- Deliver: the next order of the link, or nothing where there is none
  abbrev pub Delivers : ℕ → ℕ → WorldView J T → WorldView J T → Reply J → Type 0
  Delivers core sender old new reply.Noted =
      (order : Order J) × (slice_get (sent_at sender core old) (next_place sender core old) ≡ Some order)
      × (notes : List (Note T))
      × IsDelivery (record { from = sender; to = core; number = next_place sender core old + 1 }) order (journal_at core old) notes
      × (new ≡ noted core notes old)
  Delivers core sender old new reply.Empty =
      (slice_get (sent_at sender core old) (next_place sender core old) ≡ None) × (new ≡ old)
  Delivers core sender old new _ = ⊥
