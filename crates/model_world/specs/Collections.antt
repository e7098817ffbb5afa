-- Outcomes that come back, as the journals of a world tell them: what a sender collects, redeems and detaches.
use Rattle.std.specs.Prelude.{◌≡◌, ℕ, drop, length, List, [], ◌∷◌, ◌++◌, Some, Result, Ok, Err}
use Rattle.std.specs.Option.{IsSome}
use Rattle.base_words.specs.declared.names.JobId.{JobId}
use Rattle.base_words.specs.declared.names.TicketError.{TicketError}
use Rattle.base_words.specs.declared.names.TicketError.TheVariants.{Unknown, Gone}
use Rattle.base_words.specs.declared.note.Note.{Note}
use Rattle.base_words.specs.declared.note.Note.TheVariants as writes
use Rattle.base_words.specs.declared.order.Order.{Order}
use Rattle.base_words.specs.declared.order.Outcome.{Outcome}
use Rattle.base_words.specs.Assembly.{first_under}
use Rattle.base_words.specs.Collecting.{IsRedeemable, IsDetachable}
use Rattle.base_words.specs.Filters.{Outcomes, accepted_orders, given_outcomes, collected_outcomes}
use Rattle.base_words.specs.Journal.{Journal}
use Rattle.base_words.specs.Outcomes.{outcome_note}
use Rattle.link_ends.specs.Fits.{Fits}
pub use Rattle.actor_desk.specs.Tickets.{RefusesTicket}
use Rattle.model_world.specs.declared.event.Reply.{Reply}
use Rattle.model_world.specs.declared.event.Reply.TheVariants as reply
use Rattle.model_world.specs.State.{WorldView, journal_at, order_under, noted}
use Rattle.base_jobs.specs.Meanings.{Meaning}

module _ {T : Type 0} where
  -- a note for each outcome that is collected, the newest first
  abbrev pub collected_notes : Outcomes T → List (Note T)
  collected_notes [] = []
  collected_notes (outcome ∷ later) = collected_notes later ++ writes.Collected outcome.0 outcome.1 ∷ []

  -- an order was accepted under the name
  abbrev pub WasAccepted : JobId → Journal T → Type 0
  WasAccepted name journal = IsSome (first_under name (accepted_orders name.to journal))

-- what the actor is told of a redeem, and of a detach
abbrev pub redeemed_reply : {J : Type 0} → Result (Outcome J ℕ) TicketError → Reply J
redeemed_reply (Ok outcome) = reply.Redeemed outcome
redeemed_reply (Err error) = reply.NoTicket error

abbrev pub detached_reply : {J : Type 0} → Result (Unit {0}) TicketError → Reply J
detached_reply (Ok done) = reply.Detached
detached_reply (Err error) = reply.NoTicket error

module _ {J T : Type 0} where
  -- the outcomes that a core gave a sender, and that the sender hasn't collected, the oldest first
  abbrev pub uncollected : ℕ → ℕ → WorldView J T → Outcomes T
  uncollected sender core world = drop (length (collected_outcomes core (journal_at sender world))) (given_outcomes sender (journal_at core world))

  -- Collect: each outcome that the core gave and that isn't collected is collected, in order; the sender is told how many
  abbrev pub Collects : ℕ → ℕ → WorldView J T → WorldView J T → Reply J → Type 0
  Collects sender core old new (reply.Collected count) =
      (count ≡ length (uncollected sender core old)) × (new ≡ noted sender (collected_notes (uncollected sender core old)) old)
  Collects sender core old new _ = ⊥

  -- Detach: nobody will ask for the outcome of a submission; or its ticket is refused, as none that waits for its outcome is
  abbrev pub Detaches : ℕ → JobId → WorldView J T → WorldView J T → Reply J → Type 0
  Detaches sender name old new reply.Detached = IsDetachable name (journal_at sender old) × (new ≡ noted sender (writes.Detached name ∷ []) old)
  Detaches sender name old new (reply.NoTicket Unknown) = RefusesTicket name Unknown (journal_at sender old) × (new ≡ old)
  Detaches sender name old new (reply.NoTicket Gone) = RefusesTicket name Gone (journal_at sender old) × (new ≡ old)
  Detaches sender name old new _ = ⊥

module _ {J : Type 0} (meaning : Meaning J ℕ) where
  -- the outcome fits the order that was accepted under the name
  abbrev pub FitsUnder : JobId → WorldView J ℕ → Outcome J ℕ → Type 0
  FitsUnder name world outcome = (order : Order J) × (order_under name world ≡ Some order) × Fits meaning order outcome

  -- Redeem: the outcome that was collected under the name, which fits the order that was sent; or the ticket is refused
  abbrev pub Redeems : ℕ → JobId → WorldView J ℕ → WorldView J ℕ → Reply J → Type 0
  Redeems sender name old new (reply.Redeemed outcome) =
      IsRedeemable name (outcome_note outcome) (journal_at sender old) × WasAccepted name (journal_at sender old) × FitsUnder name old outcome
      × (new ≡ noted sender (writes.Redeemed name (outcome_note outcome) ∷ []) old)
  Redeems sender name old new (reply.NoTicket error) = RefusesTicket name error (journal_at sender old) × (new ≡ old)
  Redeems sender name old new _ = ⊥
