-- Events and their actors, and what a send does.
use Rattle.std.specs.Prelude.{◌≡◌, ℕ, ◌-◌, ◌^◌, ◌<◌, ◌≤◌, [], ◌∷◌, length, Some, Result, Ok, Err}
use Rattle.base_words.specs.declared.note.Note.TheVariants as writes
use Rattle.base_words.specs.declared.order.Order.{Order}
use Rattle.base_words.specs.declared.names.JobId.{JobId}
use Rattle.base_words.specs.declared.order.SendError.{SendError}
use Rattle.base_words.specs.declared.order.SendError.TheVariants.{Closed, Full, Spent}
use Rattle.base_words.specs.Closing.{final_count}
use Rattle.base_words.specs.Filters.{accepted_orders}
use Rattle.base_words.specs.Outstanding.{outstanding_count}
use Rattle.base_words.specs.Lawful.{IsNextSent}
use Rattle.model_world.specs.declared.event.Event.{Event}
use Rattle.model_world.specs.declared.event.Event.TheVariants.{Send, Deliver, Turn, Shut, Collect, Redeem, Detach}
use Rattle.model_world.specs.declared.event.Reply.{Reply}
use Rattle.model_world.specs.declared.event.Reply.TheVariants as reply
use Rattle.model_world.specs.State.{WorldView, without_job, terms_at, journal_at, noted, with_sent}
use Rattle.model_world.specs.Closings.{IsGateOpen}

-- the actor that makes the event's step
abbrev pub actor_of : {J : Type 0} → Event J → ℕ
actor_of (Send sender core order) = sender
actor_of (Deliver core sender) = core
actor_of (Turn core spent) = core
actor_of (Shut core sender) = core
actor_of (Collect sender core) = sender
actor_of (Redeem sender name) = sender
actor_of (Detach sender name) = sender

-- the actors and cores of the event exist; those that a ticket names aside
abbrev pub AreThere : {J : Type 0} → ℕ → Event J → Type 0
AreThere cores (Send sender core order) = (sender ≤ cores) × (core < cores)
AreThere cores (Deliver core sender) = (core < cores) × (sender ≤ cores)
AreThere cores (Turn core spent) = core < cores
AreThere cores (Shut core sender) = (core < cores) × (sender ≤ cores)
AreThere cores (Collect sender core) = (sender ≤ cores) × (core < cores)
AreThere cores (Redeem sender name) = sender ≤ cores
AreThere cores (Detach sender name) = sender ≤ cores

-- what the sender is told
abbrev pub sent_reply : {J : Type 0} → Result JobId (SendError J) → Reply J
sent_reply (Ok name) = reply.Sent name
sent_reply (Err error) = reply.NotSent error

module _ {J T : Type 0} where
  -- Send: accepted under the next name of the link, if its gate is open; else refused with the final count where the gate is shut, else where as many as may be are outstanding, else where the last number was given
  abbrev pub Sends : ℕ → ℕ → Order J → WorldView J T → WorldView J T → Reply J → Type 0
  Sends sender core order old new (reply.Sent name) =
      IsNextSent (terms_at sender old) name (without_job order) (journal_at sender old) × (name.to ≡ core)
      × (new ≡ record (noted sender (writes.Sent name (without_job order) ∷ []) old) { sent = with_sent sender core order old }) × IsGateOpen sender core old
  Sends sender core order old new (reply.NotSent (Closed back final)) =
      (back ≡ order) × (final_count sender (journal_at core old) ≡ Some final) × (new ≡ old)
  Sends sender core order old new (reply.NotSent (Full back)) =
      (back ≡ order) × (old.cap ≤ outstanding_count core (journal_at sender old)) × (new ≡ old) × IsGateOpen sender core old
  Sends sender core order old new (reply.NotSent (Spent back)) =
      (back ≡ order) × (outstanding_count core (journal_at sender old) < old.cap)
      × (length (accepted_orders core (journal_at sender old)) ≡ 2 ^ 63 - 1) × (new ≡ old) × IsGateOpen sender core old
  Sends sender core order old new _ = ⊥
