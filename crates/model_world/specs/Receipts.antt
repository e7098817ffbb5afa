-- What a core does on the link of a sender, in one word: it takes the next order, or shuts the gate.
use Rattle.std.specs.Prelude.{◌≡◌, ◌≢◌, ℕ, Bool, None, [], ◌∷◌, length}
use Rattle.std.specs.Option.{IsSome}
use Rattle.base_words.specs.declared.note.Note.TheVariants as writes
use Rattle.base_words.specs.Closing.{core_mode, final_count}
use Rattle.base_words.specs.Filters.{accepted_orders}
use Rattle.base_words.specs.Journal.{Journal}
use Rattle.base_jobs.specs.Meanings.{Meaning}
use Rattle.link_ends.specs.declared.plain.Whole.{Whole}
use Rattle.link_ends.specs.Calls.{Shuts as ShutsOn}
use Rattle.link_ends.specs.Whole.{inward_of, kept_by_receiver}
use Rattle.actor_core.specs.Ends.{IsInOf, IsSameSeat, KeepsIn}
use Rattle.actor_desk.specs.Ends.{KeepsOuts}
use Rattle.actor_core.specs.Recorded.{RecordedView, IsRecorded, desk_of}
use Rattle.actor_core.specs.Steps.{Delivers as DeliversTo, TellsShut}
use Rattle.model_world.specs.declared.event.Reply.{Reply}
use Rattle.model_world.specs.declared.event.Reply.TheVariants as reply
use Rattle.model_world.specs.declared.model.receipts.Receipt.{Receipt}
use Rattle.model_world.specs.declared.model.receipts.Receipt.TheVariants.{Take, Shut}
use Rattle.model_world.specs.State.{WorldView, journal_at, noted}
use Rattle.model_world.specs.Deliveries.{Delivers, taken_reply}

-- a gate may be shut by a closed core that told no final count of the sender
abbrev pub MayReceive : {T : Type 0} → ℕ → Receipt → Journal T → Type 0
MayReceive sender Take notes = Unit {0}
MayReceive sender Shut notes = IsSome (core_mode notes) × (final_count sender notes ≡ None)

module _ {J T : Type 0} where
  -- the step of the event of this name
  abbrev pub Receives : ℕ → ℕ → Receipt → WorldView J T → WorldView J T → Reply J → Type 0
  Receives core sender Take old new answer = Delivers core sender old new answer
  Receives core sender Shut old new answer =
      (answer ≡ reply.Noted) × (new ≡ noted core (writes.Shut sender (length (accepted_orders core (journal_at sender old))) ∷ []) old)

  -- what is so of the core and of the link, and what the core is told
  abbrev pub ReceivesOn : ℕ → Receipt → RecordedView J T → Whole J T → Reply J → RecordedView J T → Whole J T → Type 0
  ReceivesOn sender Take view link answer now after =
      (found : Bool) × (answer ≡ taken_reply found) × DeliversTo view (inward_of link) now (inward_of after) found
  ReceivesOn sender Shut view link answer now after =
      (count : ℕ) × (answer ≡ reply.Noted) × ShutsOn (inward_of link) (inward_of after) count × TellsShut view sender count now

-- the step, and what it keeps
pub record HasReceived {J T : Type 0} (meaning : Meaning J T)
    (sender : ℕ) (what : Receipt) (view : RecordedView J T) (link : Whole J T) (answer : Reply J) (now : RecordedView J T) (after : Whole J T) : Type 0 where
  pub receives : ReceivesOn sender what view link answer now after
  pub beside : IsInOf sender now (inward_of after)
  pub others : (other : ℕ) → other ≢ sender → KeepsIn other view now
  pub outs : KeepsOuts (desk_of view) (desk_of now)
  pub lanes : now.lanes ≡ view.lanes
  pub seat : IsSameSeat view now
  pub sound : IsRecorded meaning now
  pub untouched : kept_by_receiver after ≡ kept_by_receiver link
