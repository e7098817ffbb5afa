-- Gates, as the journals of a world tell them, and the event that shuts one.
use Rattle.std.specs.Prelude.{◌≡◌, ℕ, None, [], ◌∷◌, length}
use Rattle.std.specs.Option.{IsSome}
use Rattle.base_words.specs.declared.note.Note.TheVariants as writes
use Rattle.base_words.specs.Closing.{core_mode, final_count}
use Rattle.base_words.specs.Filters.{accepted_orders}
use Rattle.model_world.specs.declared.event.Reply.{Reply}
use Rattle.model_world.specs.declared.event.Reply.TheVariants as reply
use Rattle.model_world.specs.State.{WorldView, journal_at, noted}

module _ {J T : Type 0} where
  -- the core told no final count of this sender: the gate of their link isn't shut
  abbrev pub IsGateOpen : ℕ → ℕ → WorldView J T → Type 0
  IsGateOpen sender core world = final_count sender (journal_at core world) ≡ None

  -- Shut: a closed core shuts the gate of a sender, with the number of orders that were accepted; a core that isn't closed says so, else a gate that is shut does
  abbrev pub Shuts : ℕ → ℕ → WorldView J T → WorldView J T → Reply J → Type 0
  Shuts core sender old new reply.Noted =
      IsSome (core_mode (journal_at core old)) × IsGateOpen sender core old
      × (new ≡ noted core (writes.Shut sender (length (accepted_orders core (journal_at sender old))) ∷ []) old)
  Shuts core sender old new reply.NotClosed = (core_mode (journal_at core old) ≡ None) × (new ≡ old)
  Shuts core sender old new reply.AlreadyShut =
      IsSome (core_mode (journal_at core old)) × IsSome (final_count sender (journal_at core old)) × (new ≡ old)
  Shuts core sender old new _ = ⊥
