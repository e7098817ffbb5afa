-- What a job's post is in the model: each call does what the event of its name does, in the core's own name.
use Rattle.std.specs.Prelude.{◌≡◌, ◌⊎◌, ℕ, ◌<◌, ◌≤◌, List, [], ◌∷◌, Result, Ok, Err}
use Rattle.base_words.specs.declared.names.TicketError.{TicketError}
use Rattle.base_words.specs.declared.note.OutcomeNote.{OutcomeNote}
use Rattle.base_words.specs.declared.order.Outcome.{Outcome}
use Rattle.base_words.specs.declared.order.SendError.TheVariants.{NoCore}
use Rattle.base_words.specs.Outcomes.{outcome_note}
use Rattle.base_jobs.specs.Calls.{Call}
use Rattle.base_jobs.specs.Calls.Call.{Submit, Redeem, Detach}
use Rattle.model_world.specs.State.{WorldView}
use Rattle.model_world.specs.Sends.{Sends, sent_reply}
use Rattle.model_world.specs.Collections.{Redeems, Detaches, redeemed_reply, detached_reply}
use Rattle.base_jobs.specs.Meanings.{Meaning}

module _ {J : Type 0} (meaning : Meaning J ℕ) where
  -- one call of a job that this core polls; an order for a core that there isn't is refused
  abbrev pub CallsAt : ℕ → WorldView J ℕ → Call J ℕ → WorldView J ℕ → Type 0
  CallsAt core old (Submit to order answer) new =
      ((old.cores ≤ to) × (answer ≡ Err (NoCore order)) × (new ≡ old)) ⊎ ((to < old.cores) × Sends core to order old new (sent_reply answer))
  CallsAt core old (Redeem name answer) new = Redeems meaning core name old new (redeemed_reply answer)
  CallsAt core old (Detach name answer) new = Detaches core name old new (detached_reply answer)
