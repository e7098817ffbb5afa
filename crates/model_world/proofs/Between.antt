-- The open turn of a core, by its journal and by itself.
use Rattle.model_world.proofs.LinkWords.{◌≡◌, ℕ, ◌∙◌, ap, subst}
use Rattle.model_world.proofs.LinkWords.{CreatesQueue, Err, Ok, Result, None, RecordedView, Meaning, IsSameSeat}
use Rattle.base_words.specs.Bursts.{queue_in_turn}
use Rattle.core_queues.specs.declared.queues.CreateError.{CreateError}
use Rattle.core_queues.specs.declared.queues.CreateError.TheVariants.{TooMany, Memory}
use Rattle.actor_core.specs.Agreement.{IsOpenTurn}
use Rattle.actor_core.specs.Recorded.{IsRecorded}
use Rattle.actor_core.specs.Rooms.{open_queue}
pub use Rattle.actor_core.proofs.Rooms.{not_open}

-- where the core has no open turn, the journal has none
pub none_open : {J T : Type 0} {meaning : Meaning J T} (view : RecordedView J T) → IsRecorded meaning view → view.core.bursts.open ≡ None → open_queue view ≡ None
none_open view recorded none = subst (λ turn. IsOpenTurn view.core.bursts.burst turn view.journal.notes) none recorded.kept.agrees.turn

-- a creation opens no turn
pub created_open : {J T : Type 0} (old new : RecordedView J T) → IsSameSeat old new → open_queue old ≡ None → (weight : ℕ) (told : Result ℕ CreateError) → CreatesQueue weight old told new →
    open_queue new ≡ None
created_open old new seat none weight (Ok queue) did = (λ i. queue_in_turn (seat.burst i) (did.2 i).notes) ∙ none
created_open old new seat none weight (Err TooMany) did = ap (λ view. open_queue view) did.1 ∙ none
created_open old new seat none weight (Err Memory) did = ap (λ view. open_queue view) did.1 ∙ none
