-- Each step of a worker leaves the notes that stand in its journal.
use Rattle.actor_seat.proofs.Names.{ap, arith, Bool, Delivers, false, Grows, Inward, IsHandBack, JobId, Journal, length, length-append, Meaning, Order, Reason, RecordedView, true, [], ◌+◌, ◌∙◌, ◌∷◌, ◌≡◌, ◌≤◌}
use Rattle.base_words.specs.declared.note.Note.TheVariants as writes

module _ {T : Type 0} where
  -- a journal that has grown isn't shorter
  pub no_shorter : (old new : Journal T) → Grows old new → length old ≤ length new
  no_shorter old new grows = let now : length new ≡ length grows.0 + length old = ap length grows.1 ∙ length-append grows.0 old in omega (arith, now)

module _ {J T : Type 0} where
  pub grows_delivers : (old new : RecordedView J T) (before after : Inward J T) (found : Bool) → Delivers old before new after found → Grows old.journal.notes new.journal.notes
  grows_delivers old new before after true does = (does.2.notes, ap (λ journal. journal.notes) does.2.journal)
  grows_delivers old new before after false does = ([], ap (λ view. view.journal.notes) does.1)

  pub grows_returned : (meaning : Meaning J T) (old new : RecordedView J T) (name : JobId) (reason : Reason) (order : Order J) → IsHandBack meaning old name reason order new →
      Grows old.journal.notes new.journal.notes
  grows_returned meaning old new name reason order did = (writes.Returned name reason ∷ writes.Pick did.queue did.runtime ∷ [], ap (λ journal. journal.notes) did.journal)
