-- What no calls make: other workers, a journal that lost its notes, and an outcome that nobody's order asks for.
use Rattle.std.proofs.Common.{◌≡◌, ℕ, false, refl, [], ◌∷◌, length, ap, sym, ◌∙◌, arith, length-append, Ok}
use Rattle.base_words.specs.declared.names.JobId.{JobId}
use Rattle.base_words.specs.declared.note.Note.{Note}
use Rattle.base_words.specs.declared.order.Order.{Order}
use Rattle.base_words.specs.declared.order.Outcome.{Outcome}
use Rattle.base_jobs.specs.Meanings.{Meaning}
use Rattle.link_ends.specs.Fits.{Fits}
use Rattle.actor_seat.specs.Linked.{LinkedView}
use Rattle.actor_caller.specs.State.{RuntimeView}
use Rattle.actor_caller.specs.Teams.{IsBeside, TeamView}
use Rattle.actor_caller.specs.Tickets.{RedeemsHere}
use Rattle.actor_caller.specs.Callers.{CallsMake, IsAmongCalls, LooksFor}
use Rattle.actor_caller.proofs.CallsMade.{stays_made}

module _ {J : Type 0} (meaning : Meaning J ℕ) (begun now : RuntimeView J ℕ) where
  -- a worker is gone
  worker_gone : (worker : LinkedView J ℕ) → CallsMake meaning begun now → begun.workers ≡ worker ∷ [] → now.workers ≡ [] → ⊥
  worker_gone worker made one none =
      let long = ap length (sym none ∙ ((stays_made meaning begun now made).workers ∙ one)) in
      omega (arith, long)

  -- a note is gone
  note_gone : (note : Note ℕ) → CallsMake meaning begun now → begun.desk.journal.notes ≡ note ∷ [] → now.desk.journal.notes ≡ [] → ⊥
  note_gone note made one none =
      let grows = (stays_made meaning begun now made).grows in
      let long = ap length (sym none ∙ grows.1) in
      let sum = length-append grows.0 begun.desk.journal.notes in
      let some = ap length one in
      omega (arith, long, sum, some)

  -- an outcome that fits no order is the answer
  outcome_unasked : (name : JobId) (outcome : Outcome J ℕ) → ((order : Order J) → Fits meaning order outcome → ⊥) → IsAmongCalls meaning (λ old new. RedeemsHere (Fits meaning) name old (Ok outcome) new) begun → ⊥
  outcome_unasked name outcome none among = let fitting = among.did.fitting in none fitting.order fitting.fit

-- workers that have one more are not those of a caller
more_beside : {J T : Type 0} (team : TeamView J T) (view : RuntimeView J T) (worker : LinkedView J T) → team.workers ≡ worker ∷ [] → view.workers ≡ [] → IsBeside team view → ⊥
more_beside team view worker one none beside =
    let long = ap length (sym one ∙ (beside.workers ∙ none)) in
    omega (arith, long)

-- a look that found a note and says that there was nothing
note_overlooked : {J : Type 0} (old new : RuntimeView J ℕ) (note : Note ℕ) → LooksFor false old new → old.desk.journal.notes ≡ [] → new.desk.journal.notes ≡ note ∷ [] → ⊥
note_overlooked old new note looks none one =
    let quiet = looks.quiet refl in
    let before = ap length none in
    let after = ap length one in
    omega (arith, quiet, before, after)
