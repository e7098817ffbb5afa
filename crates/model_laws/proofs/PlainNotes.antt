-- Notes that tell no refusal.
use Rattle.model_laws.proofs.Words.{◌≡◌, ℕ, Bool, true, false, cond, List, [], ◌∷◌, ◌++◌, refl, sym, ◌∙◌, ap, subst, ◌||◌, nat_le, Option, Some, None, JobId}
use Rattle.model_laws.proofs.Words.{Note, Order, Journal, Answer, Job, Create, SetShares, Close, CloseCore, Wake, Reason, created_count, effect_note, IsOpening}
use Rattle.model_laws.proofs.Words.{core_mode, Outcomes, Settled, with_effect, IsDelivery, settle_note, collected_notes, is_refusal, tells_refusal, IsNoCreation}
use Rattle.std.proofs.lemmas.Bool.{or_parts}
use Rattle.base_words.specs.declared.note.Note.TheVariants as writes
use Rattle.base_words.specs.declared.order.Answer.TheVariants as told_answers
use Rattle.base_words.specs.Commands.{refusal, is_inside, job_at}
use Rattle.base_words.specs.Closing.{closes, queue_mode}
use Rattle.core_core.specs.declared.turn.Settled.TheVariants as settled
use Rattle.model_world.specs.Deliveries.{entry_note}
use Rattle.model_world.specs.Turns.{poll_note}

-- what is so of both sides of a test is so of what it chooses
either : {A : Type 0} (Holds : A → Type 0) (test : Bool) (one other : A) → Holds one → Holds other → Holds (cond test one other)
either Holds true one other is is_other = is
either Holds false one other is is_other = is_other

module _ (T : Type 0) where
  taken_plain : (name : JobId) (queue : ℕ) (reason : Option Reason) → tells_refusal {T = T} (entry_note name queue reason ∷ []) ≡ false
  taken_plain name queue None = refl
  taken_plain name queue (Some reason) = refl

  -- the notes of an answer tell none
  abbrev IsPlainAnswer : JobId → Order (Unit {0}) → Answer → Type 0
  IsPlainAnswer name order answer = tells_refusal {T = T} (with_effect (effect_note name.to order answer) (writes.Answered name answer ∷ [])) ≡ false

  pub begun_plain : (name : JobId) (started : Bool) (begun : List (Note T)) → tells_refusal begun ≡ false → tells_refusal (poll_note name started ∷ begun) ≡ false
  begun_plain name true begun plain = plain
  begun_plain name false begun plain = plain

module _ {T : Type 0} where
  pub plain_after : (notes rest : List (Note T)) → tells_refusal notes ≡ false → tells_refusal rest ≡ false → tells_refusal (notes ++ rest) ≡ false
  plain_after [] rest none plain = plain
  plain_after (note ∷ notes) rest none plain =
      let parts = or_parts (is_refusal note) (tells_refusal notes) none in
      ap (λ first. first || tells_refusal (notes ++ rest)) parts.0 ∙ plain_after notes rest parts.1 plain

  pub collected_plain : (outcomes : Outcomes T) → tells_refusal (collected_notes outcomes) ≡ false
  collected_plain [] = refl
  collected_plain (outcome ∷ later) = plain_after (collected_notes later) (writes.Collected outcome.0 outcome.1 ∷ []) (collected_plain later) refl

  pub settle_plain : (name : JobId) (time : ℕ) (came : Settled T) → tells_refusal (settle_note name time came ∷ []) ≡ false
  settle_plain name time (settled.Finished out) = refl
  settle_plain name time settled.Yielded = refl
  settle_plain name time settled.Parked = refl
  settle_plain name time settled.Stayed = refl

  pub opening_plain : (journal : Journal T) → IsOpening journal → tells_refusal journal ≡ false
  opening_plain [] opening = refl
  opening_plain (writes.Created queue weight ∷ before) opening = opening_plain before opening
  opening_plain (_ ∷ before) opening = absurd opening

  pub delivery_plain : {J : Type 0} (name : JobId) (order : Order J) (before : Journal T) (notes : List (Note T)) → IsNoCreation order → IsDelivery name order before notes → tells_refusal notes ≡ false
  delivery_plain name (Job queue job) before notes plain delivery = ap tells_refusal delivery ∙ taken_plain T name queue (refusal queue before)
  delivery_plain name (Create weight) before notes plain delivery = absurd plain
  delivery_plain name (SetShares queue weight) before notes plain delivery =
      ap tells_refusal delivery.2
      ∙ subst (IsPlainAnswer T name (SetShares queue weight)) (sym delivery.1)
      (either (IsPlainAnswer T name (SetShares queue weight)) (nat_le queue (created_count before)) told_answers.SharesSet told_answers.NoQueue refl refl)
  delivery_plain name (Close queue mode) before notes plain delivery =
      let closed = either (IsPlainAnswer T name (Close queue mode)) (closes (queue_mode queue before) mode) told_answers.Closed told_answers.AlreadyClosed refl refl in
      ap tells_refusal delivery.2
      ∙ subst (IsPlainAnswer T name (Close queue mode)) (sym delivery.1) (either (IsPlainAnswer T name (Close queue mode)) (nat_le queue (created_count before)) _ told_answers.NoQueue closed refl)
  delivery_plain name (CloseCore mode) before notes plain delivery =
      ap tells_refusal delivery.2
      ∙ subst (IsPlainAnswer T name (CloseCore mode)) (sym delivery.1)
      (either (IsPlainAnswer T name (CloseCore mode)) (closes (core_mode before) mode) told_answers.Closed told_answers.AlreadyClosed refl refl)
  delivery_plain name (Wake actor number) before notes plain delivery =
      ap tells_refusal delivery.2
      ∙ subst (IsPlainAnswer T name (Wake actor number)) (sym delivery.1)
      (either (IsPlainAnswer T name (Wake actor number)) (is_inside (job_at name.to actor number) before) told_answers.Woken told_answers.NoJob refl refl)

pub no_creation : {J : Type 0} (order : Order J) → ((weight : ℕ) → order ≡ Create weight → ⊥) → IsNoCreation order
no_creation (Create weight) none = none weight refl
no_creation (Job queue job) none = tt
no_creation (SetShares queue weight) none = tt
no_creation (Close queue mode) none = tt
no_creation (CloseCore mode) none = tt
no_creation (Wake actor number) none = tt
