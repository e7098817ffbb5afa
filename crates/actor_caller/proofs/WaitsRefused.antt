-- Waits that no contract lets pass: another outcome is redeemed too, the one that is answered stays, an order is submitted twice or comes back from a
-- full link, and no outcome is awaited though there is a ticket.
use Rattle.std.proofs.Common.{◌≡◌, ◌<◌, ℕ, true, false, [], ◌∷◌, ◌++◌, length, ◌∙◌, sym, subst, ap, arith, drop, Ok, Err, None, refl, length-append}
use Rattle.std.proofs.lemmas.List.{append_cancel_right}
use Rattle.base_words.specs.declared.names.JobId.{JobId}
use Rattle.base_words.specs.declared.note.Note.TheVariants.{Redeemed}
use Rattle.base_words.specs.declared.note.OutcomeNote.{OutcomeNote}
use Rattle.base_words.specs.declared.order.Order.{Order}
use Rattle.base_words.specs.declared.order.Outcome.{Outcome}
use Rattle.base_words.specs.declared.order.SendError.TheVariants.{Full}
use Rattle.actor_caller.specs.declared.error.SubmitError.TheVariants.{Send}
use Rattle.actor_caller.specs.State.{RuntimeView, submitted}
use Rattle.actor_caller.specs.Waiting.{LooksOnce, RedeemsAtLast, SubmitsAtLast, WaitsForAny}
use Rattle.actor_caller.specs.WaitingLaws.{AreCollections}
use Rattle.actor_caller.proofs.WaitedOnce.{redeems_once, submits_once}

module _ {J T : Type 0} (fits : Order J → Outcome J T → Type 0) (name : JobId) (old : RuntimeView J T) (outcome : Outcome J T) (new : RuntimeView J T) where
  -- the outcome is answered, and nothing is noted of it
  kept_outcome_refused : RedeemsAtLast fits name old (Ok outcome) new → new.desk.journal.notes ≡ old.desk.journal.notes → ⊥
  kept_outcome_refused did same =
      let once = redeems_once fits name old (Ok outcome) new did in
      let long = ap length (sym same ∙ once.noted) in
      let more = length-append once.collected old.desk.journal.notes in
      omega (arith, long, more)

  -- another outcome is redeemed, too
  other_redeemed_refused : (first second : OutcomeNote T) (other : JobId) → RedeemsAtLast fits name old (Ok outcome) new → new.desk.journal.notes ≡ Redeemed name first ∷ Redeemed other second ∷ old.desk.journal.notes → ⊥
  other_redeemed_refused first second other did two =
      let once = redeems_once fits name old (Ok outcome) new did in
      let rest : Redeemed other second ∷ old.desk.journal.notes ≡ once.collected ++ old.desk.journal.notes = ap (drop 1) (sym two ∙ once.noted) in
      let is : Redeemed other second ∷ [] ≡ once.collected = append_cancel_right (Redeemed other second ∷ []) once.collected old.desk.journal.notes rest in
      let never : false ≡ true = subst AreCollections (sym is) once.are 0 (Redeemed other second) (omega arith) in
      absurd cc

-- the order is submitted twice
submitted_twice_refused : {J T : Type 0} (each core : ℕ) (order : Order J) (old : RuntimeView J T) (name : JobId) (new : RuntimeView J T) → SubmitsAtLast each core order old (Ok name) new →
    submitted core new ≡ submitted core old ++ order ∷ order ∷ [] → ⊥
submitted_twice_refused each core order old name new did twice =
    let once = submits_once each core order old (Ok name) new did in
    let long = ap length (sym twice ∙ once.here) in
    let two = length-append (submitted core old) (order ∷ order ∷ []) in
    let one = length-append (submitted core old) (order ∷ []) in
    omega (arith, long, two, one)

-- the order comes back, since its link is full
full_refused : {J T : Type 0} (each core : ℕ) (order : Order J) (old new : RuntimeView J T) → SubmitsAtLast each core order old (Err (Send (Full order))) new → ⊥
full_refused each core order old new did = did.not_full order refl

-- there is a ticket, and none is waited for
none_awaited_refused : {J T : Type 0} (fits : Order J → Outcome J T → Type 0) (name : JobId) (old new : RuntimeView J T) → WaitsForAny fits (name ∷ []) old None new → ⊥
none_awaited_refused fits name old new waits = let none = waits.0 in absurd cc

-- an outcome is told where none came
told_in_vain_refused : {J T : Type 0} (old : RuntimeView J T) → LooksOnce old true old → ⊥
told_in_vain_refused old looks = let more = looks.tells.0 refl in omega (arith, more)

-- the caller parks though an outcome came
overlooked_refused : {J T : Type 0} (old new : RuntimeView J T) → LooksOnce old false new → length old.desk.journal.notes < length new.desk.journal.notes → ⊥
overlooked_refused old new looks more = let never = looks.tells.1 more in absurd cc
