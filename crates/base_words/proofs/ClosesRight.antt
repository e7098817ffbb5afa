-- Closes: in a lawful journal nothing enters after a close, and each gate is shut once, at the count that its sender tells.
use Rattle.base_words.proofs.Words.{accepted_orders, Assembly, Bool, closes, cond, core_mode, created_count, EachNote, effect_awaited, eq-eqb, eqb-true, false, final_count, has_effect, is_inside, IsAnswer, IsCreationAnswer, IsEffectDue}
use Rattle.base_words.proofs.Words.{IsOpening, IsTrue, job_at, Journal, journal_of, latest_told, length, MayFollow, MayStand, Mode, nat_le, None, Note, Option, or_else, Order, queue_mode, Reason, reason_if_closed, reason_if_returning, refl}
use Rattle.base_words.proofs.Words.{refusal, RespectsCloses, return_told, Some, Terms, true, ℕ, [], ◌+◌, ◌==◌, ◌∙◌, ◌∷◌, ◌≡◌, ◌≤◌}
use Rattle.base_words.specs.declared.note.Note.TheVariants.{Answered, CoreClosed, Shut, Took, Created}
use Rattle.base_words.specs.declared.order.Answer.TheVariants as answers
use Rattle.base_words.specs.declared.order.Mode.TheVariants.{Finish, Return}
use Rattle.base_words.specs.declared.order.Order.TheVariants.{Job, Create, SetShares, Close, CloseCore, Wake}
use Rattle.base_words.specs.declared.order.Reason.TheVariants as why

-- the mode of a core that ever closed in mode `Return`, by its mode now
abbrev pub only_return : Option Mode → Option Mode
only_return (Some Return) = Some Return
only_return _ = None

-- a queue that a job may enter is open
open_queue : (there : Bool) (mode : Option Mode) (returning : Option Reason) →
    cond there (or_else (reason_if_closed mode why.QueueClosed) returning) (Some why.NoQueue) ≡ None → mode ≡ None
open_queue true None returning enters = refl
open_queue true (Some mode) returning enters = cc
open_queue false mode returning enters = cc

-- a job enters an open queue alone
pub queue_mode-entered : {T : Type 0} (queue : ℕ) (journal : Journal T) → refusal queue journal ≡ None → queue_mode queue journal ≡ None
queue_mode-entered queue journal enters =
    open_queue (nat_le queue (created_count journal)) (queue_mode queue journal) (reason_if_returning (core_mode journal) why.CoreClosing) enters

-- and a core that hands nothing back
keeping_core : (there : Bool) (mode core : Option Mode) →
    cond there (or_else (reason_if_closed mode why.QueueClosed) (reason_if_returning core why.CoreClosing)) (Some why.NoQueue) ≡ None → only_return core ≡ None
keeping_core true None None enters = refl
keeping_core true None (Some Finish) enters = refl
keeping_core true None (Some Return) enters = cc
keeping_core true (Some mode) core enters = cc
keeping_core false mode core enters = cc

-- a closing that changes anything is the only one in mode `Return`
closes_once : (T : Type 0) (now : Option Mode) (mode : Mode) → IsTrue (closes now mode) → or_else (return_told {T = T} (CoreClosed mode)) (only_return now) ≡ only_return (Some mode)
closes_once T None Finish changes = refl
closes_once T None Return changes = refl
closes_once T (Some Finish) Return changes = refl
closes_once T (Some Finish) Finish changes = cc
closes_once T (Some Return) mode changes = cc

-- no closing is answered by a new queue
not_created : {A : Type 0} {queue : ℕ} (there changes : Bool) → answers.Created queue ≡ cond there (cond changes answers.Closed answers.AlreadyClosed) answers.NoQueue → A
not_created true true fits = cc
not_created true false fits = cc
not_created false changes fits = cc

-- only an open core answers a creation by a queue
creates_open : {T : Type 0} (core : ℕ) (order : Order (Unit {0})) (queue : ℕ) (before : Journal T) → IsAnswer core order (answers.Created queue) before → core_mode before ≡ None
creates_open core (Job other task) queue before fits = absurd fits
creates_open {T} core (Create weight) queue before fits = by_mode (core_mode before) fits
  where
    by_mode : (mode : Option Mode) → IsCreationAnswer mode (nat_le 255 (created_count before)) (created_count before + 1) (answers.Created queue) → mode ≡ None
    by_mode None fits = refl
    by_mode (Some mode) fits = cc
creates_open core (SetShares other weight) queue before fits = by_test (nat_le other (created_count before)) fits
  where
    by_test : (test : Bool) → answers.Created queue ≡ cond test answers.SharesSet answers.NoQueue → core_mode before ≡ None
    by_test true fits = cc
    by_test false fits = cc
creates_open core (Close other mode) queue before fits = not_created (nat_le other (created_count before)) (closes (queue_mode other before) mode) fits
creates_open core (CloseCore mode) queue before fits = not_created true (closes (core_mode before) mode) fits
creates_open core (Wake actor number) queue before fits = by_test (is_inside (job_at core actor number) before) fits
  where
    by_test : (test : Bool) → answers.Created queue ≡ cond test answers.Woken answers.NoJob → core_mode before ≡ None
    by_test true fits = cc
    by_test false fits = cc

-- at the opening the core is open
opening_open : {T : Type 0} (journal : Journal T) → IsOpening journal → core_mode journal ≡ None
opening_open [] starts = refl
opening_open (Created queue weight ∷ before) starts = opening_open before starts
opening_open (_ ∷ before) starts = absurd starts

module _ {T : Type 0} (terms : Terms) where
  -- a core was closed in mode `Return` where that is its mode
  pub return_told-mode : (journal : Journal T) → EachNote (MayStand terms) journal → latest_told return_told journal ≡ only_return (core_mode journal)
  return_told-mode [] notes = refl
  return_told-mode (note ∷ before) notes = by_note note notes.0.may_follow (return_told-mode before notes.1)
    where
      by_note : (note : Note T) → MayFollow terms note before → latest_told return_told before ≡ only_return (core_mode before) →
          latest_told return_told (note ∷ before) ≡ only_return (core_mode (note ∷ before))
      by_note (CoreClosed mode) law was = rw was (closes_once T (core_mode before) mode law)
      by_note _ law was = was

  -- a queue is created where the core is open
  pub created_open : (queue weight : ℕ) (before : Journal T) → EachNote (MayStand terms) before → IsEffectDue (effect_awaited before) (Created queue weight) before → core_mode before ≡ None
  created_open queue weight [] notes due = refl
  created_open queue weight (Answered name answer ∷ before) notes due = by_effect (has_effect answer) due
    where
      by_effect : (effect : Bool) → IsEffectDue (cond effect (Some answer) None) (Created queue weight) (Answered name answer ∷ before) → core_mode before ≡ None
      by_effect true due = creates_open name.to notes.0.may_follow.1.0 queue before (rw due at notes.0.may_follow.1.1)
      by_effect false due = absurd due
  created_open queue weight (note ∷ before) notes due = opening_open (note ∷ before) due

  -- a gate that is shut stays shut at its count
  pub final_count-stays : (sender count : ℕ) (note : Note T) (before : Journal T) → MayFollow terms note before → final_count sender before ≡ Some count →
      final_count sender (note ∷ before) ≡ Some count
  final_count-stays sender count (Shut other new) before law was = by_test (sender == other) refl
    where
      by_test : (test : Bool) → (sender == other) ≡ test → or_else (cond test (Some new) None) (final_count sender before) ≡ Some count
      by_test false apart = was
      by_test true same =
          let one : sender ≡ other = eqb-true sender other same in
          let none : final_count sender before ≡ None = rw one law.not_shut in
          cc
  final_count-stays sender count _ before law was = was

  -- the third clause of soundness
  pub closes_right : (assembly : Assembly T) (core : ℕ) (journal : Journal T) → EachNote (MayStand terms) journal →
      ((sender count : ℕ) → sender ≤ terms.cores → final_count sender journal ≡ Some count → count ≡ length (accepted_orders core (journal_of sender assembly))) →
      EachNote (RespectsCloses assembly core) journal
  closes_right assembly core [] notes gates = tt
  closes_right assembly core (note ∷ before) notes gates =
      (by_note note notes.0 gates, closes_right assembly core before notes.1 (λ sender count known shut. gates sender count known (final_count-stays sender count note before notes.0.may_follow shut)))
    where
      by_note : (note : Note T) → MayStand terms note before →
          ((sender count : ℕ) → sender ≤ terms.cores → final_count sender (note ∷ before) ≡ Some count → count ≡ length (accepted_orders core (journal_of sender assembly))) →
          RespectsCloses assembly core note before
      by_note (Took name queue) law gates =
          (queue_mode-entered queue before law.may_follow.1, return_told-mode before notes.1 ∙ keeping_core (nat_le queue (created_count before)) (queue_mode queue before) (core_mode before) law.may_follow.1)
      by_note (Created queue weight) law gates = created_open queue weight before notes.1 law.effect
      by_note (Shut sender count) law gates = (law.may_follow.closed, law.may_follow.not_shut, gates sender count law.may_follow.known (rw (eq-eqb sender sender refl)))
      by_note _ law gates = tt
