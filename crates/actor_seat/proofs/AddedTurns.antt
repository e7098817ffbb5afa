-- What a turn notes, and a core that closes by itself.
use Rattle.actor_seat.proofs.Names.{ap, arith, Bool, ClosesItself, EndsTurn, Err, false, Follows, IsFurther, IsHandBack, IsPick, JobId, Journal, JournalView, length, Meaning, Mode, None, Ok, opening_of, Option, Order, PickError, Picks}
use Rattle.actor_seat.proofs.Names.{poll_note, Reason, RecordedView, refl, Result, Some, true, Turn, ℕ, ◌+◌, ◌∙◌, ◌≡◌}
use Rattle.std.specs.Prelude.{◌∷◌}
use Rattle.base_words.specs.declared.note.Note.TheVariants as writes
use Rattle.core_core.specs.declared.turn.Turn.TheVariants.{Start, Resume, Back, Idle}
use Rattle.core_core.specs.declared.turn.PickError.TheVariants.{Busy, Spent}
use Rattle.actor_seat.proofs.Adding.{Adds, adds_along, adds_none, adds_one, adds_within}
use Rattle.actor_seat.proofs.Growing.{grows_returned}
use Rattle.actor_seat.proofs.Openings.{opening_returned}

polls_open : {T : Type 0} (name : JobId) (was_started : Bool) (before : Journal T) → opening_of (poll_note name was_started ∷ before) ≡ opening_of before
polls_open name true before = refl
polls_open name false before = refl

module _ {J T : Type 0} where
  -- so many notes more at most, behind a step that changed nothing
  pub same_adds : (most : ℕ) (old new : RecordedView J T) → new ≡ old → Adds most old.journal.notes new.journal.notes
  same_adds most old new same = adds_within (adds_none (ap (λ (view : RecordedView J T). view.journal.notes) same)) most (omega arith)

  adds_further : (old new : RecordedView J T) (name : JobId) (queue : ℕ) (was_started : Bool) (job : J) → IsFurther old name queue was_started job new → Adds 1 old.journal.notes new.journal.notes
  adds_further old new name queue was_started job is = adds_one (poll_note name was_started) (ap (λ (journal : JournalView T). journal.notes) is.journal) (polls_open name was_started old.journal.notes)

  adds_pick : (old new : RecordedView J T) (name : JobId) (queue : ℕ) (was_started : Bool) (job : J) → IsPick old name queue was_started job new → Adds 2 old.journal.notes new.journal.notes
  adds_pick old new name queue was_started job is =
      let first : Adds 1 old.journal.notes (writes.Pick queue is.runtime ∷ old.journal.notes) = adds_one (writes.Pick queue is.runtime) refl refl in
      let second : Adds 1 (writes.Pick queue is.runtime ∷ old.journal.notes) new.journal.notes =
      adds_one (poll_note name was_started) (ap (λ (journal : JournalView T). journal.notes) is.journal) (polls_open name was_started (writes.Pick queue is.runtime ∷ old.journal.notes)) in
      adds_along first second 2 (omega arith)

  module _ (meaning : Meaning J T) where
    adds_back : (old new : RecordedView J T) (name : JobId) (reason : Reason) (order : Order J) → IsHandBack meaning old name reason order new → Adds 2 old.journal.notes new.journal.notes
    adds_back old new name reason order is = record {
      few = let now : length new.journal.notes ≡ length old.journal.notes + 2 = ap (λ (journal : JournalView T). length journal.notes) is.journal ∙ omega arith in omega (arith, now);
      opening = opening_returned meaning old new name reason order is;
      grows = grows_returned meaning old new name reason order is;
    }

    -- a pick
    pub adds_picked : (old new : RecordedView J T) (turned : Result (Turn J) PickError) → Picks meaning old turned new → Adds 2 old.journal.notes new.journal.notes
    adds_picked old new (Ok (Start name queue job)) picks = adds_pick old new name queue false job picks
    adds_picked old new (Ok (Resume name queue job)) picks = adds_pick old new name queue true job picks
    adds_picked old new (Ok (Back name order reason)) picks = adds_back old new name reason order picks
    adds_picked old new (Ok Idle) picks = same_adds 2 old new picks.1
    adds_picked old new (Err Busy) picks = same_adds 2 old new picks.1
    adds_picked old new (Err Spent) picks = same_adds 2 old new picks.2

  -- a further job of the open turn
  pub adds_followed : (old new : RecordedView J T) (turn : Option (Turn J)) → Follows old turn new → Adds 1 old.journal.notes new.journal.notes
  adds_followed old new (Some (Start name queue job)) is = adds_further old new name queue false job is
  adds_followed old new (Some (Resume name queue job)) is = adds_further old new name queue true job is
  adds_followed old new (Some (Back name order reason)) is = absurd is
  adds_followed old new (Some Idle) is = absurd is
  adds_followed old new None is = same_adds 1 old new is.1

  -- the end of a turn
  pub adds_ended : (old new : RecordedView J T) (time : ℕ) → EndsTurn old time new → Adds 1 old.journal.notes new.journal.notes
  adds_ended old new time ends = adds_one (writes.Turned ends.queue time) (ap (λ (journal : JournalView T). journal.notes) ends.journal) refl

  -- a core that closes by itself
  pub adds_closing : (old new : RecordedView J T) (mode : Mode) (closed : Bool) → ClosesItself old mode closed new → Adds 1 old.journal.notes new.journal.notes
  adds_closing old new mode true does = adds_one (writes.CoreClosed mode) (ap (λ (journal : JournalView T). journal.notes) does.1) refl
  adds_closing old new mode false does = same_adds 1 old new does.1
