-- What follows in an open turn, and what ends it.
use Rattle.std.specs.Prelude.{◌≡◌, ℕ, Option, Some, None, Bool, true, false, List, [], ◌∷◌}
use Rattle.base_words.specs.declared.names.JobId.{JobId}
use Rattle.base_words.specs.declared.note.Note.TheVariants as writes
use Rattle.base_words.specs.Bursts.{queue_in_turn}
use Rattle.base_words.specs.Commands.{return_reason}
use Rattle.base_words.specs.Filters.{name_started}
use Rattle.base_words.specs.Journal.{is_told}
use Rattle.base_words.specs.Lawful.{GoesOn, IsTurnEnd, may_go_on}
use Rattle.base_words.specs.Lines.{line, jobs_out}
use Rattle.base_words.specs.Parks.{is_wake_kept}
use Rattle.core_core.specs.declared.turn.Turn.{Turn}
use Rattle.core_core.specs.declared.turn.Turn.TheVariants.{Start, Resume}
use Rattle.actor_core.specs.Polls.{poll_note}
use Rattle.actor_core.specs.Recorded.{RecordedView}
use Rattle.actor_core.specs.Steps.{with_notes}

module _ {J T : Type 0} where
  -- the open turn goes on, and the first job of its line goes out
  pub record IsFurther (old : RecordedView J T) (name : JobId) (queue : ℕ) (was_started : Bool) (job : J) (new : RecordedView J T) : Type 0 where
    pub nobody_out : old.core.out ≡ None
    pub goes_on : GoesOn old.core.bursts.burst queue old.journal.notes
    pub others : List JobId
    pub first : line queue old.journal.notes ≡ name ∷ others
    pub kept : return_reason queue old.journal.notes ≡ None
    pub started : was_started ≡ is_told name_started name old.journal.notes
    pub journal : new.journal ≡ with_notes (poll_note name was_started ∷ []) old.journal
    pub out : new.core.out ≡ Some (record { name = name; queue = queue; woken = is_wake_kept name old.journal.notes; job = job })
    pub took : new.took ≡ old.took

  -- nothing follows in a turn: none is open, a job is out, or the turn may not go on
  abbrev pub NothingFollows : RecordedView J T → Type 0
  NothingFollows view = (queue : ℕ) → queue_in_turn view.core.bursts.burst view.journal.notes ≡ Some queue → jobs_out view.journal.notes ≡ [] →
      may_go_on view.core.bursts.burst queue view.journal.notes ≡ false

  -- what follows in an open turn, by what is answered
  abbrev pub Follows : RecordedView J T → Option (Turn J) → RecordedView J T → Type 0
  Follows old (Some (Start name queue job)) new = IsFurther old name queue false job new
  Follows old (Some (Resume name queue job)) new = IsFurther old name queue true job new
  Follows old (Some _) new = ⊥
  Follows old None new = NothingFollows old × (new ≡ old)

  -- the open turn ends, and its time is told
  pub record EndsTurn (old : RecordedView J T) (time : ℕ) (new : RecordedView J T) : Type 0 where
    pub queue : ℕ
    pub ends : IsTurnEnd old.core.bursts.burst queue time old.journal.notes
    pub journal : new.journal ≡ with_notes (writes.Turned queue time ∷ []) old.journal
    pub out : new.core.out ≡ None
    pub took : new.took ≡ old.took
