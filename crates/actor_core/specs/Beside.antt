-- A core among the ends that it is lent.
use Rattle.std.specs.Prelude.{◌≡◌, ℕ, ◌≤◌, Option, None}
use Rattle.std.specs.Option.{option_map}
use Rattle.base_words.specs.declared.names.JobId.{JobId}
use Rattle.base_words.specs.declared.note.OutcomeNote.{OutcomeNote}
use Rattle.base_words.specs.declared.order.Outcome.{Outcome}
use Rattle.base_words.specs.Outcomes.{outcome_note}
use Rattle.base_jobs.specs.Meanings.{Meaning}
use Rattle.actor_desk.specs.Posts.{AreOutsOf}
use Rattle.actor_core.specs.Recorded.{RecordedView, IsRecorded, desk_of}
use Rattle.actor_core.specs.Ends.{IsInOwing, told_under}
use Rattle.actor_core.specs.OwedPolls.{HasOwedPolls, seen_by}
use Rattle.link_ends.specs.Fits.{Fits}
use Rattle.link_ends.specs.Around.{Reach}

-- no outcome is owed to any sender
abbrev pub none_owed : {T : Type 0} → ℕ → Option (JobId × OutcomeNote T)
none_owed sender = None

module _ {J T : Type 0} where
  -- this outcome, if there is one, is owed to the sender of this job
  abbrev pub owed_under : JobId → Option (Outcome J T) → ℕ → Option (JobId × OutcomeNote T)
  owed_under name outcome = told_under name (option_map outcome_note outcome)

module _ {J T A O I : Type 0} (meaning : Meaning J T) (reach : Reach J T A O I) (own : ℕ) where
  -- the ends on which the core sends stand beside its desk and its lanes, and that of each sender beside its notes, where these outcomes are owed
  pub record AreAround (owed : ℕ → Option (JobId × OutcomeNote T)) (view : RecordedView J T) (around : A) : Type 0 where
    pub has_outs : reach.HasOuts own around
    pub has_ins : (sender : ℕ) → sender ≤ view.core.cores → reach.HasIn own sender around
    pub outs : AreOutsOf (Fits meaning) reach.sides.out reach.sides.credited (desk_of view) (reach.outs own around)
    pub ins : (sender : ℕ) → sender ≤ view.core.cores → IsInOwing sender (owed sender) view (reach.sides.inward (reach.in_at own sender around))

  -- the core is recorded, no job of it is out, and its ends stand beside it, where nothing is owed
  pub record IsAtRest (view : RecordedView J T) (around : A) : Type 0 where
    pub recorded : IsRecorded meaning view
    pub free : view.core.out ≡ None
    pub beside : AreAround none_owed view around

  -- each poll that the journal tells did what the order under its name says, as far as the ends on which the core sends have seen the links
  abbrev pub PollsAsOwed : RecordedView J T → A → Type 0
  PollsAsOwed view around = HasOwedPolls meaning (seen_by reach.sides.out (reach.outs own around)) view
