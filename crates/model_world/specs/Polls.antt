-- One poll: the first job of a line makes some calls of its post, and what became of it is noted.
use Rattle.std.specs.Prelude.{◌≡◌, ℕ, ◌+◌, Option, Some, None, unwrap_or, List, [], ◌∷◌}
use Rattle.base_words.specs.declared.names.JobId.{JobId}
use Rattle.base_words.specs.declared.note.Note.{Note}
use Rattle.base_words.specs.declared.order.Order.TheVariants.{Job}
use Rattle.base_words.specs.Journal.{Journal, is_told}
use Rattle.base_words.specs.Filters.{name_started}
use Rattle.base_words.specs.Lines.{line}
use Rattle.base_words.specs.Commands.{return_reason, stays_in_line}
use Rattle.core_core.specs.Whole.{settled_of}
use Rattle.base_jobs.specs.Calls.{Call, Makes}
use Rattle.base_jobs.specs.declared.job.Step.{Step}
use Rattle.base_jobs.specs.Meanings.{Meaning}
use Rattle.base_jobs.specs.Steps.{IfDone}
pub use Rattle.actor_core.specs.Polls.{polls_made, poll_note, settle_note}
use Rattle.model_world.specs.State.{WorldView, journal_at, order_under, noted}
use Rattle.model_world.specs.Calls.{CallsAt}

-- the note that begins a poll, behind these
abbrev pub poll_notes : {T : Type 0} → JobId → List (Note T) → Journal T → List (Note T)
poll_notes name begun before = poll_note name (is_told name_started name before) ∷ begun

-- the note of a settled poll, behind these: a job that asks to be parked stays in its line exactly where they say so
abbrev pub settled_note : {T : Type 0} → JobId → ℕ → Step T → Journal T → Note T
settled_note name time step before = settle_note name time (settled_of step (stays_in_line name before))

-- the words of a task: which jobs are of one task, the polls that a job made before, what a poll owes, and what may answer it
module _ {J : Type 0} (meaning : Meaning J ℕ) where
  -- the first job of the line of this queue is polled once, with these notes right before those of the poll, and makes some calls of its post;
  -- the poll owes what the task says of it, and of its calls, counted from the job as it was sent
  pub record IsPoll (core spent queue : ℕ) (name : JobId) (begun : List (Note ℕ)) (old new : WorldView J ℕ) : Type 0 where
    pub others : List JobId
    pub first : line queue (journal_at core old) ≡ name ∷ others
    pub kept : return_reason queue (journal_at core old) ≡ None
    pub job : J
    pub task : order_under name old ≡ Some (Job queue job)
    pub calls : List (Call J ℕ)
    pub step : Step ℕ
    pub told : Option ℕ
    pub owed : meaning.polls job (meaning.made job + polls_made name (journal_at core old)) calls step told
    pub answered : IfDone step (meaning.answers job)
    -- the calls are made after the note that begins the poll, and before the note of the settled poll
    pub posted : WorldView J ℕ
    pub posts : Makes (CallsAt meaning core) calls (noted core (poll_notes name begun (journal_at core old)) old) posted
    pub notes : new ≡ noted core (settled_note name (unwrap_or told spent) step (journal_at core posted) ∷ []) posted
