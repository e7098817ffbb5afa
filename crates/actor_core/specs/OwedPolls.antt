-- That each poll which a journal tells did what its task says.
use Rattle.std.specs.Prelude.{◌≡◌, ◌⊎◌, ℕ, ◌+◌, Bool, true, Option, Some, List, ◌∷◌, ◌++◌, length, slice_get, IfSome}
use Rattle.base_words.specs.Terms.{Terms}
use Rattle.base_words.specs.declared.names.JobId.{JobId}
use Rattle.base_words.specs.declared.note.Note.{Note}
use Rattle.base_words.specs.declared.note.Note.TheVariants as writes
use Rattle.base_words.specs.declared.order.Order.{Order}
use Rattle.base_words.specs.declared.order.Order.TheVariants.{Job}
use Rattle.base_words.specs.Bursts.{queue_just_picked}
use Rattle.base_words.specs.Journal.{Journal, EachNote}
use Rattle.base_words.specs.Lawful.{GoesOn}
use Rattle.base_jobs.specs.Calls.{Call}
use Rattle.base_jobs.specs.Meanings.{Meaning}
use Rattle.base_jobs.specs.Steps.{IfDone}
use Rattle.base_jobs.specs.declared.job.Step.{Step}
use Rattle.base_jobs.specs.declared.job.Step.TheVariants as step
use Rattle.link_ends.specs.declared.ends.Outward.{Outward}
use Rattle.actor_core.specs.Polls.{polls_made, poll_note}
use Rattle.actor_core.specs.Recorded.{RecordedView, order_taken, terms_at}
use Rattle.actor_core.specs.RightAnswers.{Seen, posted_notes, AreRightAnswers}

module _ {J T E : Type 0} (out : E → Outward J T) (ends : List E) where
  -- one of these ends leads to this core, and has seen its gate shut at this number
  abbrev pub SawShut : ℕ → ℕ → Type 0
  SawShut core final = (end : E) × (slice_get ends core ≡ Some end) × ((out end).closed ≡ true) × (final ≡ (out end).base + length (out end).sent)

  -- one of them sent this order under this name
  abbrev pub SawSent : JobId → Order J → Type 0
  SawSent name order =
      (end : E) × (slice_get ends name.to ≡ Some end) × ((place : ℕ) × (name.number ≡ (out end).base + place + 1) × (slice_get (out end).sent place ≡ Some order))

  -- what is known of links by these ends
  abbrev pub seen_by : Seen J
  seen_by = record { shut = SawShut; sent = SawSent }

module _ {J T : Type 0} (meaning : Meaning J T) (terms : Terms) (seen : Seen J) where
  -- The poll that a note settles is one that the job `sent` owes. Behind a pick of its queue, or in the open turn of its queue, stands the note that begins the poll, and behind it what its
  -- calls wrote; each call is answered as the notes say; and these calls, the step and the told time are what the task says of this poll, counted by the polls before it.
  pub record IsPollOf (queue : ℕ) (sent : J) (name : JobId) (time : ℕ) (step : Step T) (before : Journal T) : Type 0 where
    pub calls : List (Call J T)
    pub told : Option ℕ
    pub was_started : Bool
    pub earlier : Journal T
    pub due : (queue_just_picked earlier ≡ Some queue) ⊎ GoesOn terms.burst queue earlier
    pub stands : before ≡ posted_notes calls ++ poll_note name was_started ∷ earlier
    pub right : AreRightAnswers terms seen calls (poll_note name was_started ∷ earlier)
    pub owed : meaning.polls sent (meaning.made sent + polls_made name earlier) calls step told
    pub answered : IfDone step (meaning.answers sent)
    pub timed : IfSome told (λ stated. stated ≡ time)

  module _ (under : JobId → Option (Order J)) where
    -- the poll is one that the order under its name owes
    pub record IsOwedPoll (name : JobId) (time : ℕ) (step : Step T) (before : Journal T) : Type 0 where
      pub queue : ℕ
      pub sent : J
      pub task : under name ≡ Some (Job queue sent)
      pub poll : IsPollOf queue sent name time step before

    -- a note that settles a poll settles one that is owed
    abbrev pub PollIsOwed : Note T → Journal T → Type 0
    PollIsOwed (writes.Yield name time) before = IsOwedPoll name time step.Yield before
    PollIsOwed (writes.Park name time) before = IsOwedPoll name time step.Park before
    PollIsOwed (writes.Stayed name time) before = IsOwedPoll name time step.Park before
    PollIsOwed (writes.Done name time out) before = IsOwedPoll name time (step.Done out) before
    PollIsOwed _ before = Unit {0}

    -- each poll that the journal tells did what its task says
    abbrev pub PollsAreOwed : Journal T → Type 0
    PollsAreOwed notes = EachNote PollIsOwed notes

-- each poll of a core beside its journal did what the order that was delivered under its name says
abbrev pub HasOwedPolls : {J T : Type 0} → Meaning J T → Seen J → RecordedView J T → Type 0
HasOwedPolls meaning seen view = PollsAreOwed meaning (terms_at view) seen (order_taken view.took) view.journal.notes
