-- A core beside its journal and the orders that were delivered to it, as callers see them.
use Rattle.std.specs.Prelude.{◌≡◌, ℕ, zero, suc, ◌+◌, ◌*◌, ◌≤◌, Option, Some, None, if◌then◌else◌, List, [], ◌∷◌, length, All}
use Rattle.std.specs.Option.{option_map}
use Rattle.base_words.specs.declared.names.JobId.{JobId}
use Rattle.base_words.specs.declared.order.Envelope.{Envelope}
use Rattle.base_words.specs.declared.order.Order.{Order}
use Rattle.base_words.specs.declared.order.Order.TheVariants.{Job}
use Rattle.base_words.specs.Terms.{Terms}
use Rattle.base_words.specs.Names.{same_name}
use Rattle.base_words.specs.Journal.{Journal, EachNote}
use Rattle.base_words.specs.Filters.{delivered_names, given_outcomes}
use Rattle.base_jobs.specs.declared.job.Step.{Step}
use Rattle.base_jobs.specs.Calls.{Call}
use Rattle.base_jobs.specs.Meanings.{Meaning}
use Rattle.core_queues.specs.Queues.{waiting_of, parked_of}
use Rattle.core_core.specs.State.{CoreView, JobOut, inside_count}
use Rattle.note_journal.specs.Journals.{JournalView}
use Rattle.actor_desk.specs.Lanes.{Lane}
use Rattle.base_words.specs.Orders.{without_job}
use Rattle.actor_core.specs.Polls.{polls_made}
use Rattle.actor_core.specs.Agreement.{IsKept}
use Rattle.actor_desk.specs.Submissions.{DeskView}
use Rattle.base_words.specs.Joining.{DeliversAs}

-- the capacity of each link, the core, its journal, the orders that were delivered to it, the oldest first, and what is known of its own submissions to each core
pub record RecordedView (J T : Type 0) : Type 0 where
  pub cap : ℕ
  pub core : CoreView J
  pub journal : JournalView T
  pub took : List (Envelope J)
  pub lanes : List (Lane J T)

-- whose journal it is, and what holds of the whole house
abbrev pub terms_at : {J T : Type 0} → RecordedView J T → Terms
terms_at view = record { actor = view.core.core; cores = view.core.cores; cap = view.cap; burst = view.core.bursts.burst }

-- what the same actor says of its submissions
abbrev pub desk_of : {J T : Type 0} → RecordedView J T → DeskView J T
desk_of view = record { actor = view.core.core; cores = view.core.cores; cap = view.cap; burst = view.core.bursts.burst; journal = view.journal; lanes = view.lanes }

-- a count of the first actors together, the last one included
abbrev pub sum_upto : (ℕ → ℕ) → ℕ → ℕ
sum_upto count zero = count 0
sum_upto count (suc last) = sum_upto count last + count (suc last)

module _ {T : Type 0} where
  abbrev pub delivered_count : Journal T → ℕ → ℕ
  delivered_count notes sender = length (delivered_names sender notes)

  abbrev pub given_count : Journal T → ℕ → ℕ
  given_count notes sender = length (given_outcomes sender notes)

  -- of each sender at most `cap` orders wait for their outcome, and no more jobs are inside than orders wait
  pub record IsHeld (cores cap jobs : ℕ) (notes : Journal T) : Type 0 where
    pub each : (sender : ℕ) → sender ≤ cores → delivered_count notes sender ≤ given_count notes sender + cap
    pub inside : jobs + sum_upto (given_count notes) cores ≤ sum_upto (delivered_count notes) cores

module _ {J : Type 0} where
  -- the order that was delivered under a name
  abbrev pub order_taken : List (Envelope J) → JobId → Option (Order J)
  order_taken [] name = None
  order_taken (envelope ∷ later) name = if same_name name envelope.name then Some envelope.order else order_taken later name

  -- the same, as a note tells it
  abbrev pub note_taken : List (Envelope J) → JobId → Option (Order (Unit {0}))
  note_taken took name = option_map without_job (order_taken took name)

-- the name was delivered, by a sender that there is
pub record IsTaken {T : Type 0} (cores : ℕ) (notes : Journal T) (name : JobId) : Type 0 where
  pub sender : name.from ≤ cores
  pub old : name.number ≤ delivered_count notes name.from

module _ {J T : Type 0} (meaning : Meaning J T) where
  -- after so many polls, a poll of this job owes what the next poll of the job that was sent owes, whatever it calls of its post
  abbrev pub OwesAfter : J → ℕ → J → Type 0
  OwesAfter sent count job =
      (more : ℕ) (calls : List (Call J T)) (step : Step T) (told : Option ℕ) →
      meaning.polls job (meaning.made job + more) calls step told → meaning.polls sent (meaning.made sent + (count + more)) calls step told

  -- the job has the task that was sent under its name to this queue, and was polled as often as the journal says
  pub record HasTask (took : List (Envelope J)) (notes : Journal T) (queue : ℕ) (name : JobId) (job : J) : Type 0 where
    pub sent : J
    pub task : order_taken took name ≡ Some (Job queue sent)
    pub same_task : meaning.same sent job
    pub owes : OwesAfter sent (polls_made name notes) job

  -- each job that waits, and each that is parked, has the task that was sent
  pub record HaveTasks (view : RecordedView J T) : Type 0 where
    pub waiting : (queue : ℕ) → All (λ entry. HasTask view.took view.journal.notes queue entry.0 entry.2) (waiting_of queue view.core.queues)
    pub parked : (queue : ℕ) → All (λ entry. HasTask view.took view.journal.notes queue entry.0 entry.1) (parked_of queue view.core.queues)

  -- the core agrees with its journal; each delivery is as its order calls for; each job inside has the task that was sent, and its place
  pub record IsRecorded (view : RecordedView J T) : Type 0 where
    pub kept : IsKept (terms_at view) view.core view.journal.notes
    pub room : view.core.queues.room ≡ (view.core.cores + 1) * view.cap
    pub held : IsHeld view.core.cores view.cap (inside_count view.core) view.journal.notes
    pub taken : (name : JobId) (order : Order J) → order_taken view.took name ≡ Some order → IsTaken view.core.cores view.journal.notes name
    pub as_sent : EachNote (DeliversAs (note_taken view.took)) view.journal.notes
    pub tasks : HaveTasks view
    pub out : (job : JobOut J) → view.core.out ≡ Some job → HasTask view.took view.journal.notes job.queue job.name job.job
