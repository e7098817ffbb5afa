-- How many notes a worker keeps free, and what it does where few are free.
use Rattle.std.specs.Prelude.{◌≡◌, ◌≢◌, ◌⊎◌, ℕ, ◌+◌, ◌-◌, ◌*◌, ◌<◌, ◌≤◌, Bool, true, false, Some, [], ◌∷◌, length, unwrap_or, IsSome}
use Rattle.base_words.specs.declared.names.JobId.{JobId}
use Rattle.base_words.specs.declared.note.Note.{Note}
use Rattle.base_words.specs.declared.note.Note.TheVariants.{CoreClosed, Sent, Redeemed, Detached}
use Rattle.base_words.specs.declared.order.Mode.TheVariants.{Return}
use Rattle.base_words.specs.declared.order.Order.{Order}
use Rattle.base_words.specs.declared.order.Order.TheVariants.{Wake}
use Rattle.base_words.specs.Journal.{Journal, EachNote}
use Rattle.base_words.specs.Closing.{core_mode, final_count}
use Rattle.base_words.specs.Commands.{effect_awaited, job_at}
use Rattle.base_words.specs.Names.{among}
use Rattle.base_words.specs.Parks.{parked}
use Rattle.base_words.specs.Lines.{jobs_out}
use Rattle.note_journal.specs.Journals.{free_notes}
use Rattle.actor_core.specs.Recorded.{RecordedView, given_count, sum_upto}

-- a journal with fewer notes free than this is short, where a turn may have this many polls
abbrev pub least_free : ℕ → ℕ → ℕ → ℕ
least_free cores cap burst = 8 * ((cores + 1) * (cap + 1)) + 2 * (burst - 1)

module _ {T : Type 0} where
  -- the number of the last order that comes through the gate of a sender, once it is shut
  abbrev pub last_through : Journal T → ℕ → ℕ
  last_through notes sender = unwrap_or (final_count sender notes) 0

  -- a job of the core is being polled
  abbrev pub IsPolling : Journal T → Type 0
  IsPolling before = jobs_out before ≢ []

  -- a wake that the core sends to itself, of a job of its own that is parked
  abbrev pub WakesOwnPark : JobId → Order (Unit {0}) → Journal T → Type 0
  WakesOwnPark name (Wake actor number) before = (name.from ≡ name.to) × ((queue : ℕ) × (among (job_at name.to actor number) (parked queue before) ≡ true))
  WakesOwnPark name _ before = ⊥

  -- the last note is that such a wake was sent, under this name
  abbrev pub HasJustWoken : JobId → Journal T → Type 0
  HasJustWoken name (Sent other order ∷ before) = (name ≡ other) × WakesOwnPark other order before
  HasJustWoken name _ = ⊥

  -- The core closes where a command to close it was just answered, or by itself in mode `Return` where the journal is short. It sends, redeems and
  -- lets go only while one of its jobs is being polled, except that it sends itself a wake of a job that is parked, and lets go of that at once.
  abbrev pub MayAct : ℕ → ℕ → Note T → Journal T → Type 0
  MayAct least room (CoreClosed mode) before = IsSome (effect_awaited before) ⊎ ((mode ≡ Return) × (length before ≤ room) × (room - length before < least))
  MayAct least room (Sent name order) before = IsPolling before ⊎ WakesOwnPark name order before
  MayAct least room (Redeemed name outcome) before = IsPolling before
  MayAct least room (Detached name) before = IsPolling before ⊎ HasJustWoken name before
  MayAct least room _ before = Unit {0}

  -- the core never closed by itself, since no count of free notes is below 0
  abbrev pub ActsByCommand : Journal T → Type 0
  ActsByCommand notes = EachNote (MayAct 0 0) notes

module _ {J T : Type 0} where
  -- each note of the journal is one that the core may write there, and if the worker isn't at its end, the core never closed by itself
  abbrev pub ActsAsItMay : Bool → RecordedView J T → Type 0
  ActsAsItMay false view = ActsByCommand view.journal.notes
  ActsAsItMay true view = EachNote (MayAct (least_free view.core.cores view.cap view.core.bursts.burst) view.journal.room) view.journal.notes

  -- the journal is short
  abbrev pub IsShort : RecordedView J T → Type 0
  IsShort view = free_notes view.journal < least_free view.core.cores view.cap view.core.bursts.burst

  -- there is room for a step, and behind it for all notes of the end
  abbrev pub HasSpare : RecordedView J T → Type 0
  HasSpare view = length view.journal.notes + 4 * ((view.core.cores + 1) * (view.cap + 1)) ≤ view.journal.room

  -- The core hands back what is inside, and each gate is shut. There is room for three notes, and for two more for each order that has no outcome yet.
  pub record IsEnding (view : RecordedView J T) : Type 0 where
    pub returning : core_mode view.journal.notes ≡ Some Return
    pub gates : (sender : ℕ) → sender ≤ view.core.cores → IsSome (final_count sender view.journal.notes)
    pub room : length view.journal.notes + 3 + 2 * sum_upto (last_through view.journal.notes) view.core.cores
        ≤ view.journal.room + 2 * sum_upto (given_count view.journal.notes) view.core.cores

  -- a worker has room for its next step, also at its end
  abbrev pub IsProvided : Bool → RecordedView J T → Type 0
  IsProvided false view = HasSpare view
  IsProvided true view = IsEnding view

  -- right before a step: the journal isn't short, or the worker is at its end
  abbrev pub IsReady : Bool → RecordedView J T → Type 0
  IsReady false view = least_free view.core.cores view.cap view.core.bursts.burst ≤ free_notes view.journal
  IsReady true view = IsEnding view
