-- What closing does to a core: why jobs go back, what a closing changes, which parks end, and when the core is drained.
use Rattle.std.specs.Prelude.{◌≡◌, ℕ, ◌<◌, ◌≤◌, ◌==◌, Bool, true, false, nat_lt, if◌then◌else◌, Option, Some, List, [], ◌∷◌, ◌++◌, length, map, slice_set}
use Rattle.base_words.specs.declared.note.Note.{Note}
use Rattle.base_words.specs.declared.note.Note.TheVariants as notes
use Rattle.base_words.specs.declared.order.Mode.{Mode}
use Rattle.base_words.specs.declared.order.Reason.{Reason}
use Rattle.base_words.specs.declared.order.Reason.TheVariants as why
use Rattle.base_words.specs.declared.order.Answer.{Answer}
use Rattle.base_words.specs.declared.order.Answer.TheVariants as answers
use Rattle.base_words.specs.Journal.{or_else}
use Rattle.base_words.specs.Commands.{reason_if_closed, reason_if_returning}
use Rattle.base_words.specs.Closing.{closes}
use Rattle.base_words.specs.Parks.{is_return}
use Rattle.core_queues.specs.Queues.{Parks, queue_count, shares_of, mode_of, waiting_of, parked_of, held_count, awake, ChangesMode}
use Rattle.core_core.specs.declared.tally.Tally.{Tally}
use Rattle.core_core.specs.State.{CoreView, delivered_of, gate_of, is_any, is_working, tally_of, entry_runtime}

module _ {J : Type 0} where
  -- why a job that is delivered to this queue goes back: no such queue, a closed queue, a core that hands back
  abbrev pub refusal : ℕ → CoreView J → Option Reason
  refusal queue view =
      if nat_lt queue (queue_count view.queues)
      then or_else (reason_if_closed (mode_of queue view.queues) why.QueueClosed) (reason_if_returning view.mode why.CoreClosing)
      else Some why.NoQueue

  -- why a pick of this queue hands its job back: the queue hands back, or the core does
  abbrev pub return_reason : ℕ → CoreView J → Option Reason
  return_reason queue view =
      or_else (reason_if_returning (mode_of queue view.queues) why.QueueReturned) (reason_if_returning view.mode why.CoreReturned)

  -- a queue is closed, and nothing else changes
  pub record HasClosed (old : CoreView J) (queue : ℕ) (mode : Mode) (new : CoreView J) : Type 0 where
    pub exists : queue < queue_count old.queues
    pub closed : ChangesMode old.queues new.queues queue mode
    pub rest : new ≡ record old { queues = new.queues }

  -- of the parked jobs of a queue those whose parks end: all of them, or none
  abbrev pub unparked : Bool → ℕ → CoreView J → Parks J
  unparked true queue view = parked_of queue view.queues
  unparked false queue view = []

  -- and those that stay parked
  abbrev pub still_parked : Bool → ℕ → CoreView J → Parks J
  still_parked true queue view = []
  still_parked false queue view = parked_of queue view.queues

  -- what is counted of a queue once parks of it ended: the queue stands where it does when a job enters it
  abbrev pub tally_woken : Bool → ℕ → CoreView J → Tally
  tally_woken true queue view = record (tally_of queue view) { runtime = entry_runtime queue view }
  tally_woken false queue view = tally_of queue view

  -- all parks of these queues end: the jobs join the tails of their lines in the order in which they were parked, each queue is placed, and nothing else changes
  pub record EndsParks (old : CoreView J) (ends : ℕ → Bool) (new : CoreView J) : Type 0 where
    pub lines : (queue : ℕ) → waiting_of queue new.queues ≡ waiting_of queue old.queues ++ map awake (unparked (ends queue) queue old)
    pub parks : (queue : ℕ) → parked_of queue new.queues ≡ still_parked (ends queue) queue old
    pub same_shares : (queue : ℕ) → shares_of queue new.queues ≡ shares_of queue old.queues
    pub same_modes : (queue : ℕ) → mode_of queue new.queues ≡ mode_of queue old.queues
    pub same_count : queue_count new.queues ≡ queue_count old.queues
    pub same_room : new.queues.room ≡ old.queues.room
    pub same_held : held_count new.queues ≡ held_count old.queues
    pub tallies : (queue : ℕ) → tally_of queue new ≡ tally_woken (is_any (unparked (ends queue) queue old)) queue old
    pub same_tallies : length new.tallies ≡ length old.tallies
    pub rest : new ≡ record old { queues = new.queues; tallies = new.tallies }

  -- a closing ends the parks of these queues if what is inside is handed back
  abbrev pub EndsParksIf : Bool → CoreView J → (ℕ → Bool) → CoreView J → Type 0
  EndsParksIf true old ends new = EndsParks old ends new
  EndsParksIf false old ends new = new ≡ old

  -- every gate is shut and all behind it delivered, no queue has work, and no job is parked
  pub record IsDrained (view : CoreView J) : Type 0 where
    pub delivered_all : (sender : ℕ) → sender ≤ view.cores → gate_of sender view ≡ Some (delivered_of sender view)
    pub idle : (queue : ℕ) → is_working queue view ≡ false
    pub nobody_parked : (queue : ℕ) → parked_of queue view.queues ≡ []

module _ {J T : Type 0} where
  -- closing the core: whether that did anything, with its note; in mode `Return` all parks end
  abbrev pub ClosesCore : CoreView J → Mode → Bool → CoreView J → List (Note T) → Type 0
  ClosesCore old mode true new written =
      (closes old.mode mode ≡ true) × EndsParksIf (is_return mode) (record old { mode = Some mode }) (λ queue. true) new × (written ≡ notes.CoreClosed mode ∷ [])
  ClosesCore old mode false new written = (closes old.mode mode ≡ false) × (new ≡ old) × (written ≡ [])

  -- closing a queue, by what it is answered, with its note; in mode `Return` its parks end
  abbrev pub ClosesQueue : CoreView J → ℕ → Mode → Answer → CoreView J → List (Note T) → Type 0
  ClosesQueue old queue mode answers.NoQueue new written = (queue_count old.queues ≤ queue) × (new ≡ old) × (written ≡ [])
  ClosesQueue old queue mode answers.AlreadyClosed new written =
      (queue < queue_count old.queues) × (closes (mode_of queue old.queues) mode ≡ false) × (new ≡ old) × (written ≡ [])
  ClosesQueue old queue mode answers.Closed new written =
      (closes (mode_of queue old.queues) mode ≡ true)
      × ((closed : CoreView J) × HasClosed old queue mode closed × EndsParksIf (is_return mode) closed (λ other. queue == other) new)
      × (written ≡ notes.QueueClosed queue mode ∷ [])
  ClosesQueue old queue mode answer new written = ⊥

  -- the gate of a sender is shut with its final count
  abbrev pub ShutsGate : CoreView J → ℕ → ℕ → CoreView J → List (Note T) → Type 0
  ShutsGate old from count new written =
      (new ≡ record old { gates = slice_set old.gates from (Some count) }) × (written ≡ notes.Shut from count ∷ [])
