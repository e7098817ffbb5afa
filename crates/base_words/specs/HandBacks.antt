-- What a queue and a core still do after they closed in mode `Return`.
use Rattle.std.specs.Prelude.{◌≡◌, ℕ, ◌+◌, ◌-◌, ◌≤◌, Bool, true, false, Option, Some, None, IsTrue, [], ◌∷◌, ◌++◌, zero, suc}
use Rattle.base_words.specs.declared.note.Note.{Note}
use Rattle.base_words.specs.declared.note.Note.TheVariants.{Pick, Returned}
use Rattle.base_words.specs.declared.order.Mode.TheVariants.{Return}
use Rattle.base_words.specs.Closing.{queue_mode, core_mode}
use Rattle.base_words.specs.Commands.{created_count}
use Rattle.base_words.specs.Journal.{Journal, EachNote}
use Rattle.base_words.specs.Lawful.{MayStand}
use Rattle.base_words.specs.Names.{is_number}
use Rattle.base_words.specs.Parks.{parked}
use Rattle.base_words.specs.Picks.{queue_just_picked, turns}
use Rattle.base_words.specs.Terms.{Terms}
use Rattle.base_words.specs.Work.{has_work, entered_count, left_count, number_if}

-- the jobs inside a queue, a running one and parked ones counted: those that entered it and didn't leave it
abbrev pub jobs_inside : {T : Type 0} → ℕ → Journal T → ℕ
jobs_inside queue journal = entered_count queue journal - left_count queue journal

-- the jobs inside the queues below this number
abbrev pub jobs_below : {T : Type 0} → ℕ → Journal T → ℕ
jobs_below zero journal = 0
jobs_below (suc queue) journal = jobs_below queue journal + jobs_inside queue journal

-- the jobs inside a core, in all queues that there are
abbrev pub jobs_held : {T : Type 0} → Journal T → ℕ
jobs_held journal = jobs_below (created_count journal + 1) journal

-- the queue that a note picks
abbrev pub queue_picked : {T : Type 0} → Note T → Option ℕ
queue_picked (Pick queue runtime) = Some queue
queue_picked _ = None

-- how often these notes pick the queue
abbrev pub picks_of : {T : Type 0} → ℕ → Journal T → ℕ
picks_of queue [] = 0
picks_of queue (note ∷ before) = picks_of queue before + number_if (is_number queue (queue_picked note))

-- a note that hands a job back
abbrev pub is_hand_back : {T : Type 0} → Note T → Bool
is_hand_back (Returned name reason) = true
is_hand_back _ = false

-- each of the later notes that stands behind a pick of this queue hands a job back
abbrev pub QueueHandsBack : {T : Type 0} → ℕ → Journal T → Journal T → Type 0
QueueHandsBack queue [] earlier = Unit {0}
QueueHandsBack queue (note ∷ later) earlier =
    (queue_just_picked (later ++ earlier) ≡ Some queue → IsTrue (is_hand_back note)) × QueueHandsBack queue later earlier

-- each of the later notes that stands behind a pick hands a job back
abbrev pub CoreHandsBack : {T : Type 0} → Journal T → Journal T → Type 0
CoreHandsBack later earlier = (queue : ℕ) → QueueHandsBack queue later earlier

-- from a place where a queue is closed in mode `Return` each pick of it hands a job back, it is picked at most as often as jobs were inside, after that many it has no work, and no job of it is parked
pub record QueueEmpties {T : Type 0} (queue : ℕ) (later earlier : Journal T) : Type 0 where
  pub hands_back : QueueHandsBack queue later earlier
  pub few : picks_of queue later ≤ jobs_inside queue earlier
  pub no_work : picks_of queue later ≡ jobs_inside queue earlier → queue_just_picked (later ++ earlier) ≡ None → has_work queue (later ++ earlier) ≡ false
  pub nobody_parked : parked queue (later ++ earlier) ≡ []

-- from a place where the core is closed in mode `Return` the same holds of all queues together
pub record CoreEmpties {T : Type 0} (later earlier : Journal T) : Type 0 where
  pub hands_back : CoreHandsBack later earlier
  pub few : turns later ≤ jobs_held earlier
  pub no_work : turns later ≡ jobs_held earlier → queue_just_picked (later ++ earlier) ≡ None → (queue : ℕ) → has_work queue (later ++ earlier) ≡ false
  pub nobody_parked : (queue : ℕ) → parked queue (later ++ earlier) ≡ []

-- in each lawful journal
pub record ClosingHandsBack : Type 0 where
  pub queues : (terms : Terms) (queue : ℕ) (later earlier : Journal ℕ) → EachNote (MayStand terms) (later ++ earlier) →
      queue_mode queue earlier ≡ Some Return → QueueEmpties queue later earlier
  pub cores : (terms : Terms) (later earlier : Journal ℕ) → EachNote (MayStand terms) (later ++ earlier) →
      core_mode earlier ≡ Some Return → CoreEmpties later earlier
