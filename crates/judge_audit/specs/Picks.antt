-- What the walk of the fifth rule knows of the notes that it has read.
use Rattle.std.specs.Prelude.{◌≡◌, ℕ, ◌<◌, true, false, List, [], ◌∷◌, Option, Some, None, is_some}
use Rattle.base_words.specs.declared.names.JobId.{JobId}
use Rattle.base_words.specs.declared.note.Note.{Note}
use Rattle.base_words.specs.declared.note.Note.TheVariants.{Start, Resume, Yield, Park, Stayed, Done, Returned}
use Rattle.base_words.specs.Clauses.{PicksRight}
use Rattle.base_words.specs.Commands.{stays_in_line}
use Rattle.base_words.specs.Journal.{Journal, EachNote}
use Rattle.base_words.specs.Keys.{KeyAtMost}
use Rattle.base_words.specs.Lines.{jobs_out}
use Rattle.base_words.specs.Parks.{is_parked}
use Rattle.base_words.specs.Picks.{queue_just_picked, queue_served, takes_turn}
use Rattle.base_words.specs.Runtimes.{virtual_runtime}
use Rattle.note_facts.specs.declared.accounts.Account.{Account}
use Rattle.note_facts.specs.Accounts.{has_jobs, greatest_runtime}
use Rattle.note_facts.specs.AllAccounts.{KnowsAccounts}
use Rattle.judge_audit.specs.declared.least.Least.{Least}
use Rattle.judge_audit.specs.OpenTurns.{KnowsTurn}
use Rattle.judge_audit.specs.Waiting.{AreWaiting}
use Rattle.judge_audit.specs.Winners.{IsTree, key_of}
use Rattle.judge_audit.specs.declared.picks.Turns.{Turns}

-- the job that is out, as a list
abbrev pub out_list : Option JobId → List JobId
out_list None = []
out_list (Some name) = name ∷ []

-- the job that is out after a note
abbrev pub out_after : {T : Type 0} → Option JobId → Note T → Option JobId
out_after out (Start name) = Some name
out_after out (Resume name) = Some name
out_after out (Yield name time) = None
out_after out (Park name time) = None
out_after out (Stayed name time) = None
out_after out (Done name time value) = None
out_after out _ = out

-- a job goes out where none is out, and a poll is settled for the job that is out
abbrev pub FitsOut : {T : Type 0} → Option JobId → Note T → Type 0
FitsOut out (Start name) = out ≡ None
FitsOut out (Resume name) = out ≡ None
FitsOut out (Yield name time) = out ≡ Some name
FitsOut out (Park name time) = out ≡ Some name
FitsOut out (Stayed name time) = out ≡ Some name
FitsOut out (Done name time value) = out ≡ Some name
FitsOut out _ = Unit {0}

-- a job that asks to be parked stays in its line exactly where it must, and a parked job is neither polled nor handed back
abbrev pub FitsParks : {T : Type 0} → Note T → Journal T → Type 0
FitsParks (Park name time) before = stays_in_line name before ≡ false
FitsParks (Stayed name time) before = stays_in_line name before ≡ true
FitsParks (Resume name) before = is_parked name before ≡ false
FitsParks (Returned name reason) before = is_parked name before ≡ false
FitsParks _ before = Unit {0}

-- behind a pick, and nowhere else, stands a note that takes a turn, of a job of that queue
pub record Follows {T : Type 0} (burst : ℕ) (note : Note T) (before : Journal T) : Type 0 where
  pub turn : is_some (queue_just_picked before) ≡ takes_turn burst note before
  pub followed : queue_just_picked before ≡ queue_served burst note before

-- no queue has a lesser pair
abbrev pub IsBelowAll : ℕ → ℕ → Least → Type 0
IsBelowAll runtime queue least = (other : ℕ) → other < 256 → KeyAtMost runtime queue (key_of least other).vr (key_of least other).queue

-- each virtual runtime is below this
abbrev pub AreBelow : ℕ → ℕ → Journal ℕ → Type 0
AreBelow burst bound before = (queue : ℕ) → virtual_runtime burst queue before < bound

-- a queue that has work stands at this virtual runtime, which its type doesn't cut off
pub record IsAt (account : Account) (runtime : ℕ) : Type 0 where
  pub jobs : has_jobs account ≡ true
  pub at : account.virtual_runtime ≡ runtime
  pub below : runtime < greatest_runtime

-- queues, the job out, the last pick and the open turn are known as these notes tell them
pub record KnowsTurns (burst : ℕ) (turns : Turns) (before : Journal ℕ) : Type 0 where
  pub accounts : KnowsAccounts burst turns.accounts before
  pub tree : IsTree turns.least
  pub waiting : AreWaiting turns.accounts turns.least
  pub out : jobs_out before ≡ out_list turns.out
  pub picked : queue_just_picked before ≡ turns.picked
  pub turn : KnowsTurn burst turns.turn before

-- the turns are known, and each note was right
pub record PicksSoFar (burst : ℕ) (turns : Turns) (before : Journal ℕ) : Type 0 where
  pub known : KnowsTurns burst turns before
  pub right : EachNote (PicksRight burst) before
