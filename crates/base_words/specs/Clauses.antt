-- What soundness asks of one note and of the notes before it, for each of its five clauses.
use Rattle.std.specs.Prelude.{◌≡◌, ℕ, ◌+◌, ◌<◌, true, false, Option, Some, None, is_some, [], ◌∷◌, length}
use Rattle.std.specs.Option.{IsSome}
use Rattle.base_words.specs.declared.names.JobId.{JobId}
use Rattle.base_words.specs.declared.note.Note.{Note}
use Rattle.base_words.specs.declared.note.Note.TheVariants.{CoreClosed, Sent, Took, Back, Answered, Created, Pick, Start, Resume, Yield, Park, Stayed, Done, Returned, Turned, Shut, Collected, Redeemed}
use Rattle.base_words.specs.declared.order.Order.TheVariants.{Job}
use Rattle.base_words.specs.declared.order.Mode.{Mode}
use Rattle.base_words.specs.declared.order.Mode.TheVariants.{Return}
use Rattle.base_words.specs.Journal.{Journal, is_told, latest_told}
use Rattle.base_words.specs.Filters.{accepted_orders, collected_outcomes, name_started, name_ended}
use Rattle.base_words.specs.Work.{queue_of}
use Rattle.base_words.specs.Lines.{jobs_out}
use Rattle.base_words.specs.Bursts.{queue_in_turn, polls_in_turn, time_in_turn}
use Rattle.base_words.specs.Picks.{IsRightPick}
pub use Rattle.base_words.specs.Picks.{queue_just_picked, queue_served, takes_turn}
use Rattle.base_words.specs.Closing.{queue_mode, core_mode, final_count}
use Rattle.base_words.specs.Commands.{stays_in_line}
use Rattle.base_words.specs.Parks.{is_parked}
use Rattle.base_words.specs.Outstanding.{name_redeemed}
use Rattle.base_words.specs.Assembly.{Assembly, journal_of, first_under, order_of, outcome_of, IsAcceptedJob, IsAcceptedCommand}

-- an accepted job that entered a queue and hasn't ended
pub record IsAcceptedInside {T : Type 0} (assembly : Assembly T) (name : JobId) (before : Journal T) : Type 0 where
  pub is_accepted : IsAcceptedJob name assembly
  pub has_entered : IsSome (queue_of name before)
  pub has_not_ended : is_told name_ended name before ≡ false

-- starts: no name starts twice, and each that resumes has started
abbrev pub StartsRight : {T : Type 0} → Assembly T → Note T → Journal T → Type 0
StartsRight assembly (Start name) before = IsAcceptedInside assembly name before × (is_told name_started name before ≡ false)
StartsRight assembly (Resume name) before = IsAcceptedInside assembly name before × (is_told name_started name before ≡ true)
StartsRight assembly _ before = Unit {0}

-- order: the jobs of one sender in one queue start by rising number; a link is numbered 1, 2, 3, ..; a job enters the queue that it was sent to
abbrev pub StandsInOrder : {T : Type 0} → Assembly T → Note T → Journal T → Type 0
StandsInOrder assembly (Start name) before =
    (other : JobId) → is_told name_started other before ≡ true → other.from ≡ name.from → queue_of other before ≡ queue_of name before → other.number < name.number
StandsInOrder assembly (Sent name order) before = name.number ≡ length (accepted_orders name.to before) + 1
StandsInOrder assembly (Took name queue) before = order_of name assembly ≡ Some (Job queue tt)
StandsInOrder assembly _ before = Unit {0}

-- that a note closes the core in mode `Return`
abbrev pub return_told : {T : Type 0} → Note T → Option Mode
return_told (CoreClosed Return) = Some Return
return_told _ = None

-- closes: nothing enters a closed queue, nor a core that hands back; a closed core creates no queue, and shuts each gate once, at the count of what was accepted
abbrev pub RespectsCloses : {T : Type 0} → Assembly T → ℕ → Note T → Journal T → Type 0
RespectsCloses assembly core (Took name queue) before = (queue_mode queue before ≡ None) × (latest_told return_told before ≡ None)
RespectsCloses assembly core (Created queue weight) before = core_mode before ≡ None
RespectsCloses assembly core (Shut sender count) before =
    IsSome (core_mode before) × (final_count sender before ≡ None) × (count ≡ length (accepted_orders core (journal_of sender assembly)))
RespectsCloses assembly core _ before = Unit {0}

-- the command that a note answers
abbrev pub name_answered : {T : Type 0} → Note T → Option JobId
name_answered (Answered name answer) = Some name
name_answered _ = None

-- outcomes: a job ends once, and is done only after it started; a command is answered once; what is collected and redeemed is what was given
abbrev pub OutcomesRight : {T : Type 0} → Assembly T → Note T → Journal T → Type 0
OutcomesRight assembly (Done name time value) before =
    IsAcceptedJob name assembly × (is_told name_ended name before ≡ false) × (is_told name_started name before ≡ true)
OutcomesRight assembly (Back name reason) before = IsAcceptedJob name assembly × (is_told name_ended name before ≡ false)
OutcomesRight assembly (Returned name reason) before = IsAcceptedJob name assembly × (is_told name_ended name before ≡ false)
OutcomesRight assembly (Answered name answer) before = IsAcceptedCommand name assembly × (is_told name_answered name before ≡ false)
OutcomesRight assembly (Collected name outcome) before = outcome_of name assembly ≡ Some outcome
OutcomesRight assembly (Redeemed name outcome) before =
    (first_under name (collected_outcomes name.to before) ≡ Some outcome) × (outcome_of name assembly ≡ Some outcome) × (is_told name_redeemed name before ≡ false)
OutcomesRight assembly _ before = Unit {0}

abbrev pub IsRightIfPick : {T : Type 0} → ℕ → Note T → Journal T → Type 0
IsRightIfPick burst (Pick queue runtime) before = IsRightPick burst queue runtime before
IsRightIfPick burst _ before = Unit {0}

abbrev pub IsOfTheJobOut : {T : Type 0} → Note T → Journal T → Type 0
IsOfTheJobOut (Yield name time) before = jobs_out before ≡ name ∷ []
IsOfTheJobOut (Park name time) before = (jobs_out before ≡ name ∷ []) × (stays_in_line name before ≡ false)
IsOfTheJobOut (Stayed name time) before = (jobs_out before ≡ name ∷ []) × (stays_in_line name before ≡ true)
IsOfTheJobOut (Done name time value) before = jobs_out before ≡ name ∷ []
IsOfTheJobOut _ before = Unit {0}

abbrev pub IsOfNoParkedJob : {T : Type 0} → Note T → Journal T → Type 0
IsOfNoParkedJob (Resume name) before = is_parked name before ≡ false
IsOfNoParkedJob (Returned name reason) before = is_parked name before ≡ false
IsOfNoParkedJob _ before = Unit {0}

-- a further poll of an open turn is of its queue, stands where no job is out, and the turn has a poll left
pub record IsFurtherPoll {T : Type 0} (burst : ℕ) (name : JobId) (before : Journal T) : Type 0 where
  pub its_queue : queue_of name before ≡ queue_in_turn burst before
  pub nobody_out : jobs_out before ≡ []
  pub poll_left : polls_in_turn before < burst

-- what ends a turn tells its time, and stands where no job is out
pub record IsOfTheTurn {T : Type 0} (burst queue time : ℕ) (before : Journal T) : Type 0 where
  pub its_queue : queue_in_turn burst before ≡ Some queue
  pub nobody_out : jobs_out before ≡ []
  pub its_time : time ≡ time_in_turn before

abbrev pub IsInItsTurn : {T : Type 0} → ℕ → Note T → Journal T → Type 0
IsInItsTurn burst (Start name) before = IsSome (queue_in_turn burst before) → IsFurtherPoll burst name before
IsInItsTurn burst (Resume name) before = IsSome (queue_in_turn burst before) → IsFurtherPoll burst name before
IsInItsTurn burst (Turned queue time) before = IsOfTheTurn burst queue time before
IsInItsTurn burst _ before = Unit {0}

-- picks: each is right; behind a pick, and nowhere else, stands a note that takes a turn, of a job of that queue that isn't parked; a poll is settled for the job that is out, which stays in its line where it must; further polls, and what ends a turn, stand in their turn
pub record PicksRight {T : Type 0} (burst : ℕ) (note : Note T) (before : Journal T) : Type 0 where
  pub right : IsRightIfPick burst note before
  pub turn : is_some (queue_just_picked before) ≡ takes_turn burst note before
  pub followed : queue_just_picked before ≡ queue_served burst note before
  pub settles : IsOfTheJobOut note before
  pub awake : IsOfNoParkedJob note before
  pub in_turn : IsInItsTurn burst note before
