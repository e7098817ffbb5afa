-- The turn that is open, as the walk of the fifth rule knows it, and how each note changes it.
use Rattle.std.specs.Prelude.{◌≡◌, ℕ, ◌+◌, ◌-◌, ◌^◌, ◌<◌, min, true, if◌then◌else◌, Option, Some, None, is_some}
use Rattle.base_words.specs.Charge.{clamped}
use Rattle.base_words.specs.declared.names.JobId.{JobId}
use Rattle.base_words.specs.declared.note.Note.{Note}
use Rattle.base_words.specs.declared.note.Note.TheVariants.{Pick, Start, Resume, Yield, Park, Stayed, Done, Turned}
use Rattle.base_words.specs.Bursts.{has_bursts, queue_in_turn, polls_in_turn, time_in_turn}
use Rattle.base_words.specs.Journal.{Journal}
use Rattle.judge_audit.specs.declared.turns.OpenTurn.{OpenTurn}

-- the first poll behind a pick opens the turn of its queue, where a note of its own ends it
abbrev pub turn_begun : ℕ → ℕ → Option OpenTurn
turn_begun burst queue = if has_bursts burst then Some (record { queue = queue; polls = 1; time = 0 }) else None

-- a further poll is one more
abbrev pub polled_again : OpenTurn → OpenTurn
polled_again turn = record turn { polls = min (turn.polls + 1) 255 }

-- a settled poll adds its time; both are cut at what counts
abbrev pub time_after : ℕ → ℕ → ℕ
time_after so_far time = min (so_far + clamped time) (2 ^ 40 - 1)

abbrev pub lasted : ℕ → OpenTurn → OpenTurn
lasted time turn = record turn { time = time_after turn.time time }

-- the open turn after a settled poll
abbrev pub turn_settled : ℕ → Option OpenTurn → Option OpenTurn
turn_settled time None = None
turn_settled time (Some turn) = Some (lasted time turn)

-- the open turn after a further poll
abbrev pub turn_further : Option OpenTurn → Option OpenTurn
turn_further None = None
turn_further (Some turn) = Some (polled_again turn)

-- the open turn after a poll: behind a pick a turn begins
abbrev pub turn_polled : ℕ → Option ℕ → Option OpenTurn → Option OpenTurn
turn_polled burst None turn = turn_further turn
turn_polled burst (Some queue) turn = turn_begun burst queue

-- the open turn after a note
abbrev pub turn_after : {T : Type 0} → ℕ → Option ℕ → Option OpenTurn → Note T → Option OpenTurn
turn_after burst picked turn (Pick queue runtime) = None
turn_after burst picked turn (Start name) = turn_polled burst picked turn
turn_after burst picked turn (Resume name) = turn_polled burst picked turn
turn_after burst picked turn (Yield name time) = turn_settled time turn
turn_after burst picked turn (Park name time) = turn_settled time turn
turn_after burst picked turn (Stayed name time) = turn_settled time turn
turn_after burst picked turn (Done name time value) = turn_settled time turn
turn_after burst picked turn (Turned queue time) = None
turn_after burst picked turn _ = turn

-- the turn of these notes that is open, with its polls and its time
pub record IsTurnOpen {T : Type 0} (burst : ℕ) (turn : OpenTurn) (before : Journal T) : Type 0 where
  pub queue : queue_in_turn burst before ≡ Some turn.queue
  pub polls : polls_in_turn before ≡ turn.polls
  pub time : time_in_turn before ≡ turn.time

-- the turn that is open is known, if one is
abbrev pub KnowsTurn : {T : Type 0} → ℕ → Option OpenTurn → Journal T → Type 0
KnowsTurn burst None before = queue_in_turn burst before ≡ None
KnowsTurn burst (Some turn) before = IsTurnOpen burst turn before

-- where a turn is open a poll answers to no pick, and elsewhere to the pick of its queue
abbrev pub AnswersPick : Option OpenTurn → Option ℕ → Option ℕ → Type 0
AnswersPick None picked queue = (is_some picked ≡ true) × (picked ≡ queue)
AnswersPick (Some turn) picked queue = picked ≡ None

-- a further poll of a turn is of its queue, stands where no job is out, and the turn has a poll left
pub record IsFurther (burst : ℕ) (turn : OpenTurn) (out : Option JobId) (queue : Option ℕ) : Type 0 where
  pub its_queue : queue ≡ Some turn.queue
  pub nobody_out : out ≡ None
  pub poll_left : turn.polls < burst

-- a poll, if a turn is open, is a further one of that
abbrev pub FitsPoll : ℕ → Option OpenTurn → Option JobId → Option ℕ → Type 0
FitsPoll burst None out queue = Unit {0}
FitsPoll burst (Some turn) out queue = IsFurther burst turn out queue

-- what ends a turn is of the open one, tells its time, and stands where no job is out
pub record IsEnd (turn : OpenTurn) (out : Option JobId) (queue time : ℕ) : Type 0 where
  pub its_queue : turn.queue ≡ queue
  pub nobody_out : out ≡ None
  pub its_time : time ≡ turn.time

abbrev pub FitsEnd : Option OpenTurn → Option JobId → ℕ → ℕ → Type 0
FitsEnd None out queue time = ⊥
FitsEnd (Some turn) out queue time = IsEnd turn out queue time
