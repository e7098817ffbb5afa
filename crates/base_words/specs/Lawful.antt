-- Which note may stand after which: the steps of one actor.
use Rattle.std.specs.Prelude.{◌≡◌, ◌⊎◌, ℕ, ◌+◌, ◌<◌, ◌≤◌, ◌^◌, Bool, true, false, nat_lt, not, ◌&&◌, Some, None, is_some, IsTrue, List, [], ◌∷◌, length}
use Rattle.base_words.specs.Charge.{InRange}
use Rattle.base_words.specs.declared.names.JobId.{JobId}
use Rattle.base_words.specs.declared.note.Note.{Note}
use Rattle.base_words.specs.declared.note.Note.TheVariants.{Sent, Took, Back, Answered, Created, SharesSet, QueueClosed, CoreClosed, Woken, Pick, Start, Resume, Yield, Park, Stayed, Done, Returned, Turned, Shut, Collected, Redeemed, Detached}
use Rattle.base_words.specs.declared.order.Order.{Order}
use Rattle.base_words.specs.Bursts.{queue_in_turn, polls_in_turn, time_in_turn}
use Rattle.base_words.specs.Journal.{Journal, EachNote, is_told}
use Rattle.base_words.specs.Closing.{closes, core_mode, queue_mode, final_count, IsCounted, IsNextShut}
use Rattle.base_words.specs.Collecting.{IsNextCollected, IsRedeemable, IsDetachable}
use Rattle.base_words.specs.Filters.{accepted_orders, delivered_names, name_started}
use Rattle.base_words.specs.Lines.{line, jobs_out}
use Rattle.base_words.specs.Limits.{most_queues, most_turns}
use Rattle.base_words.specs.Orders.{IsSpelledOrder}
use Rattle.base_words.specs.Picks.{IsRightPick, turns, queue_just_picked}
pub use Rattle.base_words.specs.Picks.{takes_turn}
use Rattle.base_words.specs.Terms.{Terms}
use Rattle.base_words.specs.Work.{has_work}
use Rattle.base_words.specs.Outstanding.{outstanding_count}
use Rattle.base_words.specs.Commands.{created_count, refusal, return_reason, stays_in_line, is_inside, IsAnswer, effect_awaited}
pub use Rattle.base_words.specs.Commands.{IsEffectDue}

-- the name is the next of its link, which has a place and a number left, and the order is within its ranges
pub record IsNextSent {T : Type 0} (terms : Terms) (name : JobId) (order : Order (Unit {0})) (before : Journal T) : Type 0 where
  pub sender : name.from ≡ terms.actor
  pub receiver : name.to < terms.cores
  pub next : name.number ≡ length (accepted_orders name.to before) + 1
  pub in_range : name.number < 2 ^ 63
  pub credit : outstanding_count name.to before < terms.cap
  pub spelled : IsSpelledOrder order

-- the name is the next that is delivered from its sender, and within the count of its gate, if that is shut
pub record IsNextDelivered {T : Type 0} (terms : Terms) (name : JobId) (before : Journal T) : Type 0 where
  pub sender : name.from ≤ terms.cores
  pub receiver : name.to ≡ terms.actor
  pub next : name.number ≡ length (delivered_names name.from before) + 1
  pub in_range : name.number < 2 ^ 63
  pub gate : IsCounted (final_count name.from before) name.number

-- the turn of the queue is open, nobody is out, and the turn has a poll left
pub record GoesOn {T : Type 0} (burst queue : ℕ) (before : Journal T) : Type 0 where
  pub in_turn : queue_in_turn burst before ≡ Some queue
  pub nobody_out : jobs_out before ≡ []
  pub poll_left : polls_in_turn before < burst

-- the queue was just picked, or its turn goes on, and the job is the first of its line
pub record IsTurnOf {T : Type 0} (burst : ℕ) (name : JobId) (queue : ℕ) (before : Journal T) : Type 0 where
  pub due : (queue_just_picked before ≡ Some queue) ⊎ GoesOn burst queue before
  pub others : List JobId
  pub first : line queue before ≡ name ∷ others

-- the queue is the next one, and its shares are within their range
pub record IsNextQueue {T : Type 0} (queue weight : ℕ) (before : Journal T) : Type 0 where
  pub next : queue ≡ created_count before + 1
  pub in_range : queue < most_queues
  pub shares : InRange weight

-- the pick is right, and a turn is left
pub record IsNextTurn {T : Type 0} (burst queue runtime : ℕ) (before : Journal T) : Type 0 where
  pub right : IsRightPick burst queue runtime before
  pub turn_left : turns before < most_turns

-- whether an open turn of this queue may go on: it has a poll left, the queue has work, and nothing hands its jobs back
abbrev pub may_go_on : {T : Type 0} → ℕ → ℕ → Journal T → Bool
may_go_on burst queue journal = nat_lt (polls_in_turn journal) burst && has_work queue journal && not (is_some (return_reason queue journal))

-- the turn of the queue took that time, nobody is out, and the turn may not go on
pub record IsTurnEnd {T : Type 0} (burst queue time : ℕ) (before : Journal T) : Type 0 where
  pub in_turn : queue_in_turn burst before ≡ Some queue
  pub nobody_out : jobs_out before ≡ []
  pub its_time : time ≡ time_in_turn before
  pub over : may_go_on burst queue before ≡ false

-- the note may stand after these, apart from what the last of them waits for
abbrev pub MayFollow : {T : Type 0} → Terms → Note T → Journal T → Type 0
MayFollow terms (Sent name order) before = IsNextSent terms name order before
MayFollow terms (Took name queue) before = IsNextDelivered terms name before × (refusal queue before ≡ None)
MayFollow terms (Back name reason) before = IsNextDelivered terms name before × ((queue : ℕ) × (refusal queue before ≡ Some reason))
MayFollow terms (Answered name answer) before =
    IsNextDelivered terms name before × ((order : Order (Unit {0})) × IsAnswer name.to order answer before)
MayFollow terms (Created queue weight) before = IsNextQueue queue weight before
MayFollow terms (SharesSet queue weight) before = (queue ≤ created_count before) × InRange weight
MayFollow terms (QueueClosed queue mode) before = (queue ≤ created_count before) × IsTrue (closes (queue_mode queue before) mode)
MayFollow terms (CoreClosed mode) before = IsTrue (closes (core_mode before) mode)
MayFollow terms (Woken name) before = is_inside name before ≡ true
MayFollow terms (Pick queue runtime) before = IsNextTurn terms.burst queue runtime before
MayFollow terms (Start name) before =
    (queue : ℕ) × IsTurnOf terms.burst name queue before × (return_reason queue before ≡ None) × (is_told name_started name before ≡ false)
MayFollow terms (Resume name) before =
    (queue : ℕ) × IsTurnOf terms.burst name queue before × (return_reason queue before ≡ None) × (is_told name_started name before ≡ true)
MayFollow terms (Returned name reason) before =
    (queue : ℕ) × IsTurnOf terms.burst name queue before × (return_reason queue before ≡ Some reason)
MayFollow terms (Yield name time) before = jobs_out before ≡ name ∷ []
MayFollow terms (Park name time) before = (jobs_out before ≡ name ∷ []) × (stays_in_line name before ≡ false)
MayFollow terms (Stayed name time) before = (jobs_out before ≡ name ∷ []) × (stays_in_line name before ≡ true)
MayFollow terms (Done name time value) before = jobs_out before ≡ name ∷ []
MayFollow terms (Turned queue time) before = IsTurnEnd terms.burst queue time before
MayFollow terms (Shut sender count) before = IsNextShut terms.cores sender count before
MayFollow terms (Collected name outcome) before = IsNextCollected name outcome before
MayFollow terms (Redeemed name outcome) before = IsRedeemable name outcome before
MayFollow terms (Detached name) before = IsDetachable name before

-- a core may write each note; the outside actor writes what it sends, collects, redeems and detaches, and nothing else
abbrev pub MayWrite : {T : Type 0} → Terms → Note T → Type 0
MayWrite terms (Sent name order) = Unit {0}
MayWrite terms (Collected name outcome) = Unit {0}
MayWrite terms (Redeemed name outcome) = Unit {0}
MayWrite terms (Detached name) = Unit {0}
MayWrite terms _ = terms.actor < terms.cores

-- behind a pick stands a note that takes its turn, which stands nowhere else
pub record MayStand {T : Type 0} (terms : Terms) (note : Note T) (before : Journal T) : Type 0 where
  pub may_follow : MayFollow terms note before
  pub turn : is_some (queue_just_picked before) ≡ takes_turn terms.burst note before
  pub effect : IsEffectDue (effect_awaited before) note before
  pub writer : MayWrite terms note

-- each note may stand where it stands, and no step is half done
pub record IsLawful {T : Type 0} (terms : Terms) (journal : Journal T) : Type 0 where
  pub notes : EachNote (MayStand terms) journal
  pub no_pick : queue_just_picked journal ≡ None
  pub no_answer : effect_awaited journal ≡ None
  pub nobody_out : jobs_out journal ≡ []
  pub no_turn : queue_in_turn terms.burst journal ≡ None
