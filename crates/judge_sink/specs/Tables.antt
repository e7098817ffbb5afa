-- What is kept of the submissions of a core that are outstanding.
use Rattle.std.specs.Prelude.{◌≡◌, ℕ, ◌<◌, Bool, true, false, not, ◌&&◌, ◌||◌, Option, None, Some, is_some, List, [], length, count_by, slice_get}
use Rattle.base_words.specs.Assembly.{first_under}
use Rattle.base_words.specs.Filters.{Orders, accepted_orders, collected_outcomes}
use Rattle.base_words.specs.Journal.{Journal, is_told}
use Rattle.base_words.specs.Lawful.{IsNextSent}
use Rattle.base_words.specs.Collecting.{IsDetachable, IsNextCollected, IsRedeemable}
use Rattle.base_words.specs.Outstanding.{name_detached, name_redeemed}
use Rattle.base_words.specs.Terms.{Terms}
use Rattle.base_words.specs.declared.names.JobId.{JobId}
use Rattle.base_words.specs.declared.note.Note.{Note}
use Rattle.base_words.specs.declared.note.Note.TheVariants.{Sent, Collected, Redeemed, Detached}
use Rattle.base_words.specs.declared.note.OutcomeNote.{OutcomeNote}
use Rattle.base_words.specs.declared.order.Order.{Order}
use Rattle.actor_desk.specs.Ends.{name_of}
use Rattle.actor_desk.specs.Held.{at, count_of}
use Rattle.actor_desk.specs.Orders.{numbered_orders}
use Rattle.judge_sink.specs.declared.table.Known.{Known}
use Rattle.judge_sink.specs.declared.table.Known.TheVariants as known
use Rattle.judge_sink.specs.declared.table.Lane.{Lane}
use Rattle.judge_sink.specs.declared.table.Table.{Table}

-- what notes tell of one submission: its order, its outcome, and whether it was redeemed or detached
pub record Facts : Type 0 where
  pub order : Option (Order (Unit {0}))
  pub outcome : Option (OutcomeNote ℕ)
  pub redeemed : Bool
  pub detached : Bool

abbrev pub facts : JobId → Journal ℕ → Facts
facts name journal = record {
  order = first_under name (accepted_orders name.to journal);
  outcome = first_under name (collected_outcomes name.to journal);
  redeemed = is_told name_redeemed name journal;
  detached = is_told name_detached name journal;
}

-- whether it was sent and is outstanding
abbrev pub is_open : Facts → Bool
is_open facts = is_some facts.order && not (facts.redeemed || facts.detached && is_some facts.outcome)

-- an entry tells what the notes do, and what has none isn't outstanding
abbrev pub Tells : Option Known → Facts → Type 0
Tells None facts = is_open facts ≡ false
Tells (Some (known.Pending order)) facts = facts ≡ record { order = Some order; outcome = None; redeemed = false; detached = false }
Tells (Some (known.Detached order)) facts = facts ≡ record { order = Some order; outcome = None; redeemed = false; detached = true }
Tells (Some (known.Collected outcome)) facts = (order : Order (Unit {0})) × (facts ≡ record { order = Some order; outcome = Some outcome; redeemed = false; detached = false })

-- A lane counts what was sent to its core. It tells of each number what the notes do, which tell nothing of one that wasn't sent. So it has as many
-- entries as submissions are outstanding, and room for as many as may be.
pub record KnowsLane (core to cap : ℕ) (lane : Lane) (accepted : Orders) (told : ℕ → Facts) : Type 0 where
  pub room : lane.known.room ≡ cap
  pub orders : List (Order (Unit {0}))
  pub numbered : accepted ≡ numbered_orders core to 0 orders
  pub sent : lane.sent ≡ length orders
  pub tells : (number : ℕ) → Tells (at lane.known.entries number) (told number)
  pub unsent : (number : ℕ) → (0 < number → lane.sent < number) → told number ≡ record { order = None; outcome = None; redeemed = false; detached = false }
  pub out : lane.out ≡ count_of lane.known.entries
  pub count : count_of lane.known.entries ≡ count_by (λ sent. is_some (at lane.known.entries sent.0.number)) accepted

-- the table has a lane for each core, which knows what the notes tell
pub record KnowsTable (terms : Terms) (table : Table) (before : Journal ℕ) : Type 0 where
  pub core : table.core ≡ terms.actor
  pub cap : table.cap ≡ terms.cap
  pub cores : length table.lanes.items ≡ terms.cores
  pub each : (to : ℕ) (lane : Lane) → slice_get table.lanes.items to ≡ Some lane →
      KnowsLane terms.actor to terms.cap lane (accepted_orders to before) (λ number. facts (name_of terms.actor to number) before)

-- a lane to a core to which nothing was sent
abbrev pub fresh_lane : ℕ → Lane
fresh_lane room = record { sent = 0; out = 0; known = record { entries = []; room = room } }

-- the submission of which a note tells
abbrev pub submission : Note ℕ → Option JobId
submission (Sent name order) = Some name
submission (Collected name outcome) = Some name
submission (Redeemed name outcome) = Some name
submission (Detached name) = Some name
submission _ = None

-- a note of a submission may follow these
abbrev pub FollowsSent : Terms → Note ℕ → Journal ℕ → Type 0
FollowsSent terms (Sent name order) before = IsNextSent terms name order before
FollowsSent terms (Collected name outcome) before = IsNextCollected name outcome before
FollowsSent terms (Redeemed name outcome) before = IsRedeemable name outcome before
FollowsSent terms (Detached name) before = IsDetachable name before
FollowsSent terms _ before = Unit {0}
