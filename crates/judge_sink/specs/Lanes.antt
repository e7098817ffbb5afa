-- How a note changes what is kept of its submission.
use Rattle.std.specs.Prelude.{◌≡◌, ℕ, ◌+◌, ◌-◌, ◌<◌, ◌≤◌, ◌^◌, true, Option, None, Some, is_some}
use Rattle.base_words.specs.Orders.{IsSpelledOrder}
use Rattle.base_words.specs.Outcomes.{FitsOrder}
use Rattle.base_words.specs.declared.note.Note.{Note}
use Rattle.base_words.specs.declared.note.Note.TheVariants.{Sent, Collected, Redeemed, Detached}
use Rattle.base_words.specs.declared.order.Order.{Order}
use Rattle.actor_desk.specs.Held.{at, count_of, Adds, Becomes, Removes}
use Rattle.judge_sink.specs.declared.table.Known.{Known}
use Rattle.judge_sink.specs.declared.table.Known.TheVariants as known
use Rattle.judge_sink.specs.declared.table.Lane.{Lane}

-- no number behind what was sent has an entry, and the entries are counted
pub record IsInStep (cap : ℕ) (lane : Lane) : Type 0 where
  pub above : (number : ℕ) → is_some (at lane.known.entries number) ≡ true → number ≤ lane.sent
  pub room : lane.known.room ≡ cap
  pub out : lane.out ≡ count_of lane.known.entries

-- an order has the next number, and a place of the link
pub record Sends (cap number : ℕ) (order : Order (Unit {0})) (old new : Lane) : Type 0 where
  pub next : number ≡ old.sent + 1
  pub in_range : number < 2 ^ 63
  pub credit : old.out < cap
  pub spelled : IsSpelledOrder order
  pub adds : Adds old.known.entries new.known.entries number (known.Pending order)
  pub sent : new.sent ≡ number
  pub out : new.out ≡ old.out + 1
  pub room : new.known.room ≡ old.known.room

-- what a note makes of an entry: an outcome that fits its order is kept, unless nobody will redeem it; what was redeemed, or detached and collected, has none
abbrev pub Turns : Known → Note ℕ → Option Known → Type 0
Turns (known.Pending order) (Collected name outcome) after = FitsOrder order outcome × (after ≡ Some (known.Collected outcome))
Turns (known.Detached order) (Collected name outcome) after = FitsOrder order outcome × (after ≡ None)
Turns (known.Collected was) (Redeemed name outcome) after = (was ≡ outcome) × (after ≡ None)
Turns (known.Pending order) (Detached name) after = after ≡ Some (known.Detached order)
Turns (known.Collected was) (Detached name) after = after ≡ None
Turns _ _ after = ⊥

-- it stands in the place of another entry, or there is one less
abbrev pub Replaces : ℕ → Known → Option Known → Lane → Lane → Type 0
Replaces number before None old new = Removes old.known.entries new.known.entries number before × (new.out ≡ old.out - 1)
Replaces number before (Some after) old new = Becomes old.known.entries new.known.entries number before after × (new.out ≡ old.out)

-- and the rest stays
pub record Puts (number : ℕ) (before : Known) (after : Option Known) (old new : Lane) : Type 0 where
  pub replaces : Replaces number before after old new
  pub sent : new.sent ≡ old.sent
  pub room : new.known.room ≡ old.known.room

-- an order is sent, or an entry turns as a note says
abbrev pub Keeps : ℕ → ℕ → Note ℕ → Lane → Lane → Type 0
Keeps cap number (Sent name order) old new = Sends cap number order old new
Keeps cap number note old new = (before : Known) × (at old.known.entries number ≡ Some before) × ((after : Option Known) × Turns before note after × Puts number before after old new)
