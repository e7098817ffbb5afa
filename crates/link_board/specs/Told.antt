-- What each step tells the seat that makes it: of the step, the seat before, the word found, and the seat after.
use Rattle.std.specs.Prelude.{◌≡◌, ◌≢◌, ℕ, ◌+◌, ◌%◌, ◌^◌, ◌<◌, ◌≤◌, true, false, List, length, take, Some, None, slice_get}
use Rattle.atomic_blocks.specs.Cells.{Me, Step, me}
use Rattle.base_words.specs.Assembly.{IsPrefix}
use Rattle.base_words.specs.declared.order.Order.{Order}
use Rattle.base_words.specs.declared.order.Outcome.{Outcome}
use Rattle.link_ends.specs.Ends.{AreOf, AreReady, Joined}
use Rattle.link_ends.specs.declared.ends.Outward.{Outward}
use Rattle.link_ends.specs.declared.ends.Inward.{Inward}
use Rattle.link_board.specs.After.{with_sent, with_closed, with_got, with_taken, with_shut, with_given, with_away}
use Rattle.link_board.specs.Cells.{gate_bit, number_before}
use Rattle.link_board.specs.Held.{Content, of_order, of_outcome}
use Rattle.link_board.specs.declared.board.Known.{Known}

-- a seat: what it knows, and the cell that is out with it
abbrev pub Seated : Type 0 → Type 0 → Type 0
Seated J T = Me (Content J T) (Known J T)

module _ {J T : Type 0} where
  -- the seat with another view, with and without the cell of this step out
  abbrev pub with_view : Seated J T → Known J T → Seated J T
  with_view old view = me view old.hand old.spare

  abbrev pub holding : Step → Seated J T → Known J T → Content J T → Seated J T
  holding step old view content = me (with_away view (Some step.index)) (Some (step.at, step.index, content)) old.spare

  abbrev pub resting : Seated J T → Known J T → Seated J T
  resting old view = me (with_away view None) None old.spare

  -- the cell of this step is out, with this content
  abbrev pub Holds : Step → Seated J T → Content J T → Type 0
  Holds step old content = old.hand ≡ Some (step.at, step.index, content)

  -- lend: where the top bit was 0, the cell of the next order is out, and the word was its number; otherwise the gate is shut
  pub record LendsOrder (step : Step) (old : Seated J T) (found : ℕ) (new : Seated J T) : Type 0 where
    pub clear : found < 2 ^ 63
        → (found ≡ number_before old.view.out.seen old.view.out.capacity (length old.view.out.sent)) × (new ≡ holding step old old.view None)
    pub shut : 2 ^ 63 ≤ found → new ≡ with_view old (with_closed old.view)

  -- accept: where the word was as expected, the gate was open, the order in the cell is sent, and the cell is home; otherwise the gate is shut
  pub record Accepts (step : Step) (old : Seated J T) (found : ℕ) (new : Seated J T) : Type 0 where
    pub hit : found ≡ step.first
        → (old.view.out.closed ≡ false) × ((order : Order J) → Holds step old (of_order order) → new ≡ resting old (with_sent old.view order))
    pub miss : found ≢ step.first → new ≡ with_view old (with_closed old.view)

  -- probe: where the word of the gate is 0, nothing is learned; otherwise the gate is shut
  pub record Probes (step : Step) (old : Seated J T) (found : ℕ) (new : Seated J T) : Type 0 where
    pub zero : found ≡ 0 → new ≡ old
    pub shut : found ≢ 0 → new ≡ with_view old (with_closed old.view)

  -- home: the cell that was out holds nothing, and is home
  abbrev pub Homes : Step → Seated J T → ℕ → Seated J T → Type 0
  Homes step old found new = Holds step old None → new ≡ resting old old.view

  -- the sender sees as many outcomes or more, each of an order that it sent
  pub record SeesOutcomes (fits : Order J → Outcome J T → Type 0) (out : Outward J T) (seen : List (ℕ × Outcome J T)) : Type 0 where
    pub longer : IsPrefix out.seen seen
    pub got_seen : out.got ≤ length seen
    pub few : length seen ≤ length out.sent
    pub named : AreOf fits out.base out.sent seen

  -- the next outcome was seen, its number in the word, and its cell is out
  pub record LiftedOutcome (fits : Order J → Outcome J T → Type 0) (step : Step) (old : Seated J T) (found : ℕ) (new : Seated J T) : Type 0 where
    pub seen : List (ℕ × Outcome J T)
    pub outcome : Outcome J T
    pub sees : SeesOutcomes fits old.view.out seen
    pub last : length seen ≡ old.view.out.got + 1
    pub here : slice_get seen old.view.out.got ≡ Some (found % 2 ^ 63, outcome)
    pub lifted : new ≡ holding step old (with_got old.view seen (old.view.out.got + 1)) (of_outcome outcome)

  -- lift an outcome: where the word is 0, it isn't given yet
  pub record LiftsOutcome (fits : Order J → Outcome J T → Type 0) (step : Step) (old : Seated J T) (found : ℕ) (new : Seated J T) : Type 0 where
    pub zero : found ≡ 0 → SeesOutcomes fits old.view.out old.view.out.seen × (new ≡ old)
    pub more : found ≢ 0 → LiftedOutcome fits step old found new

  -- gather: what was seen before is of orders that were sent
  abbrev pub Gathers : (Order J → Outcome J T → Type 0) → Seated J T → Seated J T → Type 0
  Gathers fits old new = SeesOutcomes fits old.view.out old.view.out.seen × (new ≡ old)

  -- the receiver sees as many orders or more, and no more once the gate is shut
  pub record SeesOrders (ready : Order J → Type 0) (inward : Inward J T) (seen : List (Order J)) : Type 0 where
    pub longer : IsPrefix inward.seen seen
    pub final : inward.shut ≡ true → seen ≡ inward.seen
    pub taken_seen : inward.taken ≤ length seen
    pub numbered : inward.base + length seen < 2 ^ 63
    pub room : length seen ≤ length inward.given + inward.capacity
    pub ready_orders : AreReady ready seen

  -- the next order was seen, and its cell is out; where all that was seen before is taken, it is the last that was seen
  pub record LiftedOrder (ready : Order J → Type 0) (step : Step) (old : Seated J T) (new : Seated J T) : Type 0 where
    pub seen : List (Order J)
    pub order : Order J
    pub sees : SeesOrders ready old.view.inward seen
    pub here : slice_get seen old.view.inward.taken ≡ Some order
    pub last : length old.view.inward.seen ≡ old.view.inward.taken → length seen ≡ old.view.inward.taken + 1
    pub lifted : new ≡ holding step old (with_taken old.view seen (old.view.inward.taken + 1)) (of_order order)

  -- lift an order: where the word isn't 0, all orders that were sent were taken
  pub record LiftsOrder (ready : Order J → Type 0) (step : Step) (old : Seated J T) (found : ℕ) (new : Seated J T) : Type 0 where
    pub none : found ≢ 0 → SeesOrders ready old.view.inward old.view.inward.seen × (length old.view.inward.seen ≡ old.view.inward.taken) × (new ≡ old)
    pub more : found ≡ 0 → LiftedOrder ready step old new

  -- lend back: the cell of the next outcome is out
  abbrev pub LendsBack : Step → Seated J T → ℕ → Seated J T → Type 0
  LendsBack step old found new = new ≡ holding step old old.view None

  -- give: the outcome in the cell is given under the number that was stored, and the cell is home
  abbrev pub Gives : Step → Seated J T → ℕ → Seated J T → Type 0
  Gives step old found new = (number : ℕ) (outcome : Outcome J T) → step.first ≡ number + gate_bit old.view.inward.shut
      → Holds step old (of_outcome outcome) → new ≡ resting old (with_given old.view number outcome)

  -- one more order was seen than before
  pub record SawOrder (ready : Order J → Type 0) (old : Seated J T) (new : Seated J T) : Type 0 where
    pub seen : List (Order J)
    pub sees : SeesOrders ready old.view.inward seen
    pub one : length seen ≡ length old.view.inward.seen + 1
    pub saw : new ≡ with_view old (with_taken old.view seen old.view.inward.taken)

  -- look: where the word is 0, one more order was sent; otherwise the word is the number of the next order's cell, without the top bit
  pub record Looks (ready : Order J → Type 0) (old : Seated J T) (found : ℕ) (new : Seated J T) : Type 0 where
    pub none : found ≢ 0 → (found ≡ number_before old.view.inward.given old.view.inward.capacity (length old.view.inward.seen)) × (found < 2 ^ 63) × (new ≡ old)
    pub more : found ≡ 0 → SawOrder ready old new

  -- mark: where the word was as expected, no other order will come; otherwise one more order was sent
  pub record Marks (ready : Order J → Type 0) (step : Step) (old : Seated J T) (found : ℕ) (new : Seated J T) : Type 0 where
    pub hit : found ≡ step.first → SeesOrders ready old.view.inward old.view.inward.seen × (new ≡ with_view old (with_shut old.view old.view.inward.seen))
    pub miss : found ≢ step.first → SawOrder ready old new

  -- seal: no other order will come
  abbrev pub Seals : (Order J → Type 0) → Seated J T → Seated J T → Type 0
  Seals ready old new = SeesOrders ready old.view.inward old.view.inward.seen × (new ≡ with_view old (with_shut old.view old.view.inward.seen))

  -- a load by a seat that knows both ends: they are the ends of one link
  pub record Compares (fits : Order J → Outcome J T → Type 0) (old : Seated J T) (new : Seated J T) : Type 0 where
    pub same : new ≡ old
    pub joined : Joined old.view.out old.view.inward
    pub outcomes : AreOf fits old.view.out.base (take old.view.inward.taken old.view.out.sent) old.view.inward.given
