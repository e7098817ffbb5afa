-- The cells of a board: what the word of each says, and what it holds.
use Rattle.std.specs.Prelude.{◌≡◌, ℕ, ◌+◌, ◌-◌, ◌*◌, ◌%◌, ◌^◌, ◌<◌, ◌≤◌, ◌⊎◌, Bool, true, false, List, length, Option, Some, None, slice_get, nat_lt, if◌then◌else◌}
use Rattle.atomic_blocks.specs.Cells.{Cell, cell_in}
use Rattle.base_words.specs.declared.order.Order.{Order}
use Rattle.base_words.specs.declared.order.Outcome.{Outcome}
use Rattle.link_ends.specs.declared.plain.Whole.{Whole}
use Rattle.link_board.specs.Held.{Content, of_order, of_outcome}

-- The cell of an index, for the order at that index of those sent and for the outcome at that index of those given. Between the cells of two
-- indexes that follow each other lie `gap` cells that are never used; after the last cell comes the first again.
abbrev pub place_of : ℕ → ℕ → ℕ → ℕ
place_of gap capacity index = (gap + 1) * (index % capacity)

-- the top bit of a word, for a gate that is shut
abbrev pub gate_bit : Bool → ℕ
gate_bit true = 2 ^ 63
gate_bit false = 0

-- the word has this number, and its top bit is set only if the gate is shut
abbrev pub IsMarked : Bool → ℕ → ℕ → Type 0
IsMarked shut number word = (word ≡ number) ⊎ ((word ≡ number + 2 ^ 63) × (shut ≡ true))

module _ {J T : Type 0} where
  -- a cell with this order, or with this outcome, if there is one
  abbrev pub held_order : Option (Order J) → Content J T
  held_order (Some order) = of_order order
  held_order None = None

  abbrev pub held_outcome : Option (ℕ × Outcome J T) → Content J T
  held_outcome (Some outcome) = of_outcome outcome.1
  held_outcome None = None

  -- what the cell of each index holds: its order, its outcome, or nothing
  abbrev pub order_at : List (Order J) → ℕ → Content J T
  order_at orders index = held_order (slice_get orders index)

  abbrev pub outcome_at : List (ℕ × Outcome J T) → ℕ → Content J T
  outcome_at outcomes index = held_outcome (slice_get outcomes index)

  abbrev pub nothing_at : ℕ → Content J T
  nothing_at index = None

  -- the number of an outcome's order; of no outcome it is 1
  abbrev pub number_of : Option (ℕ × Outcome J T) → ℕ
  number_of (Some outcome) = outcome.0
  number_of None = 1

  -- the number in the word of an index's cell until its order is sent: that of the outcome which went through the cell before, and at first 1
  abbrev pub number_before : List (ℕ × Outcome J T) → ℕ → ℕ → ℕ
  number_before given capacity index = if nat_lt index capacity then 1 else number_of (slice_get given (index - capacity))

  -- the word and the content of a cell
  abbrev pub word_at : List (Cell (Content J T)) → ℕ → ℕ
  word_at cells place = (cell_in cells place).word

  abbrev pub home_at : List (Cell (Content J T)) → ℕ → Option (Content J T)
  home_at cells place = (cell_in cells place).home

  module _ (gap : ℕ) where
    -- the word of an order that has no outcome yet is 0; each other word has a number, and once the gate is shut, the word that the next order would find has the top bit
    pub record AreMarked (link : Whole J T) (cells : List (Cell (Content J T))) : Type 0 where
      pub pending : (index : ℕ) → length link.given ≤ index → index < length link.sent → word_at cells (place_of gap link.capacity index) ≡ 0
      pub settled : (index : ℕ) → length link.sent ≤ index → index < length link.given + link.capacity
          → IsMarked link.shut (number_before link.given link.capacity index) (word_at cells (place_of gap link.capacity index))
      pub closed : link.shut ≡ true → length link.sent < length link.given + link.capacity → 2 ^ 63 ≤ word_at cells (place_of gap link.capacity (length link.sent))

    -- the cells of the indexes from `low` to below `high` are at home with their contents
    abbrev pub AreHome : List (Cell (Content J T)) → ℕ → ℕ → ℕ → (ℕ → Content J T) → Type 0
    AreHome cells capacity low high content = (index : ℕ) → low ≤ index → index < high → home_at cells (place_of gap capacity index) ≡ Some (content index)

    -- the cells of these indexes hold nothing, and are at home unless they are the one that is away
    abbrev pub AreFree : List (Cell (Content J T)) → Option ℕ → ℕ → ℕ → ℕ → Type 0
    AreFree cells away capacity low high =
        (index : ℕ) → low ≤ index → index < high → (away ≡ Some (place_of gap capacity index)) ⊎ (home_at cells (place_of gap capacity index) ≡ Some None)

    -- An order lies in its cell until it is taken, and an outcome until it is got. All other cells hold nothing; the sender and the receiver
    -- may each have one of them out: the receiver one of the orders that have no outcome yet, the sender one of its next orders.
    pub record AreInPlace (link : Whole J T) (cells : List (Cell (Content J T))) (out_sender out_receiver : Option ℕ) : Type 0 where
      pub orders : AreHome cells link.capacity link.taken (length link.sent) (order_at link.sent)
      pub outcomes : AreHome cells link.capacity link.got (length link.given) (outcome_at link.given)
      pub answered : AreFree cells out_receiver link.capacity (length link.given) link.taken
      pub free : AreFree cells out_sender link.capacity (length link.sent) (link.got + link.capacity)
