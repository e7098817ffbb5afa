-- The rule of the board, which holds between any two steps of its seats.
use Rattle.std.specs.Prelude.{◌≡◌, ℕ, ◌+◌, ◌*◌, ◌<◌, true, List, [], ◌∷◌, length, Option}
use Rattle.atomic_blocks.specs.Cells.{State, Cell, row_at}
use Rattle.base_words.specs.declared.order.Order.{Order}
use Rattle.base_words.specs.declared.order.Outcome.{Outcome}
use Rattle.link_ends.specs.Whole.{IsLink}
use Rattle.link_ends.specs.declared.plain.Whole.{Whole}
use Rattle.link_board.specs.Cells.{AreMarked, AreInPlace}
use Rattle.link_board.specs.Views.{AreTold}
use Rattle.link_board.specs.declared.board.Known.{Known}
use Rattle.link_board.specs.declared.board.Terms.{Terms}
use Rattle.link_board.specs.Held.{Content}

module _ {J T : Type 0} where
  -- the link is of these terms
  pub record IsOfTerms (link : Whole J T) (terms : Terms J T) : Type 0 where
    pub from : link.from ≡ terms.from
    pub to : link.to ≡ terms.to
    pub base : link.base ≡ terms.base
    pub capacity : link.capacity ≡ terms.capacity

  -- the rows are the gate's, of one cell, and that of the cells, of which there are enough for all orders that may be outstanding
  pub record AreLaid (terms : Terms J T) (gate : Cell (Content J T)) (cells : List (Cell (Content J T))) (state : State (Content J T) (Known J T)) : Type 0 where
    pub rows : state.rows ≡ row_at terms.gate.ptr (gate ∷ []) ∷ row_at terms.cells.ptr cells ∷ []
    pub len : length cells ≡ terms.len
    pub enough : (turn : ℕ) → turn < terms.capacity → (terms.gap + 1) * turn < terms.len
    pub some : 0 < terms.len

  -- There is a link that keeps the law of links. The words of the cells tell what has no outcome yet, the cells hold it, and each seat knows its
  -- part of it; one seat is the sender's and one the receiver's. What was got counts as credited here: a credit takes no step, so no other
  -- seat can see it.
  pub record IsRing (fits : Order J → Outcome J T → Type 0) (ready : Order J → Type 0) (terms : Terms J T) (state : State (Content J T) (Known J T)) : Type 0 where
    pub link : Whole J T
    pub sender : ℕ
    pub receiver : ℕ
    pub out_sender : Option ℕ
    pub out_receiver : Option ℕ
    pub gate : Cell (Content J T)
    pub cells : List (Cell (Content J T))
    pub law : IsLink fits ready link
    pub credits : link.credited ≡ link.got
    pub terms_are : IsOfTerms link terms
    pub laid : AreLaid terms gate cells state
    pub gate_word : 0 < gate.word → link.shut ≡ true
    pub marked : AreMarked terms.gap link cells
    pub in_place : AreInPlace terms.gap link cells out_sender out_receiver
    pub views : AreTold link sender receiver out_sender out_receiver state.views
