-- What is true of the two ends of a ring at any time.
use Rattle.std.specs.Prelude.{◌≡◌, ℕ, true, false, List, [], ◌∷◌, length}
use Rattle.std.specs.Arc.{arc_value}
use Rattle.atomic_blocks.specs.Lent.{RowsId}
use Rattle.link_ends.specs.Ends.{SoundOut, SoundIn}
use Rattle.link_board.specs.Cells.{place_of}
use Rattle.link_board.specs.Seats.{IsSender, IsReceiver}
use Rattle.link_ring.specs.declared.ring_in.RingIn.TheInside as receiver
use Rattle.link_ring.specs.declared.ring_out.RingOut.TheInside as sender

-- rows by numbers; no two have the same
abbrev pub name_of : RowsId → List ℕ
name_of rows = rows.0 ∷ rows.1 ∷ []

module _ {J T L : Type 0} where
  -- a sender's end has the sender's seat at its board, and its numbers are those that the seat knows
  pub record IsOut (end : sender.Inside J T L) : Type 0 where
    pub rows_are : end.seat.rows ≡ (arc_value end.board).lines.id
    pub heap_is : end.seat.heap ≡ (arc_value end.board).lines.heap
    pub cells_are : (arc_value end.board).lines.key.capacity ≡ end.capacity
    pub seat : IsSender end.seat.me
    pub base_is : end.seat.me.view.out.base ≡ end.base
    pub capacity_is : end.seat.me.view.out.capacity ≡ end.capacity
    pub count_is : length end.seat.me.view.out.sent ≡ end.count
    pub collected_is : end.seat.me.view.out.got ≡ end.collected
    pub closed_is : end.seat.me.view.out.closed ≡ end.closed
    pub next_order_is : end.next_order ≡ place_of (arc_value end.board).gap end.capacity end.count
    pub next_outcome_is : end.next_outcome ≡ place_of (arc_value end.board).gap end.capacity end.collected
    pub sound : SoundOut end.seat.me.view.out end.credited

  -- a receiver's end has the receiver's seat at its board, and its numbers are those that the seat knows; it has seen all orders if it shut the gate,
  -- and otherwise those that it took
  pub record IsInward (end : receiver.Inside J T L) : Type 0 where
    pub rows_are : end.seat.rows ≡ (arc_value end.board).lines.id
    pub heap_is : end.seat.heap ≡ (arc_value end.board).lines.heap
    pub cells_are : (arc_value end.board).lines.key.capacity ≡ end.capacity
    pub seat : IsReceiver end.seat.me
    pub from_is : end.seat.me.view.inward.from ≡ end.from
    pub to_is : end.seat.me.view.inward.to ≡ end.to
    pub base_is : end.seat.me.view.inward.base ≡ end.base
    pub capacity_is : end.seat.me.view.inward.capacity ≡ end.capacity
    pub taken_is : end.seat.me.view.inward.taken ≡ end.taken
    pub given_is : length end.seat.me.view.inward.given ≡ end.given
    pub shut_is : end.seat.me.view.inward.shut ≡ end.shut
    pub open_seen : end.shut ≡ false → length end.seat.me.view.inward.seen ≡ end.taken
    pub shut_seen : end.shut ≡ true → length end.seat.me.view.inward.seen ≡ end.total
    pub next_order_is : end.next_order ≡ place_of (arc_value end.board).gap end.capacity end.taken
    pub next_outcome_is : end.next_outcome ≡ place_of (arc_value end.board).gap end.capacity end.given
    pub sound : SoundIn end.seat.me.view.inward
