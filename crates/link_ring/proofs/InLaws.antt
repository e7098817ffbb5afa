-- What is true of a receiver's end stays true when an outcome is given and when an order is taken.
use Rattle.std.proofs.Common.{◌≡◌, ◌≢◌, ℕ, ◌+◌, ◌-◌, ◌<◌, ◌≤◌, List, [], ◌∷◌, ◌++◌, length, length-append, sym, ap, ◌∙◌, subst, arith, Some}
use Rattle.std.specs.Prelude.{slice_get}
use Rattle.std.specs.Arc.{arc_value}
use Rattle.std.proofs.lemmas.Option.{slice_get_within}
use Rattle.base_words.specs.declared.order.Order.{Order}
use Rattle.base_words.specs.declared.order.Outcome.{Outcome}
use Rattle.link_ends.specs.Calls.{MayGive}
use Rattle.link_ends.specs.Ends.{SoundIn}
use Rattle.link_ends.proofs.Numbers.{AreNamed-append, AreNamed-wider, AreNamed-room}
use Rattle.link_board.specs.After.{with_taken, with_given}
use Rattle.link_board.specs.Cells.{place_of}
use Rattle.link_board.specs.Seats.{IsReceiver}
use Rattle.link_board.specs.Told.{SeesOrders}
use Rattle.link_board.specs.declared.board.Known.{Known}
use Rattle.link_ring.specs.RingEnds.{IsInward}
use Rattle.link_ring.specs.declared.ring_in.RingIn.TheInside.{Inside}

module _ {J T L : Type 0} (end : Inside J T L) (is : IsInward end) where
  -- fewer outcomes are given than orders taken
  pub IsInward-awaits : (fits : Order J → Outcome J T → Type 0) (number : ℕ) (outcome : Outcome J T) → MayGive fits end.seat.me.view.inward number outcome
      → length end.seat.me.view.inward.given < end.seat.me.view.inward.taken
  IsInward-awaits fits number outcome may =
      AreNamed-room end.seat.me.view.inward.base end.seat.me.view.inward.taken end.seat.me.view.inward.given number outcome may.0 may.1 may.3 is.sound.named

  -- where not as many wait for their outcomes as may, fewer do
  IsInward-free : end.taken - end.given ≢ end.capacity → end.taken - end.given < end.capacity
  IsInward-free free =
      let within : length end.seat.me.view.inward.given ≤ end.seat.me.view.inward.taken = is.sound.within in
      let behind : end.seat.me.view.inward.taken ≤ length end.seat.me.view.inward.seen = is.sound.behind in
      let room : length end.seat.me.view.inward.seen ≤ length end.seat.me.view.inward.given + end.seat.me.view.inward.capacity = is.sound.room in
      let capacity_is : end.seat.me.view.inward.capacity ≡ end.capacity = is.capacity_is in
      let taken_is : end.seat.me.view.inward.taken ≡ end.taken = is.taken_is in
      let given_is : length end.seat.me.view.inward.given ≡ end.given = is.given_is in
      omega arith

  -- with another seat at the same board, as an end has it
  module _ (other : Inside J T L) (stays : (other.seat.rows ≡ end.seat.rows) × (other.seat.heap ≡ end.seat.heap)) (seat : IsReceiver other.seat.me) where
    -- after an outcome was given
    pub IsInward-given : (fits : Order J → Outcome J T → Type 0) (number : ℕ) (outcome : Outcome J T) (next : ℕ) → MayGive fits end.seat.me.view.inward number outcome
        → other.seat.me.view ≡ with_given end.seat.me.view number outcome → next ≡ place_of (arc_value end.board).gap (arc_value end.board).lines.key.capacity (end.given + 1)
        → IsInward (record end { seat = other.seat; given = end.given + 1; next_outcome = next })
    IsInward-given fits number outcome next may now follows =
        let awaits : length end.seat.me.view.inward.given < end.seat.me.view.inward.taken = IsInward-awaits fits number outcome may in
        let longer : length (end.seat.me.view.inward.given ++ (number, outcome) ∷ []) ≡ length end.seat.me.view.inward.given + 1 = length-append end.seat.me.view.inward.given ((number, outcome) ∷ []) in
        let room : length end.seat.me.view.inward.seen ≤ length end.seat.me.view.inward.given + end.seat.me.view.inward.capacity = is.sound.room in
        let behind : end.seat.me.view.inward.taken ≤ length end.seat.me.view.inward.seen = is.sound.behind in
        let capacity_is : end.seat.me.view.inward.capacity ≡ end.capacity = is.capacity_is in
        let sound : SoundIn (record end.seat.me.view.inward { given = end.seat.me.view.inward.given ++ (number, outcome) ∷ [] }) = record {
          numbered = is.sound.numbered;
          behind = behind;
          within = omega arith;
          room = omega arith;
          named = AreNamed-append end.seat.me.view.inward.base end.seat.me.view.inward.taken end.seat.me.view.inward.given number outcome may.0 may.1 may.3 is.sound.named;
        } in record {
          rows_are = stays.0 ∙ is.rows_are;
          heap_is = stays.1 ∙ is.heap_is;
          cells_are = is.cells_are;
          seat = seat;
          from_is = ap (λ (v : Known J T). v.inward.from) now ∙ is.from_is;
          to_is = ap (λ (v : Known J T). v.inward.to) now ∙ is.to_is;
          base_is = ap (λ (v : Known J T). v.inward.base) now ∙ is.base_is;
          capacity_is = ap (λ (v : Known J T). v.inward.capacity) now ∙ is.capacity_is;
          taken_is = ap (λ (v : Known J T). v.inward.taken) now ∙ is.taken_is;
          given_is = ap (λ (v : Known J T). length v.inward.given) now ∙ (longer ∙ ap (λ (n : ℕ). n + 1) is.given_is);
          shut_is = ap (λ (v : Known J T). v.inward.shut) now ∙ is.shut_is;
          open_seen = λ still. ap (λ (v : Known J T). length v.inward.seen) now ∙ is.open_seen still;
          shut_seen = λ over. ap (λ (v : Known J T). length v.inward.seen) now ∙ is.shut_seen over;
          next_order_is = is.next_order_is;
          next_outcome_is = follows ∙ ap (λ (n : ℕ). place_of (arc_value end.board).gap n (end.given + 1)) is.cells_are;
          sound = subst (λ (v : Known J T). SoundIn v.inward) (sym now) sound;
        }

    -- after an order was taken
    pub IsInward-taken : (ready : Order J → Type 0) (order : Order J) (next : ℕ) → SeesOrders ready end.seat.me.view.inward other.seat.me.view.inward.seen
        → slice_get other.seat.me.view.inward.seen end.seat.me.view.inward.taken ≡ Some order
        → (length end.seat.me.view.inward.seen ≡ end.seat.me.view.inward.taken → length other.seat.me.view.inward.seen ≡ end.seat.me.view.inward.taken + 1)
        → other.seat.me.view ≡ with_taken end.seat.me.view other.seat.me.view.inward.seen (end.seat.me.view.inward.taken + 1) → end.taken - end.given ≢ end.capacity → next ≡ place_of (arc_value end.board).gap (arc_value end.board).lines.key.capacity (end.taken + 1)
        → IsInward (record end { seat = other.seat; taken = end.taken + 1; next_order = next })
    IsInward-taken ready order next sees here last now free follows =
        let there : end.seat.me.view.inward.taken < length other.seat.me.view.inward.seen = slice_get_within other.seat.me.view.inward.seen end.seat.me.view.inward.taken order here in
        let owed : length end.seat.me.view.inward.given ≤ end.seat.me.view.inward.taken = is.sound.within in
        let some : end.taken - end.given < end.capacity = IsInward-free free in
        let sound : SoundIn (record end.seat.me.view.inward { seen = other.seat.me.view.inward.seen; taken = end.seat.me.view.inward.taken + 1 }) = record {
          numbered = sees.numbered;
          behind = omega arith;
          within = omega arith;
          room = sees.room;
          named = AreNamed-wider end.seat.me.view.inward.base end.seat.me.view.inward.taken (end.seat.me.view.inward.taken + 1) end.seat.me.view.inward.given (omega arith) is.sound.named;
        } in record {
          rows_are = stays.0 ∙ is.rows_are;
          heap_is = stays.1 ∙ is.heap_is;
          cells_are = is.cells_are;
          seat = seat;
          from_is = ap (λ (v : Known J T). v.inward.from) now ∙ is.from_is;
          to_is = ap (λ (v : Known J T). v.inward.to) now ∙ is.to_is;
          base_is = ap (λ (v : Known J T). v.inward.base) now ∙ is.base_is;
          capacity_is = ap (λ (v : Known J T). v.inward.capacity) now ∙ is.capacity_is;
          taken_is = ap (λ (v : Known J T). v.inward.taken) now ∙ ap (λ (n : ℕ). n + 1) is.taken_is;
          given_is = ap (λ (v : Known J T). length v.inward.given) now ∙ is.given_is;
          shut_is = ap (λ (v : Known J T). v.inward.shut) now ∙ is.shut_is;
          open_seen = λ still. last (is.open_seen still ∙ sym is.taken_is) ∙ ap (λ (n : ℕ). n + 1) is.taken_is;
          shut_seen = λ over. ap (λ (l : List (Order J)). length l) (sees.final (is.shut_is ∙ over)) ∙ is.shut_seen over;
          next_order_is = follows ∙ ap (λ (n : ℕ). place_of (arc_value end.board).gap n (end.taken + 1)) is.cells_are;
          next_outcome_is = is.next_outcome_is;
          sound = subst (λ (v : Known J T). SoundIn v.inward) (sym now) sound;
        }
