-- The two seats between their calls.
use Rattle.std.specs.Prelude.{◌≡◌, ◌+◌, ◌^◌, ◌<◌, ◌≤◌, true, false, length, None}
use Rattle.base_words.specs.Assembly.{IsPrefix}
use Rattle.link_board.specs.After.{with_watched}
use Rattle.link_board.specs.Told.{Seated, with_view}

module _ {J T : Type 0} where
  -- no cell is out with the seat
  pub record IsAtRest (seat : Seated J T) : Type 0 where
    pub hand : seat.hand ≡ None
    pub spare : seat.spare ≡ None
    pub away : seat.view.away ≡ None

  -- the sender's seat, which has got each outcome that it saw; at most `capacity` orders are outstanding
  pub record IsSender (seat : Seated J T) : Type 0 where
    pub sends : seat.view.sends ≡ true
    pub alone : seat.view.takes ≡ false
    pub rests : IsAtRest seat
    pub small : seat.view.out.capacity < 2 ^ 16
    pub got_all : length seat.view.out.seen ≡ seat.view.out.got
    pub behind : seat.view.out.got ≤ length seat.view.out.sent
    pub few : length seat.view.out.sent ≤ seat.view.out.got + seat.view.out.capacity

  -- the receiver's seat, which has seen each order that it took; at most `capacity` of those have no outcome yet
  pub record IsReceiver (seat : Seated J T) : Type 0 where
    pub takes : seat.view.takes ≡ true
    pub alone : seat.view.sends ≡ false
    pub rests : IsAtRest seat
    pub small : seat.view.inward.capacity < 2 ^ 16
    pub behind : length seat.view.inward.given ≤ seat.view.inward.taken
    pub saw : seat.view.inward.taken ≤ length seat.view.inward.seen
    pub few : seat.view.inward.taken ≤ length seat.view.inward.given + seat.view.inward.capacity

  -- the seat has seen more orders, and may have shut the gate
  pub record Watches (old : Seated J T) (new : Seated J T) : Type 0 where
    pub longer : IsPrefix old.view.inward.seen new.view.inward.seen
    pub same : new ≡ with_view old (with_watched old.view new.view.inward.seen new.view.inward.shut)
