-- The outside actor at its seat: its journal beside its ends, and what a call on one of them leaves.
use Rattle.std.specs.Prelude.{◌≡◌, ℕ, ◌<◌, length}
use Rattle.base_words.specs.declared.order.Order.{Order}
use Rattle.base_words.specs.declared.order.Outcome.{Outcome}
use Rattle.actor_desk.specs.Tickets.{HasLane}
use Rattle.link_ring.specs.Ends.{SameEnds, out_at, EndsView}
use Rattle.actor_seat.specs.Linked.{Grows}
use Rattle.actor_seat.specs.Seats.{UsesOut}
use Rattle.actor_desk.specs.Ends.{IsOutOf}
use Rattle.actor_desk.specs.Submissions.{DeskView, IsWritten, terms_of_desk}

-- the outside actor: its journal and its ends
pub record OutsideView (J T : Type 0) : Type 0 where
  pub desk : DeskView J T
  pub ends : EndsView J T

module _ {J T : Type 0} where
  -- the outside actor's journal is written by the rules, and it sends on an end to each core
  pub record IsOutside (view : OutsideView J T) : Type 0 where
    pub outs_are : length view.ends.outs ≡ view.desk.cores
    pub written : IsWritten (terms_of_desk view.desk) view.desk.journal.notes
    pub outs : (core : ℕ) → core < view.desk.cores → IsOutOf core view.desk (out_at core view.ends).out (out_at core view.ends).credited

module _ {J T : Type 0} (fits : Order J → Outcome J T → Type 0) where
  -- The journal is written by the rules and stands beside the ends, one for each core. It has a lane for each core, which knows what is outstanding there.
  pub record IsSeatedOutside (view : OutsideView J T) : Type 0 where
    pub outside : IsOutside view
    pub lanes : (core : ℕ) → core < view.desk.cores → HasLane fits core view.desk (out_at core view.ends).out (out_at core view.ends).credited
    pub lanes_are : length view.desk.lanes ≡ view.desk.cores

  -- a call on the end to one core: no note is lost, nothing is passed on, the other ends are as they were, and all are of the same links
  pub record UsesOutside (core : ℕ) (old new : OutsideView J T) : Type 0 where
    pub seated : IsSeatedOutside new
    pub rest : new.desk ≡ record old.desk { journal = record old.desk.journal { notes = new.desk.journal.notes }; lanes = new.desk.lanes }
    pub grows : Grows old.desk.journal.notes new.desk.journal.notes
    pub uses : UsesOut core old.ends new.ends
    pub same : SameEnds old.ends new.ends
