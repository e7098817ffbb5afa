-- What an actor knows of its submissions: a lane for each core, beside its journal and the ends of its links.
use Rattle.std.specs.Prelude.{◌≡◌, ◌≢◌, ℕ, ◌<◌, ◌≤◌, Bool, true, false, Option, Some, None, is_some, length, slice_get}
use Rattle.base_words.specs.declared.order.Order.{Order}
use Rattle.base_words.specs.declared.order.Outcome.{Outcome}
use Rattle.base_words.specs.Filters.{accepted_orders}
use Rattle.base_words.specs.Journal.{Journal}
use Rattle.base_words.specs.Outstanding.{is_gone, is_outstanding}
use Rattle.link_ends.specs.declared.ends.Outward.{Outward}
use Rattle.actor_desk.specs.Held.{at}
use Rattle.actor_desk.specs.Lanes.{Lane, IsLaneOf}
use Rattle.actor_desk.specs.declared.entry.Entry.{Entry}
use Rattle.actor_desk.specs.declared.entry.Entry.TheVariants as entry
use Rattle.actor_desk.specs.Submissions.{DeskView, IsWritten, terms_of_desk}
use Rattle.actor_desk.specs.Ends.{IsOutOf, KeepsOut, name_of}

module _ {J T : Type 0} where
  -- nobody waits for what stands so in a lane
  abbrev pub is_let_go : Option (Entry J T) → Bool
  is_let_go None = true
  is_let_go (Some entry.Pending) = false
  is_let_go (Some entry.Detached) = true
  is_let_go (Some (entry.Collected outcome)) = false

  -- a lane counts what was accepted; of each number it says whether it is outstanding and whether somebody waits for it, as the notes do
  pub record KnowsLane (actor core : ℕ) (notes : Journal T) (lane : Lane J T) : Type 0 where
    pub count : lane.count ≡ length (accepted_orders core notes)
    pub last : lane.last ≡ lane.count
    pub gone : (number : ℕ) → 0 < number → number ≤ lane.count → is_gone (name_of actor core number) notes ≡ is_let_go (at lane.entries number)
    pub waits : (number : ℕ) → 0 < number → number ≤ lane.count → is_outstanding (name_of actor core number) notes ≡ is_some (at lane.entries number)
    pub unsent : (number : ℕ) → lane.count < number → is_gone (name_of actor core number) notes ≡ false

  -- there is a lane for each core, and it knows what the journal says
  pub record KnowsLanes (desk : DeskView J T) : Type 0 where
    pub cores_are : length desk.lanes ≡ desk.cores
    pub each : (core : ℕ) (lane : Lane J T) → slice_get desk.lanes core ≡ Some lane → KnowsLane desk.actor core desk.journal.notes lane

  -- the lane of a core is what it should be beside the end of their link
  pub record HasLane (fits : Order J → Outcome J T → Type 0) (core : ℕ) (desk : DeskView J T) (out : Outward J T) (credited : ℕ) : Type 0 where
    pub lane : Lane J T
    pub is : slice_get desk.lanes core ≡ Some lane
    pub lane_of : IsLaneOf fits lane out credited

  -- a step on the link to one core leaves the journal as it should be, the end and the lane of that core beside it, and those of the other cores as they were
  pub record StaysBeside (fits : Order J → Outcome J T → Type 0) (core : ℕ) (old new : DeskView J T) (out : Outward J T) (credited : ℕ) : Type 0 where
    pub beside : IsOutOf core new out credited
    pub lane : HasLane fits core new out credited
    pub others : (other : ℕ) → other ≢ core → KeepsOut other old new
    pub lanes : (other : ℕ) → other ≢ core → slice_get new.lanes other ≡ slice_get old.lanes other
    pub rest : new ≡ record old { journal = record old.journal { notes = new.journal.notes }; lanes = new.lanes }
    pub written : IsWritten (terms_of_desk new) new.journal.notes
    pub known : KnowsLanes new
