-- One actor's submissions to all cores, beside the out ends that each call is lent.
use Rattle.std.specs.Prelude.{◌≡◌, ℕ, ◌<◌, List, length, Some, slice_get, slice_set, replicate}
use Rattle.base_words.specs.declared.order.Order.{Order}
use Rattle.base_words.specs.declared.order.Outcome.{Outcome}
use Rattle.base_words.specs.declared.names.JobId.{JobId}
use Rattle.link_ends.specs.declared.ends.Outward.{Outward}
use Rattle.actor_desk.specs.Lanes.{Lane, IsLaneOf, IsUnused, fresh_lane}

-- whose submissions they are, and a lane for each core
pub record Desk (J T : Type 0) : Type 0 where
  pub actor : ℕ
  pub lanes : List (Lane J T)

module _ {J T : Type 0} where
  -- a desk of which no number was given
  abbrev pub fresh_desk : ℕ → ℕ → ℕ → Desk J T
  fresh_desk actor cores cap = record { actor = actor; lanes = replicate cores (fresh_lane cap) }

  -- the name is one of this actor's, and there is a core of its number
  abbrev pub IsFor : Desk J T → JobId → Type 0
  IsFor desk name = (name.from ≡ desk.actor) × (name.to < length desk.lanes)

  -- each lane is what it should be beside the end of its core
  pub record AreEndsOf {E : Type 0} (fits : Order J → Outcome J T → Type 0) (out : E → Outward J T) (credited : E → ℕ) (desk : Desk J T) (ends : List E) : Type 0 where
    pub count : length ends ≡ length desk.lanes
    pub each : (core : ℕ) (lane : Lane J T) (end : E) → slice_get desk.lanes core ≡ Some lane → slice_get ends core ≡ Some end → IsLaneOf fits lane (out end) (credited end)

  -- an end for each core, on which nothing was done
  pub record AreUnused {E : Type 0} (out : E → Outward J T) (credited : E → ℕ) (cores cap : ℕ) (ends : List E) : Type 0 where
    pub count : length ends ≡ cores
    pub each : (core : ℕ) (end : E) → slice_get ends core ≡ Some end → IsUnused cap (out end) (credited end)

  -- Of one core the lane and its end changed as the step says, and of no other.
  pub record AtCore {E : Type 0} (old new : Desk J T) (before after : List E) (core : ℕ) (step : Lane J T → Lane J T → E → E → Type 0) : Type 0 where
    pub lane : Lane J T
    pub later : Lane J T
    pub end : E
    pub now : E
    pub lane_was : slice_get old.lanes core ≡ Some lane
    pub end_was : slice_get before core ≡ Some end
    pub lanes_are : new ≡ record old { lanes = slice_set old.lanes core later }
    pub ends_are : after ≡ slice_set before core now
    pub steps : step lane later end now
