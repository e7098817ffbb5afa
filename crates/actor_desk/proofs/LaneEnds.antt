-- The lane of a core beside the end of its link, as the end sees more, and at the opening.
use Rattle.actor_desk.proofs.Names.{ℕ, ◌<◌, Some, sym, ◌∙◌, ap, subst, arith, replicate, length-replicate}
use Rattle.actor_desk.proofs.Names.{get_or-replicate, slice_get-get_or, Order, Outcome, Outward, IsLaneOf}
use Rattle.actor_desk.proofs.Names.{IsUnused, fresh_lane, IsLaneOf-more, IsLaneOf-fresh, DeskView, opened_desk}
use Rattle.actor_desk.proofs.Names.{ShowsMore, HasLane}

module _ {J T : Type 0} (fits : Order J → Outcome J T → Type 0) (core : ℕ) where
  -- seeing more changes nothing
  pub sees_more_lane : (desk : DeskView J T) (out later : Outward J T) (credited : ℕ) → ShowsMore out later → HasLane fits core desk out credited → HasLane fits core desk later credited
  sees_more_lane desk out later credited more has = record {
    lane = has.lane;
    is = has.is;
    lane_of = subst (λ end. IsLaneOf fits has.lane end credited) (sym more.rest) (IsLaneOf-more fits has.lane out credited later.seen later.closed more.seen has.lane_of);
  }

  -- an end on which nothing was done is beside the lane of a desk that was just opened
  pub fresh_has_lane : (actor cores cap room burst : ℕ) (out : Outward J T) → core < cores → IsUnused cap out 0 → HasLane fits core (opened_desk actor cores cap room burst) out 0
  fresh_has_lane actor cores cap room burst out known unused = record {
    lane = fresh_lane cap;
    is =
        slice_get-get_or (replicate cores (fresh_lane cap)) core (fresh_lane cap) (omega (arith, known, length-replicate cores (fresh_lane {J = J} {T = T} cap)))
        ∙ ap Some (get_or-replicate cores core (fresh_lane cap) (fresh_lane cap) known);
    lane_of = IsLaneOf-fresh fits cap out 0 unused;
  }
