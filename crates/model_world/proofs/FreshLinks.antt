-- A link that was just opened, beside actors that have noted nothing.
use Rattle.model_world.proofs.LinkWords.{ℕ, ◌<◌, ◌≤◌, refl, arith, none-some, Order, Outcome, out_of, inward_of, IsOutOf, IsInOf, opened_desk, opened_beside}
use Rattle.link_ends.specs.Whole.{fresh}
use Rattle.link_ends.specs.Ends.{SoundOut}
use Rattle.actor_desk.proofs.LaneEnds.{fresh_has_lane}
use Rattle.model_world.proofs.LinkSteps.{IsSenderOn}

-- the ends of a link that was just opened, beside actors that have noted nothing
module _ {J T : Type 0} (fits : Order J → Outcome J T → Type 0) (sender core cores cap room burst : ℕ) where
  out_of-opened : core < cores → IsOutOf {J = J} {T = T} core (opened_desk sender cores cap room burst) (out_of (fresh sender core cap 0)) 0
  out_of-opened known =
      record { known = known; from = refl; to = refl; base = refl; capacity = refl; behind = omega arith; accepted = refl; outstanding = refl; collected = refl }

  sound_at_opening : SoundOut {J = J} {T = T} (out_of (fresh sender core cap 0)) 0
  sound_at_opening = record { numbered = omega arith; room = omega arith; credits = omega arith; behind = omega arith; within = omega arith }

  pub fresh_sender : core < cores → IsSenderOn fits core (opened_desk sender cores cap room burst) (fresh sender core cap 0)
  fresh_sender known = record {
    out = out_of-opened known;
    lane = fresh_has_lane fits core sender cores cap room burst (out_of (fresh sender core cap 0)) known (refl, refl, refl, refl, refl, sound_at_opening);
  }

module _ {J T : Type 0} (sender core cores cap room burst : ℕ) where
  pub in_of-opened : sender ≤ cores → IsInOf {J = J} {T = T} sender (opened_beside core cores cap room burst) (inward_of (fresh sender core cap 0))
  in_of-opened known = record {
    known = known;
    from = refl;
    to = refl;
    base = refl;
    capacity = refl;
    behind = omega arith;
    gate = refl;
    taken = refl;
    given = refl;
    ungiven = tt;
    orders = λ name order from at. absurd (none-some order at);
  }
