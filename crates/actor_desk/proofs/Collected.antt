-- A lane after a collection, as the call tells of its end.
use Rattle.std.proofs.Common.{◌≡◌, ℕ, ◌+◌, ◌<◌, List, Some, None, refl, sym, ap, subst, ◌∙◌, arith}
use Rattle.base_words.specs.declared.order.Order.{Order}
use Rattle.base_words.specs.declared.order.Outcome.{Outcome}
use Rattle.link_ends.specs.declared.ends.Outward.{Outward}
use Rattle.link_ends.specs.Calls.{Collects}
use Rattle.link_ends.specs.Ends.{AreOf, SoundOut}
use Rattle.actor_desk.specs.Held.{at, Removes, Becomes}
use Rattle.actor_desk.specs.Lanes.{Lane, IsLaneOf, IsJustGot}
use Rattle.actor_desk.specs.declared.entry.Entry.{Entry}
use Rattle.actor_desk.specs.declared.entry.Entry.TheVariants.{Pending, Detached, Collected}
use Rattle.actor_desk.proofs.Collections.{IsLaneOf-seen, IsLaneOf-kept, IsLaneOf-dropped, IsLaneOf-redeemed, IsLaneOf-detached, next_not_none, next_not_collected}

-- nothing was found
pub IsLaneOf-none : {J T : Type 0} {fits : Order J → Outcome J T → Type 0} {lane : Lane J T} {out later : Outward J T} {credited after : ℕ} → IsLaneOf fits lane out credited
    → after ≡ credited → SoundOut later after → AreOf fits later.base later.sent later.seen → Collects out later None → IsLaneOf fits lane later after
IsLaneOf-none {fits = fits} {lane} {out} {later} {credited} {after} l same sound named collects =
    let sound' : SoundOut (record out { seen = later.seen }) credited = subst (λ k. SoundOut (record out { seen = later.seen }) k) same (subst (λ o. SoundOut o after) collects.0 sound) in
    let named' : AreOf fits out.base out.sent later.seen = subst (λ o. AreOf fits o.base o.sent later.seen) collects.0 named in
    subst (λ o. IsLaneOf fits lane o after) (sym collects.0)
    (subst (λ k. IsLaneOf fits lane (record out { seen = later.seen }) k) (sym same) (IsLaneOf-seen fits lane out credited l later.seen collects.1 named' sound'))

-- an outcome that was just got, at the lane as the call read it
module _ {J T : Type 0} {fits : Order J → Outcome J T → Type 0} {was lane : Lane J T} (is : was ≡ lane) {later : Outward J T} {credited number : ℕ} {outcome : Outcome J T} (got : IsJustGot fits lane later credited number outcome) where
  j : IsJustGot fits was later credited number outcome
  j = subst (λ lane. IsJustGot fits lane later credited number outcome) (sym is) got

  abbrev shown : Outward J T
  shown = record j.out { seen = later.seen; got = j.out.got + 1 }

  sound-shown : SoundOut shown credited
  sound-shown = subst (λ o. SoundOut o credited) j.collects.0 j.sound

  named-shown : AreOf fits j.out.base j.out.sent later.seen
  named-shown = subst (λ o. AreOf fits o.base o.sent later.seen) j.collects.0 j.named

  -- the number waits
  pub not_none : ¬ (at was.entries number ≡ None)
  not_none = next_not_none fits was j.out credited j.lane_of later.seen j.collects.1 named-shown number outcome j.collects.2

  pub not_collected : (other : Outcome J T) → ¬ (at was.entries number ≡ Some (Collected other))
  not_collected other = next_not_collected fits was j.out credited j.lane_of later.seen j.collects.1 named-shown number outcome j.collects.2 other

  module _ {entries : List (ℕ × Entry J T)} {room : ℕ} (same_room : room ≡ was.room) where
    -- it is kept
    pub IsLaneOf-collected : Becomes was.entries entries number Pending (Collected outcome) → IsLaneOf fits (record was { entries = entries; room = room }) later credited
    IsLaneOf-collected becomes =
        subst (λ o. IsLaneOf fits (record was { entries = entries; room = room }) o credited) (sym j.collects.0)
        (IsLaneOf-kept fits was j.out credited j.lane_of later.seen j.collects.1 named-shown number outcome j.collects.2 sound-shown (record was { entries = entries; room = room }) becomes same_room refl refl)

    -- it is dropped, and its place is free
    pub IsLaneOf-let_go : Removes was.entries entries number Detached → {last : Outward J T} → last ≡ later → {after : ℕ} → after ≡ credited + 1 → IsLaneOf fits (record was { entries = entries; room = room }) last after
    IsLaneOf-let_go removes {last} last_is {after} one_more =
        let count : later.got ≡ j.out.got + 1 = ap (λ (o : Outward J T). o.got) j.collects.0 in
        let earned : credited < later.got = j.earned in
        subst (λ o. IsLaneOf fits (record was { entries = entries; room = room }) o after) (sym (last_is ∙ j.collects.0))
        (subst (λ k. IsLaneOf fits (record was { entries = entries; room = room }) shown k) (sym one_more)
        (IsLaneOf-dropped fits was j.out credited j.lane_of later.seen j.collects.1 named-shown number outcome j.collects.2 sound-shown (omega arith) (record was { entries = entries; room = room }) removes same_room refl refl))

-- a lane after a redemption or a detachment, as the call tells of its end
module _ {J T : Type 0} {fits : Order J → Outcome J T → Type 0} {was lane : Lane J T} (is : was ≡ lane) {out : Outward J T} {credited : ℕ} (l : IsLaneOf fits lane out credited) where
  its_lane : IsLaneOf fits was out credited
  its_lane = subst (λ lane. IsLaneOf fits lane out credited) (sym is) l

  module _ (number : ℕ) {entries : List (ℕ × Entry J T)} {room : ℕ} (same_room : room ≡ was.room) where
    pub IsLaneOf-gone : (outcome : Outcome J T) → Removes was.entries entries number (Collected outcome) → {later : Outward J T} → later ≡ out → {after : ℕ} → after ≡ credited + 1 →
        IsLaneOf fits (record was { entries = entries; room = room }) later after
    IsLaneOf-gone outcome removes {later} same {after} one_more =
        subst (λ o. IsLaneOf fits (record was { entries = entries; room = room }) o after) (sym same)
        (subst (λ k. IsLaneOf fits (record was { entries = entries; room = room }) out k) (sym one_more) (IsLaneOf-redeemed fits was out credited its_lane (record was { entries = entries; room = room }) number outcome removes same_room refl refl))

    pub IsLaneOf-waits_for_none : Becomes was.entries entries number Pending Detached → IsLaneOf fits (record was { entries = entries; room = room }) out credited
    IsLaneOf-waits_for_none becomes = IsLaneOf-detached fits was out credited its_lane (record was { entries = entries; room = room }) number becomes same_room refl refl
