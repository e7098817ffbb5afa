-- One lane and one end change, and the others stay.
use Rattle.std.proofs.Common.{◌≡◌, ◌≢◌, inl, inr, ℕ, zero, suc, ◌^◌, ◌<◌, List, [], ◌∷◌, length, get_or, set, Some, refl, sym, ap, subst, ◌∙◌, arith}
use Rattle.std.specs.Prelude.{slice_get, replicate}
use Rattle.std.proofs.lemmas.List.{length-set, get_or-set_same, get_or-set_other, length-replicate, get_or-replicate}
use Rattle.std.proofs.lemmas.Option.{slice_get-get_or, slice_get_within, get_or_from_slice_get}
use Rattle.std.proofs.lemmas.Bool.Decides.{eqb_tells}
use Rattle.base_words.specs.declared.order.Order.{Order}
use Rattle.base_words.specs.declared.order.Outcome.{Outcome}
use Rattle.link_ends.specs.declared.ends.Outward.{Outward}
use Rattle.link_ends.specs.Whole.{fresh, out_of}
use Rattle.actor_desk.specs.Lanes.{Lane, IsLaneOf, IsUnused, fresh_lane}
use Rattle.actor_desk.specs.Desks.{Desk, AreEndsOf, AreUnused, AtCore, fresh_desk}
use Rattle.actor_desk.proofs.Lanes.{IsLaneOf-fresh}

module _ {A : Type 0} where
  pub found : (items : List A) (i : ℕ) (a : A) → i < length items → a ≡ get_or items i a → slice_get items i ≡ Some a
  found items i a low is = slice_get-get_or items i a low ∙ ap Some (sym is)

  -- what stands at the place that was changed
  pub changed : (items : List A) (i j : ℕ) (a b : A) → slice_get (set items i a) j ≡ Some b → j ≡ i → b ≡ a
  changed items i j a b there same =
      let low : j < length (set items i a) = slice_get_within (set items i a) j b there in
      let within : j < length items = subst (λ n. j < n) (length-set items i a) low in
      let is : get_or (set items i a) j b ≡ b = get_or_from_slice_get (set items i a) j b b there in
      sym is ∙ (ap (λ k. get_or (set items i a) k b) same ∙ get_or-set_same items i a b (subst (λ k. k < length items) same within))

  -- what stands at another place
  pub unchanged : (items : List A) (i j : ℕ) (a b : A) → slice_get (set items i a) j ≡ Some b → j ≢ i → slice_get items j ≡ Some b
  unchanged items i j a b there other =
      let low : j < length (set items i a) = slice_get_within (set items i a) j b there in
      let within : j < length items = subst (λ n. j < n) (length-set items i a) low in
      let is : get_or (set items i a) j b ≡ b = get_or_from_slice_get (set items i a) j b b there in
      slice_get-get_or items j b within ∙ ap Some (sym (get_or-set_other items i j a b other) ∙ is)

-- the lane and the end of a core, which were taken out of the desk and its ends
module _ {J T E : Type 0} {fits : Order J → Outcome J T → Type 0} {out : E → Outward J T} {credited : E → ℕ} {desk told : Desk J T} (is : desk ≡ told) {ends : List E} (are : AreEndsOf fits out credited told ends) where
  -- the later ones are put back
  pub set-core : (core : ℕ) (later : Lane J T) (now : E) → IsLaneOf fits later (out now) (credited now) → AreEndsOf fits out credited (record { actor = desk.actor; lanes = set desk.lanes core later }) (set ends core now)
  set-core core later now belong = record {
    count = length-set ends core now ∙ (are.count ∙ (ap (λ (desk : Desk J T). length desk.lanes) (sym is) ∙ sym (length-set desk.lanes core later)));
    each = λ i. λ other. λ its_end. λ lane_there. λ end_there. elim (eqb_tells i core) [
      | inl same ↦
          subst (λ l. IsLaneOf fits l (out its_end) (credited its_end)) (sym (changed desk.lanes core i later other lane_there same.1))
          (subst (λ e. IsLaneOf fits later (out e) (credited e)) (sym (changed ends core i now its_end end_there same.1)) belong)
      | inr away ↦ are.each i other its_end (ap (λ (desk : Desk J T). slice_get desk.lanes i) (sym is) ∙ unchanged desk.lanes core i later other lane_there away.1) (unchanged ends core i now its_end end_there away.1)
    ];
  }

  module _ {core : ℕ} (low : core < length told.lanes) {lane : Lane J T} {end : E} (lane_is : lane ≡ get_or desk.lanes core lane) (end_is : end ≡ get_or ends core end) where
    pub lane_there : slice_get told.lanes core ≡ Some lane
    lane_there = found told.lanes core lane low (lane_is ∙ ap (λ (desk : Desk J T). get_or desk.lanes core lane) is)

    end_there : slice_get ends core ≡ Some end
    end_there = found ends core end (subst (λ n. core < n) (sym are.count) low) end_is

    -- they belong to each other
    pub at-core : IsLaneOf fits lane (out end) (credited end)
    at-core = are.each core lane end lane_there end_there

    pub AtCore-set : (later : Lane J T) (now : E) {step : Lane J T → Lane J T → E → E → Type 0} → step lane later end now
        → AtCore told (record { actor = desk.actor; lanes = set desk.lanes core later }) ends (set ends core now) core step
    AtCore-set later now steps = record {
      lane = lane;
      later = later;
      end = end;
      now = now;
      lane_was = lane_there;
      end_was = end_there;
      lanes_are = ap (λ (desk : Desk J T). record desk { lanes = set desk.lanes core later }) is;
      ends_are = refl;
      steps = steps;
    }

module _ {J T E : Type 0} (fits : Order J → Outcome J T → Type 0) (out : E → Outward J T) (credited : E → ℕ) where
  -- ends on which nothing was done belong to a desk just opened
  pub AreEndsOf-fresh : (actor cores cap : ℕ) (ends : List E) → AreUnused out credited cores cap ends → AreEndsOf fits out credited (fresh_desk actor cores cap) ends
  AreEndsOf-fresh actor cores cap ends unused = record {
    count = unused.count ∙ sym (length-replicate cores (fresh_lane cap));
    each = λ core. λ lane. λ end. λ lane_there. λ end_there.
        let low : core < length (replicate cores (fresh_lane cap)) = slice_get_within (replicate cores (fresh_lane cap)) core lane lane_there in
        let within : core < cores = subst (λ n. core < n) (length-replicate cores (fresh_lane cap)) low in
        let is : lane ≡ fresh_lane cap = sym (get_or_from_slice_get (replicate cores (fresh_lane cap)) core lane lane lane_there) ∙ get_or-replicate cores core (fresh_lane cap) lane within in
        subst (λ l. IsLaneOf fits l (out end) (credited end)) (sym is) (IsLaneOf-fresh fits cap (out end) (credited end) (unused.each core end end_there));
  }

module _ {J T E : Type 0} (out : E → Outward J T) (credited : E → ℕ) where
  -- a link just opened, as its sender's end sees it
  pub IsUnused-fresh : (from to cap base : ℕ) (end : E) → base < 2 ^ 63 → out end ≡ out_of (fresh from to cap base) → credited end ≡ 0 → IsUnused cap (out end) (credited end)
  IsUnused-fresh from to cap base end low is none =
      rw (is, none) (
        refl,
        refl,
        refl,
        refl,
        refl,
        record {
          numbered = omega arith;
          room = omega arith;
          credits = omega arith;
          behind = omega arith;
          within = omega arith;
        },
      )

  -- the only end
  pub AreUnused-one : (cap : ℕ) (end : E) → IsUnused cap (out end) (credited end) → AreUnused out credited 1 cap (end ∷ [])
  AreUnused-one cap end unused = record { count = refl; each = one }
    where
      one : (core : ℕ) (its : E) → slice_get (end ∷ []) core ≡ Some its → IsUnused cap (out its) (credited its)
      one zero its there = let same : end ≡ its = cc in subst (λ e. IsUnused cap (out e) (credited e)) same unused
      one (suc core) its there = absurd cc
