-- A core that was just opened, over ends of links that were just opened.
use Rattle.actor_seat.proofs.Names.{ap, AreEndsOf, arith, CreatesSince, desk_of, EndsView, Fits, fresh, fresh_has_lane, get_or_from_slice_get, HasLane, in_at, inward_of, IsFreshOut, IsInOf, IsLaneOf, IsLinked, IsOpenedOver}
use Rattle.actor_seat.proofs.Names.{IsOpening, IsOutOf, IsRecorded, IsUnused, IsUnused-fresh, JobId, Journal, Meaning, no_out, opened_beside, opened_desk, Option, Order, order_taken, out_of}
use Rattle.actor_seat.proofs.Names.{Outcome, PollsAreOwed, RecordedView, refl, Seen, seen_by, Sending, slice_get, slice_get_within, Some, subst, sym, Terms, terms_at, ℕ, [], ◌+◌, ◌<◌, ◌∙◌, ◌∷◌, ◌≡◌, ◌≤◌}
use Rattle.base_words.specs.declared.note.Note.TheVariants.{Created}
use Rattle.actor_seat.proofs.Along.{ins_along, outs_along, seat_along, seat_same}

module _ {J T : Type 0} (meaning : Meaning J T) (terms : Terms) (seen : Seen J) (under : JobId → Option (Order J)) where
  -- a creation settles no poll
  opening_owed : (notes : Journal T) → IsOpening notes → PollsAreOwed meaning terms seen under notes
  opening_owed [] opening = tt
  opening_owed (Created queue weight ∷ before) opening = (tt, opening_owed before opening)
  opening_owed (_ ∷ before) opening = absurd opening

module _ {J T : Type 0} where
  -- a fresh end to a core, and one from an actor
  pub fresh_out : (actor core cores cap room burst : ℕ) → core < cores → IsOutOf {J = J} {T = T} core (opened_desk actor cores cap room burst) (out_of (fresh actor core cap 0)) 0
  fresh_out actor core cores cap room burst low = record {
    known = low;
    from = refl;
    to = refl;
    base = refl;
    capacity = refl;
    accepted = refl;
    outstanding = refl;
    behind = omega arith;
    collected = refl;
  }

  fresh_in : (sender core cores cap room burst : ℕ) → sender ≤ cores → IsInOf {J = J} {T = T} sender (opened_beside core cores cap room burst) (inward_of (fresh sender core cap 0))
  fresh_in sender core cores cap room burst known = record {
    known = known;
    from = refl;
    to = refl;
    base = refl;
    capacity = refl;
    gate = refl;
    taken = refl;
    behind = omega arith;
    given = refl;
    ungiven = tt;
    orders = λ name order from took. cc;
  }

  module _ {meaning : Meaning J T} where
    pub created_none : (view : RecordedView J T) (count : ℕ) → IsOpening view.journal.notes → IsRecorded meaning view → CreatesSince meaning count view view
    created_none view count opening sound = record {
      opening = opening;
      few = omega arith;
      seat = seat_same view;
      ins = λ sender. record { each = λ inward is. is };
      outs = λ core. record { each = λ out credited is. is };
      lanes = refl;
      out = refl;
      sound = sound;
    }

    pub created_more : (one two count : ℕ) (old middle new : RecordedView J T) → one + two ≤ count → CreatesSince meaning one old middle → CreatesSince meaning two middle new →
        CreatesSince meaning count old new
    created_more one two count old middle new within first next = record {
      opening = next.opening;
      few = omega (arith, first.few, next.few, within);
      seat = seat_along old middle new first.seat next.seat;
      ins = λ sender. ins_along old middle new sender (first.ins sender) (next.ins sender);
      outs = outs_along (desk_of old) (desk_of middle) (desk_of new) first.outs next.outs;
      lanes = next.lanes ∙ first.lanes;
      out = next.out ∙ first.out;
      sound = next.sound;
    }

    module _ (core cores cap burst room count : ℕ) (recorded : RecordedView J T) (ends : EndsView J T) (created : CreatesSince meaning count (opened_beside core cores cap room burst) recorded)
        (are : AreEndsOf cores cap ends) (number : ends.number ≡ core) where
      opened_end : (to : ℕ) (end : Sending J T) → slice_get ends.outs to ≡ Some end → IsFreshOut ends.number to cap end × (to < cores)
      opened_end to end there =
          let low = slice_get_within ends.outs to end there in
          (subst (IsFreshOut ends.number to cap) (get_or_from_slice_get ends.outs to end no_out there) (are.fresh.outs to low), omega (arith, low, are.outs))

      opened_lane : (fits : Order J → Outcome J T → Type 0) (to : ℕ) (end : Sending J T) → slice_get ends.outs to ≡ Some end → HasLane fits to (desk_of recorded) end.out end.credited
      opened_lane fits to end there =
          let is = opened_end to end there in
          let unused : IsUnused cap end.out end.credited = IsUnused-fresh (λ (end : Sending J T). end.out) (λ end. end.credited) ends.number to cap 0 end (omega arith) is.0.out is.0.credited in
          let has : HasLane fits to (opened_desk core cores cap room burst) end.out 0 = fresh_has_lane fits to core cores cap room burst end.out is.1 (subst (IsUnused cap end.out) is.0.credited unused) in
          record { lane = has.lane; is = ap (λ lanes. slice_get lanes to) created.lanes ∙ has.is; lane_of = subst (IsLaneOf fits has.lane end.out) (sym is.0.credited) has.lane_of }

      opened_out : (to : ℕ) (end : Sending J T) → slice_get ends.outs to ≡ Some end → IsOutOf to (desk_of recorded) end.out end.credited
      opened_out to end there =
          let is = opened_end to end there in
          (created.outs to).each _ _
          (subst (λ out. IsOutOf to (opened_desk core cores cap room burst) out end.credited) (sym (is.0.out ∙ ap (λ number. out_of (fresh number to cap 0)) number))
          (subst (IsOutOf to (opened_desk core cores cap room burst) (out_of (fresh core to cap 0))) (sym is.0.credited) (fresh_out core to cores cap room burst is.1)))

      opened_in : (sender : ℕ) → sender ≤ recorded.core.cores → IsInOf sender recorded (in_at sender ends).inward
      opened_in sender known =
          let there : sender ≤ cores = omega (arith, known, created.seat.cores) in
          let is = are.fresh.ins sender (omega (arith, there, are.ins)) in
          (created.ins sender).each _
          (subst (IsInOf sender (opened_beside core cores cap room burst)) (sym (is.inward ∙ ap (λ number. inward_of (fresh sender number cap 0)) number)) (fresh_in sender core cores cap room burst there))

      pub opened_linked : IsLinked meaning (record { recorded = recorded; ends = ends })
      opened_linked = record {
        recorded = created.sound;
        at_rest = created.out;
        beside = record {
          number = number ∙ sym created.seat.number;
          ins_are = are.ins ∙ ap (λ cores. cores + 1) (sym created.seat.cores);
          outs = record { count = are.outs ∙ sym created.seat.cores; beside = opened_out; lanes = opened_lane (Fits meaning) };
          ins = opened_in;
        };
        owed = opening_owed meaning (terms_at recorded) (seen_by (λ (end : Sending J T). end.out) ends.outs) (order_taken recorded.took) recorded.journal.notes created.opening;
      }

      pub opened_terms : terms_at recorded ≡ record { actor = core; cores = cores; cap = cap; burst = burst }
      opened_terms = λ i. record { actor = created.seat.number i; cores = created.seat.cores i; cap = created.seat.cap i; burst = created.seat.burst i }

      pub opened_over : IsOpenedOver cores cap burst room ends (record { recorded = recorded; ends = ends })
      opened_over = record {
        of = record {
          terms = opened_terms ∙ ap (λ actor. record { actor = actor; cores = cores; cap = cap; burst = burst }) (sym number);
          room_is = created.seat.room;
          none_passed = created.seat.passed;
        };
        ends_are = refl;
      }
