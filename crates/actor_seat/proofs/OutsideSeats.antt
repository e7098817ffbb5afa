-- The outside actor while one of its ends is lent, what a call on it leaves, and what it is at its opening.
use Rattle.actor_seat.proofs.Names.{ap, AreFresh, arith, DeskView, EndsView, Fits, fresh, fresh_has_lane, fresh_lane, get_or, get_or-set_same, get_or_default, get_or_from_slice_get, Grows, HasLane, IsOutOf, IsSeatedOutside, IsUnused}
use Rattle.actor_seat.proofs.Names.{IsUnused-fresh, IsWritten, Journal, length, length-replicate, Meaning, no_out, opened_desk, Order, out_at, out_of, Outcome, OutsideView, PassesOn, refl, Refused, Result, Sending, slice_get, slice_get-get_or}
use Rattle.actor_seat.proofs.Names.{slice_get_within, Some, StaysBeside, subst, sym, terms_of_desk, UsesOutside, with_out, ℕ, ◌+◌, ◌<◌, ◌∙◌, ◌≡◌, ◌≤◌}
use Rattle.actor_seat.proofs.LentOut.{AreOuts, LendsOut, out_beside, out_ends, out_lane, out_uses, outs_now}
use Rattle.actor_seat.proofs.Opened.{fresh_out}
use Rattle.actor_seat.proofs.Passed.{desk_passed, outs_again, same_notes}

module _ {J T : Type 0} (meaning : Meaning J T) (desk : DeskView J T) (ends : EndsView J T) where
  -- each end is beside the desk and the lane of its core
  pub outs_of : IsSeatedOutside (Fits meaning) (record { desk = desk; ends = ends }) → AreOuts meaning desk ends.outs
  outs_of seated =
      let is : (core : ℕ) (end : Sending J T) → slice_get ends.outs core ≡ Some end → out_at core ends ≡ end = λ core end there. get_or_from_slice_get ends.outs core end no_out there in
      let known : (core : ℕ) (end : Sending J T) → slice_get ends.outs core ≡ Some end → core < desk.cores = λ core end there. omega (arith, slice_get_within ends.outs core end there, seated.outside.outs_are) in
      record {
        count = seated.outside.outs_are;
        beside = λ core end there. subst (λ (end : Sending J T). IsOutOf core desk end.out end.credited) (is core end there) (seated.outside.outs core (known core end there));
        lanes = λ core end there. subst (λ (end : Sending J T). HasLane (Fits meaning) core desk end.out end.credited) (is core end there) (seated.lanes core (known core end there));
      }

  -- and the other way round
  pub seated_of : IsWritten (terms_of_desk desk) desk.journal.notes → length desk.lanes ≡ desk.cores → AreOuts meaning desk ends.outs → IsSeatedOutside (Fits meaning) (record { desk = desk; ends = ends })
  seated_of written lanes_are outs =
      let there : (core : ℕ) → core < desk.cores → slice_get ends.outs core ≡ Some (out_at core ends) = λ core known. slice_get-get_or ends.outs core no_out (omega (arith, known, outs.count)) in
      record {
        outside = record { outs_are = outs.count; written = written; outs = λ core known. outs.beside core (out_at core ends) (there core known) };
        lanes = λ core known. outs.lanes core (out_at core ends) (there core known);
        lanes_are = lanes_are;
      }

module _ {J T : Type 0} (meaning : Meaning J T) where
  -- the end to a core, as the outside actor of this view lends it by a number that is the core's
  pub record LendsAt (view : OutsideView J T) (desk : DeskView J T) (ends : EndsView J T) (core at : ℕ) (before : Sending J T) : Type 0 where
    pub seated : IsSeatedOutside (Fits meaning) (record { desk = desk; ends = ends })
    pub is : record { desk = desk; ends = ends } ≡ view
    pub known : core < view.desk.cores
    pub here : at ≡ core
    pub lent : before ≡ out_at at ends

module _ {J T : Type 0} {meaning : Meaning J T} {view : OutsideView J T} {desk : DeskView J T} {ends : EndsView J T} {core at : ℕ} {before : Sending J T} (lends : LendsAt meaning view desk ends core at before) where
  known_here : core < desk.cores
  known_here = omega (arith, lends.known, ap (λ view. view.desk.cores) lends.is)

  pub as_lent : LendsOut meaning core desk ends before
  as_lent = record { known = known_here; is = lends.lent ∙ ap (λ number. out_at number ends) lends.here; outs = outs_of meaning desk ends lends.seated }

  pub lent_beside : IsOutOf core desk before.out before.credited
  lent_beside = out_beside as_lent

  pub lent_lane : HasLane (Fits meaning) core desk before.out before.credited
  lent_lane = out_lane as_lent

  -- there is room to note all that it may show, if there is for the end to the core
  pub lent_room : length view.desk.journal.notes + length (out_at core view.ends).out.sent ≤ view.desk.journal.room + (out_at core view.ends).out.got → length desk.journal.notes + length before.out.sent ≤ desk.journal.room + before.out.got
  lent_room room =
      subst (λ (end : Sending J T). length desk.journal.notes + length end.out.sent ≤ desk.journal.room + end.out.got) (sym as_lent.is)
      (subst (λ view. length view.desk.journal.notes + length (out_at core view.ends).out.sent ≤ view.desk.journal.room + (out_at core view.ends).out.got) (sym lends.is) room)

  module _ (after : Sending J T) where
    abbrev put : EndsView J T
    put = with_out at after ends

    put_is : out_at core put ≡ after
    put_is = ap (λ number. out_at core (with_out number after ends)) lends.here ∙ get_or-set_same ends.outs core after no_out (omega (arith, known_here, lends.seated.outside.outs_are))

    -- what is so of the end as it was lent and as it came back is so of that to the core
    pub there_too : (fact : Sending J T → Sending J T → Type 0) → fact before after → fact (out_at core view.ends) (out_at core put)
    there_too fact holds = subst (λ view. fact (out_at core view.ends) (out_at core put)) lends.is (subst (λ was. fact was (out_at core put)) as_lent.is (subst (fact before) (sym put_is) holds))

    module _ {now : DeskView J T} (stays : StaysBeside (Fits meaning) core desk now after.out after.credited) where
      seated_here : IsSeatedOutside (Fits meaning) (record { desk = now; ends = with_out core after ends })
      seated_here = seated_of meaning now (with_out core after ends) stays.written stays.known.cores_are (outs_now as_lent after stays)

      -- it is seated as before
      pub seated_now : IsSeatedOutside (Fits meaning) (record { desk = now; ends = put })
      seated_now = subst (λ number. IsSeatedOutside (Fits meaning) (record { desk = now; ends = with_out number after ends })) (sym lends.here) seated_here

      pub uses_now : after.link ≡ before.link → Grows desk.journal.notes now.journal.notes → UsesOutside (Fits meaning) core view (record { desk = now; ends = put })
      uses_now link grows =
          subst (λ view. UsesOutside (Fits meaning) core view (record { desk = now; ends = put })) lends.is
          (subst (λ number. UsesOutside (Fits meaning) core (record { desk = desk; ends = ends }) (record { desk = now; ends = with_out number after ends })) (sym lends.here)
          (record { seated = seated_here; rest = stays.rest; grows = grows; uses = out_uses as_lent after; same = out_ends as_lent after link }))

-- the end to a core, as it is read
pub read_beside : {J T : Type 0} (meaning : Meaning J T) (desk : DeskView J T) (ends : EndsView J T) → IsSeatedOutside (Fits meaning) (record { desk = desk; ends = ends }) → (core at : ℕ) → core < desk.cores → at ≡ core →
    (end : Sending J T) → end ≡ get_or ends.outs at end → IsOutOf core desk end.out end.credited
read_beside meaning desk ends seated core at known here end is =
    let low : at < length ends.outs = omega (arith, known, here, seated.outside.outs_are) in
    let lends : LendsAt meaning (record { desk = desk; ends = ends }) desk ends core at end = record { seated = seated; is = refl; known = known; here = here; lent = is ∙ get_or_default ends.outs at end no_out low } in
    lent_beside lends

-- there is room to note all that the end to a core may show, if there is room for as many as a link holds
pub room_for_link : {J T : Type 0} {fits : Order J → Outcome J T → Type 0} (view : OutsideView J T) → IsSeatedOutside fits view → (core : ℕ) → core < view.desk.cores → length view.desk.journal.notes + view.desk.cap ≤ view.desk.journal.room →
    length view.desk.journal.notes + length (out_at core view.ends).out.sent ≤ view.desk.journal.room + (out_at core view.ends).out.got
room_for_link view seated core known room =
    let lane = (seated.lanes core known).lane_of in
    omega (arith, room, lane.sound.room, lane.sound.credits, (seated.outside.outs core known).capacity)

-- it is seated as before, whatever the sink answered
pub seated_passed : {J T S : Type 0} (meaning : Meaning J T) (has : S → Journal T) (refused : S → ℕ → Type 0) (old new : DeskView J T) (ends : EndsView J T) (before after : S) (answer : Result (Unit {0}) Refused) →
    PassesOn has refused old.journal before answer new.journal after → new ≡ record old { journal = new.journal } → IsSeatedOutside (Fits meaning) (record { desk = old; ends = ends }) → IsSeatedOutside (Fits meaning) (record { desk = new; ends = ends })
seated_passed {J} {T} {S} meaning has refused old new ends before after answer passes rest seated =
    let same = same_notes has refused old.journal new.journal before after answer passes in
    let is : new ≡ desk_passed new.journal.passed new.journal.room old = rest ∙ ap (λ notes. record old { journal = record { notes = notes; passed = new.journal.passed; room = new.journal.room } }) same in
    subst (λ (desk : DeskView J T). IsSeatedOutside (Fits meaning) (record { desk = desk; ends = ends })) (sym is)
    (seated_of meaning (desk_passed new.journal.passed new.journal.room old) ends seated.outside.written seated.lanes_are (outs_again new.journal.passed new.journal.room meaning old ends.outs (outs_of meaning old ends seated)))

-- a journal in which nothing is noted yet, over ends of links that were just opened
module _ {J T : Type 0} (cores cap burst room : ℕ) (desk : DeskView J T) (ends : EndsView J T) (opened : desk ≡ opened_desk cores cores cap room burst) (written : IsWritten (terms_of_desk desk) desk.journal.notes)
    (count : length ends.outs ≡ cores) (are : AreFresh cap cores ends) where
  outs_opened : (core : ℕ) → core < cores → IsOutOf core (opened_desk cores cores cap room burst) (out_at core ends).out (out_at core ends).credited
  outs_opened core known =
      let is = are.outs core (omega (arith, known, count)) in
      subst (λ out. IsOutOf core (opened_desk cores cores cap room burst) out (out_at core ends).credited) (sym is.out)
      (subst (IsOutOf core (opened_desk cores cores cap room burst) (out_of (fresh cores core cap 0))) (sym is.credited) (fresh_out cores core cores cap room burst known))

  lanes_opened : (fits : Order J → Outcome J T → Type 0) (core : ℕ) → core < cores → HasLane fits core (opened_desk cores cores cap room burst) (out_at core ends).out (out_at core ends).credited
  lanes_opened fits core known =
      let is = are.outs core (omega (arith, known, count)) in
      subst (λ credited. HasLane fits core (opened_desk cores cores cap room burst) (out_at core ends).out credited) (sym is.credited)
      (fresh_has_lane fits core cores cores cap room burst (out_at core ends).out known
      (subst (λ credited. IsUnused cap (out_at core ends).out credited) is.credited
      (IsUnused-fresh (λ (end : Sending J T). end.out) (λ (end : Sending J T). end.credited) cores core cap 0 (out_at core ends) (omega arith) is.out is.credited)))

  pub seated_fresh : (fits : Order J → Outcome J T → Type 0) → IsSeatedOutside fits (record { desk = desk; ends = ends })
  seated_fresh fits = record {
    outside = record {
      outs_are = count ∙ ap (λ desk. desk.cores) (sym opened);
      written = written;
      outs = subst (λ (desk : DeskView J T). (core : ℕ) → core < desk.cores → IsOutOf core desk (out_at core ends).out (out_at core ends).credited) (sym opened) outs_opened;
    };
    lanes = subst (λ (desk : DeskView J T). (core : ℕ) → core < desk.cores → HasLane fits core desk (out_at core ends).out (out_at core ends).credited) (sym opened) (lanes_opened fits);
    lanes_are = ap (λ desk. length desk.lanes) opened ∙ (length-replicate cores (fresh_lane cap) ∙ ap (λ desk. desk.cores) (sym opened));
  }
