-- The end to one core, as it is lent, and what a call on it leaves.
use Rattle.actor_seat.proofs.Names.{ap, AreOutsOf, arith, changed, collects_keep, CollectsFrom, CollectsOf, desk_of, DeskView, EndsView, eqb_tells, Err, Fits, get_or-set_other, get_or-set_same, GetsAll, HasLane, IfOk, inl, inr}
use Rattle.actor_seat.proofs.Names.{IsLinked, IsOutOf, IsRecorded, IsSameSeat, IsSeated, KeepsIn, length, length-append, length-set, LinkedView, List, Meaning, no_out, Ok, Order, out_at, out_used, Outward, RecordedView, refl, Result, SameEnds, seen_by}
use Rattle.actor_seat.proofs.Names.{seen_got, sees_more_owed, SeesNoLess, SendError, Sending, Sends, set, slice_get, slice_get-get_or, Some, StaysBeside, StaysLinked, subst, sym, unchanged, UsesOut, with_out, ℕ, ◌+◌, ◌<◌, ◌∙◌, ◌≡◌, ◌≤◌}
use Rattle.base_words.specs.declared.order.SendError.TheVariants.{Closed, Full, Spent, NoCore}
use Rattle.std.specs.Prelude.{Bool, true, false}
use Rattle.actor_desk.specs.Tickets.{GetsNext}
use Rattle.actor_seat.specs.Steps.{CollectsOne}
use Rattle.actor_seat.proofs.Adding.{Adds, collects_add, next_adds}
use Rattle.actor_seat.proofs.Posted.{resent_beside}
use Rattle.actor_seat.proofs.Seen.{out_put_sees, prefix_shorter}

module _ {J T : Type 0} (meaning : Meaning J T) where
  -- an end to each core, beside the desk and the lane of that core
  abbrev pub AreOuts : DeskView J T → List (Sending J T) → Type 0
  AreOuts desk outs = AreOutsOf (Fits meaning) (λ (end : Sending J T). end.out) (λ (end : Sending J T). end.credited) desk outs

  -- the end to a core as it is lent
  pub record LendsOut (core : ℕ) (desk : DeskView J T) (ends : EndsView J T) (before : Sending J T) : Type 0 where
    pub known : core < desk.cores
    pub is : before ≡ out_at core ends
    pub outs : AreOuts desk ends.outs

module _ {J T : Type 0} where
  -- a send sees no more than before
  pub sends_seen : (old : Outward J T) (credited : ℕ) (order : Order J) (new : Outward J T) (answer : Result ℕ (SendError J)) → Sends old credited order new answer → new.seen ≡ old.seen
  sends_seen old credited order new (Ok number) sends = ap (λ out. out.seen) sends.4
  sends_seen old credited order new (Err (Closed back final)) sends = ap (λ out. out.seen) sends.2
  sends_seen old credited order new (Err (Full back)) sends = ap (λ out. out.seen) sends.3
  sends_seen old credited order new (Err (Spent back)) sends = ap (λ out. out.seen) sends.4
  sends_seen old credited order new (Err (NoCore back)) sends = absurd sends

module _ {J T : Type 0} where
  -- a collection sees no less than before
  pub next_sees : (core : ℕ) (old new : DeskView J T) (out later : Outward J T) (found : Bool) → GetsNext core old new out later found → length out.seen ≤ length later.seen
  next_sees core old new out later true gets = prefix_shorter out.seen later.seen gets.2
  next_sees core old new out later false gets = prefix_shorter out.seen later.seen gets.2

module _ {J T : Type 0} {meaning : Meaning J T} {core : ℕ} {desk : DeskView J T} {ends : EndsView J T} {before : Sending J T} (lent : LendsOut meaning core desk ends before) where
  in_place : core < length ends.outs
  in_place = omega (arith, lent.known, lent.outs.count)

  pub out_there : slice_get ends.outs core ≡ Some before
  out_there = subst (λ end. slice_get ends.outs core ≡ Some end) (sym lent.is) (slice_get-get_or ends.outs core no_out in_place)

  -- what was sent on this end was sent on that to the core
  pub out_fits : {A E : Type 0} (answer : Result A E) (fact : Outward J T → A → Type 0) → IfOk answer (fact before.out) → IfOk answer (fact (out_at core ends).out)
  out_fits answer fact holds = subst (λ (end : Sending J T). IfOk answer (fact end.out)) lent.is holds

  pub out_beside : IsOutOf core desk before.out before.credited
  out_beside = lent.outs.beside core before out_there

  pub out_lane : HasLane (Fits meaning) core desk before.out before.credited
  out_lane = lent.outs.lanes core before out_there

  module _ (after : Sending J T) where
    out_now : out_at core (with_out core after ends) ≡ after
    out_now = get_or-set_same ends.outs core after no_out in_place

    -- what is done on this end is done on that to the core
    pub out_sends : (order : Order J) (answer : Result ℕ (SendError J)) → Sends before.out before.credited order after.out answer →
        Sends (out_at core ends).out (out_at core ends).credited order (out_at core (with_out core after ends)).out answer
    out_sends order answer sends =
        subst (λ (end : Sending J T). Sends end.out end.credited order (out_at core (with_out core after ends)).out answer) lent.is
        (subst (λ (end : Sending J T). Sends before.out before.credited order end.out answer) (sym out_now) sends)

    pub out_gets : GetsAll before.out after.out → GetsAll (out_at core ends).out (out_at core (with_out core after ends)).out
    out_gets gets =
        subst (λ (end : Sending J T). GetsAll end.out (out_at core (with_out core after ends)).out) lent.is
        (subst (λ (end : Sending J T). GetsAll before.out end.out) (sym out_now) gets)

    pub out_next : (desk now : DeskView J T) (found : Bool) → GetsNext core desk now before.out after.out found → GetsNext core desk now (out_at core ends).out (out_at core (with_out core after ends)).out found
    out_next desk now found gets =
        subst (λ (end : Sending J T). GetsNext core desk now end.out (out_at core (with_out core after ends)).out found) lent.is
        (subst (λ (end : Sending J T). GetsNext core desk now before.out end.out found) (sym out_now) gets)

    -- no other end changes
    pub out_uses : UsesOut core ends (with_out core after ends)
    out_uses = record { others = λ other away. get_or-set_other ends.outs core other after no_out away; rest = refl }

    pub out_ends : after.link ≡ before.link → SameEnds ends (with_out core after ends)
    out_ends link = out_used ends core after in_place (link ∙ ap (λ (end : Sending J T). end.link) lent.is)

    pub out_sees : length before.out.seen ≤ length after.out.seen → SeesNoLess ends (with_out core after ends)
    out_sees longer =
        let same : length before.out.seen ≡ length (out_at core ends).out.seen = ap (λ (end : Sending J T). length end.out.seen) lent.is in
        out_put_sees core ends after in_place (omega (arith, longer, same))

    module _ {now : DeskView J T} (stays : StaysBeside (Fits meaning) core desk now after.out after.credited) where
      pub outs_now : AreOuts meaning now (set ends.outs core after)
      outs_now = record {
        count = length-set ends.outs core after ∙ (lent.outs.count ∙ ap (λ desk. desk.cores) (sym stays.rest));
        beside = λ other its at. elim (eqb_tells other core) [
          | inl one ↦ subst (λ (end : Sending J T). IsOutOf other now end.out end.credited) (sym (changed ends.outs core other after its at one.1)) (subst (λ core. IsOutOf core now after.out after.credited) (sym one.1) stays.beside)
          | inr away ↦ (stays.others other away.1).each its.out its.credited (lent.outs.beside other its (unchanged ends.outs core other after its at away.1))
        ];
        lanes = λ other its at. elim (eqb_tells other core) [
          | inl one ↦
              subst (λ (end : Sending J T). HasLane (Fits meaning) other now end.out end.credited) (sym (changed ends.outs core other after its at one.1))
              (subst (λ core. HasLane (Fits meaning) core now after.out after.credited) (sym one.1) stays.lane)
          | inr away ↦
              let had = lent.outs.lanes other its (unchanged ends.outs core other after its at away.1) in
              record { lane = had.lane; is = stays.lanes other away.1 ∙ had.is; lane_of = had.lane_of }
        ];
      }

  -- an end that shows an outcome has a place
  pub next_few : (now : DeskView J T) (after : Sending J T) (found : Bool) → GetsNext core desk now before.out after.out found → length now.journal.notes ≤ length desk.journal.notes + desk.cap
  next_few now after true gets =
      let sound = out_lane.lane_of.sound in
      omega (arith, (next_adds core desk now before.out after.out true gets).few, ap (λ (out : Outward J T). out.got) gets.1, ap (λ (out : Outward J T). length out.sent) gets.1, gets.3, sound.room, sound.credits, out_beside.capacity)
  next_few now after false gets = omega (arith, ap (λ (desk : DeskView J T). length desk.journal.notes) gets.0)

module _ {J T : Type 0} (meaning : Meaning J T) where
  -- the end to a core, as the core of this view lends it by a number that is the core's
  pub record LendsOn (view : LinkedView J T) (recorded : RecordedView J T) (ends : EndsView J T) (core at : ℕ) (before : Sending J T) : Type 0 where
    pub seated : IsSeated meaning (record { recorded = recorded; ends = ends })
    pub is : record { recorded = recorded; ends = ends } ≡ view
    pub known : core < recorded.core.cores
    pub here : at ≡ core
    pub lent : before ≡ out_at at ends

module _ {J T : Type 0} {meaning : Meaning J T} {view : LinkedView J T} {recorded : RecordedView J T} {ends : EndsView J T} {core at : ℕ} {before : Sending J T} (lends : LendsOn meaning view recorded ends core at before) where
  pub as_out : LendsOut meaning core (desk_of recorded) ends before
  as_out = record { known = lends.known; is = lends.lent ∙ ap (λ number. out_at number ends) lends.here; outs = lends.seated.beside.outs }

  -- there is room to note all outcomes that the link holds, if there is room for as many as it may hold
  pub out_room : length view.recorded.journal.notes + view.recorded.cap ≤ view.recorded.journal.room → length recorded.journal.notes + length before.out.sent ≤ recorded.journal.room + before.out.got
  out_room room =
      let here = subst (λ (view : LinkedView J T). length view.recorded.journal.notes + view.recorded.cap ≤ view.recorded.journal.room) (sym lends.is) room in
      omega (arith, here, (out_lane as_out).lane_of.sound.room, (out_lane as_out).lane_of.sound.credits, (out_beside as_out).capacity)

-- the same of a core, whose other ends stay
module _ {J T : Type 0} {meaning : Meaning J T} {view : LinkedView J T} {recorded : RecordedView J T} {ends : EndsView J T} {core at : ℕ} {before : Sending J T} (lends : LendsOn meaning view recorded ends core at before)
    (now : RecordedView J T) (after : Sending J T) where
  -- what is so of the core and of this end to it is so of the view, and of the end by its number
  pub so_of_view : (fact : LinkedView J T → LinkedView J T → Type 0) → fact (record { recorded = recorded; ends = ends }) (record { recorded = now; ends = with_out core after ends }) → fact view (record { recorded = now; ends = with_out at after ends })
  so_of_view fact holds =
      subst (λ view. fact view (record { recorded = now; ends = with_out at after ends })) lends.is
      (subst (λ number. fact (record { recorded = recorded; ends = ends }) (record { recorded = now; ends = with_out number after ends })) (sym lends.here) holds)

  pub out_stays : {count : ℕ} → IsSameSeat recorded now → after.link ≡ before.link → length before.out.seen ≤ length after.out.seen → Adds count recorded.journal.notes now.journal.notes →
      StaysLinked (record { recorded = recorded; ends = ends }) (record { recorded = now; ends = with_out core after ends })
  out_stays seat link longer adds = record { seat = seat; sees = out_sees (as_out lends) after longer; ends = out_ends (as_out lends) after link; opening = adds.opening; grows = adds.grows }

  module _ (stays : StaysBeside (Fits meaning) core (desk_of recorded) (desk_of now) after.out after.credited) (ins : (sender : ℕ) → KeepsIn sender recorded now) (seat : IsSameSeat recorded now) (sound : IsRecorded meaning now) where
    pub seated_here : IsSeated meaning (record { recorded = now; ends = with_out core after ends })
    seated_here = record { recorded = sound; beside = resent_beside recorded now ends ends refl (set ends.outs core after) lends.seated.beside ins seat (outs_now (as_out lends) after stays) }

    pub out_seated : IsSeated meaning (record { recorded = now; ends = with_out at after ends })
    out_seated = so_of_view (λ _. IsSeated meaning) seated_here

  -- the next outcome is collected, if the end shows one
  pub next_does : (found : Bool) → GetsNext core (desk_of recorded) (desk_of now) before.out after.out found → now ≡ record recorded { journal = now.journal; lanes = now.lanes } → IsSameSeat recorded now → after.link ≡ before.link →
      CollectsOne core view found (record { recorded = now; ends = with_out at after ends })
  next_does found gets rest seat link = so_of_view (λ old. CollectsOne core old found) (record {
    gets = out_next (as_out lends) after (desk_of recorded) (desk_of now) found gets;
    others = (out_uses (as_out lends) after).others;
    few = next_few (as_out lends) (desk_of now) after found gets;
    rest = rest;
    stays = out_stays seat link (next_sees core (desk_of recorded) (desk_of now) before.out after.out found gets) (next_adds core (desk_of recorded) (desk_of now) before.out after.out found gets);
  })

  -- all outcomes are collected that the end shows
  module _ (count : ℕ) (collects : CollectsFrom core (desk_of recorded) count (desk_of now)) (all : GetsAll before.out after.out) (rest : now ≡ record recorded { journal = now.journal; lanes = now.lanes }) where
    pub collected_does : IsSameSeat recorded now → after.link ≡ before.link → length now.journal.notes ≤ length recorded.journal.notes + recorded.cap →
        CollectsOf core view count (record { recorded = now; ends = with_out at after ends })
    collected_does seat link few = so_of_view (λ old. CollectsOf core old count) (record {
      collects = collects;
      all = out_gets (as_out lends) after all;
      others = (out_uses (as_out lends) after).others;
      few = omega (arith, few, collects.2, ap (λ journal. length journal.notes) collects.3, length-append collects.0 recorded.journal.notes);
      rest = rest;
      stays = out_stays seat link (prefix_shorter before.out.seen after.out.seen all.1) (collects_add core (desk_of recorded) count (desk_of now) collects);
    })

    -- each poll is owed as before, where an end has seen more
    pub collected_linked : IsSeated meaning (record { recorded = now; ends = with_out core after ends }) → IsLinked meaning view → IsLinked meaning (record { recorded = now; ends = with_out at after ends })
    collected_linked seated = so_of_view (λ old new. IsLinked meaning old → IsLinked meaning new) (λ linked. record {
      recorded = seated.recorded;
      at_rest = ap (λ view. view.core.out) rest ∙ linked.at_rest;
      beside = seated.beside;
      owed =
          sees_more_owed meaning (seen_by (λ (end : Sending J T). end.out) ends.outs) (seen_by (λ (end : Sending J T). end.out) (set ends.outs core after)) (seen_got (λ (end : Sending J T). end.out) ends.outs core before after (out_there (as_out lends)) all) now
          (collects_keep meaning (seen_by (λ (end : Sending J T). end.out) ends.outs) recorded now rest core count collects linked.owed);
    })
