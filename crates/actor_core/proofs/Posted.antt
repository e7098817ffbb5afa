-- A core among its ends, where a poll posted on those on which the core sends.
use Rattle.actor_core.proofs.TurnWords.{◌≡◌, ℕ, ◌≤◌, Bool, List, refl, sym, subst, Option, JobId, OutcomeNote, Meaning, Settled, AreOutsOf, HasPosted, RecordedView, desk_of, IsSameSeat, LeavesOwed, outcome_settled, HasOwedPolls, seen_by, Begins}
use Rattle.actor_core.proofs.TurnWords.{TurnsNoted, post_of, Fits, HaveSent, IsAround, Reach, Sides, AreAround, PollsAsOwed, none_owed, owed_under, PostsOne}
use Rattle.actor_core.proofs.EndsKept.{sees_more_in}

-- the ends on which the core sends, under the words of their own kind
pub outs_lent : {J T A O I : Type 0} {meaning : Meaning J T} {reach : Reach J T A O I} {own : ℕ} {view : RecordedView J T} {around : A} {sides : Sides J T O I} → AreAround meaning reach own none_owed view around →
    reach.sides ≡ sides → (lent : List O) → lent ≡ reach.outs own around → AreOutsOf (Fits meaning) sides.out sides.credited (desk_of view) lent
outs_lent {J} {T} {O = O} {I = I} {meaning = meaning} {reach = reach} {view = view} beside same lent is =
    subst (λ (sides : Sides J T O I). AreOutsOf (Fits meaning) sides.out sides.credited (desk_of view) lent) same
    (subst (AreOutsOf (Fits meaning) reach.sides.out reach.sides.credited (desk_of view)) (sym is) beside.outs)

module _ {J T A O I : Type 0} {meaning : Meaning J T} {reach : Reach J T A O I} (laws : IsAround reach) {own : ℕ} {old : RecordedView J T} (new : RecordedView J T) {around : A}
    (beside : AreAround meaning reach own none_owed old around) where
  -- where a poll posted on the ends on which the core sends, each end stands beside the core, except for what is owed
  module _ (picked left : RecordedView J T) (row : List O) (posted : HasPosted reach.sides.out reach.sides.kept (post_of picked (reach.outs own around)) (post_of left row))
      (owed : ℕ → Option (JobId × OutcomeNote T)) (owes : (sender : ℕ) → LeavesOwed sender (owed sender) old new) (seat : IsSameSeat old new)
      (outs : AreOutsOf (Fits meaning) reach.sides.out reach.sides.credited (desk_of new) row) where
    sent : HaveSent reach (reach.outs own around) row
    sent = record { count = posted.count; each = posted.ends }

    its : (sender : ℕ) → sender ≤ new.core.cores → sender ≤ old.core.cores
    its sender there = subst (λ cores. sender ≤ cores) seat.cores there

    pub posted_around : AreAround meaning reach own owed new (reach.with_outs own row around)
    posted_around = record {
      has_outs = laws.outs_there own row around beside.has_outs;
      has_ins = λ sender there. laws.ins_there own sender row around beside.has_outs posted.count (beside.has_ins sender (its sender there));
      outs = subst (AreOutsOf (Fits meaning) reach.sides.out reach.sides.credited (desk_of new)) (sym (laws.outs_put own row around beside.has_outs)) outs;
      ins = λ sender there.
          let sees = laws.ins_see own sender row around beside.has_outs (beside.has_ins sender (its sender there)) sent in
          (owes sender).each _ (sees_more_in sender old _ _ sees.rest sees.more (beside.ins sender (its sender there)));
    }

  module _ {sides : Sides J T O I} (same : reach.sides ≡ sides) (lent : List O) (lent_is : lent ≡ reach.outs own around) where
    -- each poll stays owed, as far as they have seen
    pub owed_posted : (row : List O) → (HasOwedPolls meaning (seen_by sides.out lent) old → HasOwedPolls meaning (seen_by sides.out row) new) →
        PollsAsOwed meaning reach own old around → PollsAsOwed meaning reach own new (reach.with_outs own row around)
    owed_posted row keeps owed =
        subst (λ at. HasOwedPolls meaning (seen_by reach.sides.out at) new) (sym (laws.outs_put own row around beside.has_outs))
        (subst (λ (sides : Sides J T O I). HasOwedPolls meaning (seen_by sides.out row) new) (sym same)
        (keeps (subst (λ (sides : Sides J T O I). HasOwedPolls meaning (seen_by sides.out lent) old) same (subst (λ at. HasOwedPolls meaning (seen_by reach.sides.out at) old) (sym lent_is) owed))))

    -- a poll with its notes is one poll among these ends
    pub posted_one : {begins : Begins J T} {tells : ℕ → Type 0} {notes polls : ℕ} {name : JobId} {queue : ℕ} {started : Bool} {settled : Settled T} (row : List O) → name.from ≤ old.core.cores →
        TurnsNoted meaning begins sides.out sides.credited sides.kept tells notes polls old lent name queue started settled new row →
        PostsOne meaning reach own begins tells notes polls name queue started settled old new around (reach.with_outs own row around)
    posted_one {begins} {tells} {notes} {polls} {name} {queue} {started} {settled} row known noted =
        let its = subst (λ (sides : Sides J T O I). TurnsNoted meaning begins sides.out sides.credited sides.kept tells notes polls old lent name queue started settled new row) (sym same) noted in
        let done = subst (λ at. TurnsNoted meaning begins reach.sides.out reach.sides.credited reach.sides.kept tells notes polls old at name queue started settled new row) lent_is its in
        record {
          row = row;
          noted = done;
          rest = refl;
          known = subst (λ cores. name.from ≤ cores) (sym done.seat.cores) known;
          owing = posted_around done.turns.picked done.turns.left row done.turns.posted (owed_under {J = J} name (outcome_settled settled)) done.owes done.seat done.outs;
        }
