-- The notes with which a poll begins, and the room that they leave.
use Rattle.actor_core.proofs.Names.{Ok, slice_get, ◌≡◌, refl, ℕ, ◌+◌, ◌<◌, Bool, true, false, List, length, reverse, sym, ◌∙◌, ap, subst, arith, most_turns, JobId, Note, Envelope, Order, Outcome, turns, Step, Meaning, Start, Resume, CoreView}
use Rattle.actor_core.proofs.Names.{IsAhead, goes_out, pick_notes, settle_notes, ahead_picks, Outward, DeskView, desk_with, RecordedView, IsRecorded, desk_of, AreOutsOf, IsPick, StaysPut, ◌≤◌, CorePicks, IsFurther, Some}
use Rattle.core_core.proofs.AheadTaken.{ahead_follows}
use Rattle.core_core.specs.Further.{IsAheadInTurn, follow_notes, Follows as CoreFollows}
use Rattle.actor_core.proofs.Ahead.{picked_did}
use Rattle.actor_core.proofs.Followed.{followed_did}
use Rattle.actor_core.proofs.QuietSteps.{nobody, everyone, HasDone, view_of, quiet_invariant, quiet_now}

-- ends that stay beside a core whose lanes stay
pub outs_kept : {J T E : Type 0} {fits : Order J → Outcome J T → Type 0} {out : E → Outward J T} {credited : E → ℕ} (old new : RecordedView J T) → StaysPut old new → (ends : List E) →
    AreOutsOf fits out credited (desk_of old) ends → AreOutsOf fits out credited (desk_of new) ends
outs_kept old new stays ends outs = record {
  count = outs.count ∙ sym stays.seat.cores;
  beside = λ core end there. (stays.outs core).each _ _ (outs.beside core end there);
  lanes = λ core end there. let had = outs.lanes core end there in record { lane = had.lane; is = ap (λ lanes. slice_get lanes core) stays.lanes ∙ had.is; lane_of = had.lane_of };
}

-- the notes that begin a poll may be written, and the ends stay beside the desk that wrote them
module _ {J T : Type 0} {meaning : Meaning J T}
    (core : CoreView J) (took : List (Envelope J)) (said : DeskView J T)
    (invariant : IsRecorded meaning (view_of core took said) × (said ≡ desk_of (view_of core took said))) where
  pub outs_noted : {mid : CoreView J} {most : ℕ} {does : RecordedView J T → RecordedView J T → Type 0} {told slice : List (Note T)} → slice ≡ told → HasDone meaning (view_of core took said) mid everyone nobody most does told →
      {E : Type 0} {fits : Order J → Outcome J T → Type 0} {out : E → Outward J T} {credited : E → ℕ} (ends : List E) → AreOutsOf fits out credited (desk_of (view_of core took said)) ends →
      (noted : DeskView J T) → noted ≡ desk_with (reverse slice) said → AreOutsOf fits out credited noted ends
  outs_noted {mid} slice_is did {fits = fits} {out = out} {credited = credited} ends outs noted wrote =
      subst (λ desk. AreOutsOf fits out credited desk ends) (sym (quiet_invariant core took said invariant slice_is did wrote).1)
      (outs_kept (view_of core took said) (view_of mid took noted) (assumption (quiet_now core took said invariant slice_is did wrote refl)) ends outs)

  module _ (queue vr : ℕ) (name : JobId) (started : Bool) where
    -- the pick of a job, with its notes
    pub did_pick : turns said.journal.notes < most_turns → (job : J) (mid : CoreView J) → CorePicks {T = T} core (Ok (goes_out name queue started job)) mid (pick_notes queue vr name started) →
        HasDone meaning (view_of core took said) mid everyone nobody 2 (λ old new. IsPick old name queue started job new) (pick_notes queue vr name started)
    did_pick left job mid picks = by_start started (pick_notes queue vr name started) picks
      where
        by_start : (marked : Bool) (notes : List (Note T)) → CorePicks {T = T} core (Ok (goes_out name queue marked job)) mid notes →
            HasDone meaning (view_of core took said) mid everyone nobody 2 (λ old new. IsPick old name queue marked job new) notes
        by_start false notes picks = picked_did (view_of core took said) invariant.0 (λ queue some. left) mid (Ok (Start name queue job)) notes picks
        by_start true notes picks = picked_did (view_of core took said) invariant.0 (λ queue some. left) mid (Ok (Resume name queue job)) notes picks

    -- a further job of the open turn, with its note
    pub did_follow : (job : J) (mid : CoreView J) → CoreFollows {T = T} core (Some (goes_out name queue started job)) mid (follow_notes name started) →
        HasDone meaning (view_of core took said) mid everyone nobody 1 (λ old new. IsFurther old name queue started job new) (follow_notes name started)
    did_follow job mid follows = by_start started (follow_notes name started) follows
      where
        by_start : (marked : Bool) (notes : List (Note T)) → CoreFollows {T = T} core (Some (goes_out name queue marked job)) mid notes →
            HasDone meaning (view_of core took said) mid everyone nobody 1 (λ old new. IsFurther old name queue marked job new) notes
        by_start false notes follows = followed_did (view_of core took said) invariant.0 mid (Some (Start name queue job)) notes follows
        by_start true notes follows = followed_did (view_of core took said) invariant.0 mid (Some (Resume name queue job)) notes follows

    -- the same, told before
    pub pick_ahead : turns said.journal.notes < most_turns → (woken : Bool) → IsAhead core queue vr name started woken →
        (job : J) × (mid : CoreView J) × HasDone meaning (view_of core took said) mid everyone nobody 2 (λ old new. IsPick old name queue started job new) (pick_notes queue vr name started)
    pick_ahead left woken ahead = let picks = ahead_picks T core queue vr name started woken ahead in (picks.0, picks.1, did_pick left picks.0 picks.1 picks.2)

    pub follow_ahead : (woken : Bool) → IsAheadInTurn core queue vr name started woken →
        (job : J) × (mid : CoreView J) × HasDone meaning (view_of core took said) mid everyone nobody 1 (λ old new. IsFurther old name queue started job new) (follow_notes name started)
    follow_ahead woken ahead = let follows = ahead_follows T core queue vr name started woken ahead in (follows.0, follows.1, did_follow follows.0 follows.1 follows.2)

-- there is room for the note of a settling where there is room for one
pub one_settled : {J T : Type 0} (said : DeskView J T) (name : JobId) (time : ℕ) (step : Step T) (woken : Bool) → length said.journal.notes < said.journal.room →
    length said.journal.notes + length (settle_notes name time step woken) ≤ said.journal.room
one_settled said name time step woken free = grind arith

-- the notes of a pick are two, and those of a further beginning and of a settling are one each
module _ {J T : Type 0} (said noted : DeskView J T) (slice : List (Note T)) (wrote : noted ≡ desk_with (reverse slice) said) where
  pub noted_pick : (queue vr : ℕ) (name : JobId) (started : Bool) → slice ≡ pick_notes queue vr name started → length noted.journal.notes ≡ length said.journal.notes + 2
  noted_pick queue vr name started slice_is = grind arith

  pub noted_followed : (name : JobId) (started : Bool) → slice ≡ follow_notes name started → length noted.journal.notes ≡ length said.journal.notes + 1
  noted_followed name started slice_is = grind arith

  pub noted_settled : (name : JobId) (time : ℕ) (step : Step T) (woken : Bool) → slice ≡ settle_notes name time step woken → length noted.journal.notes ≡ length said.journal.notes + 1
  noted_settled name time step woken slice_is = grind arith
