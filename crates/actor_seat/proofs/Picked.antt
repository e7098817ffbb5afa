-- A core and its ends after a pick.
use Rattle.actor_seat.proofs.Names.{ap, desk_of, ends_same, EndsView, Err, IsBack, IsLinked, IsReadyTurn, IsRecorded, IsSameSeat, JobId, KeepsOuts, LeavesOwed, LinkedView, Meaning, Ok, Order, order_taken, owed_back, PickError, Picks, picks_keep, PicksTaken}
use Rattle.actor_seat.proofs.Names.{Reason, RecordedView, Result, SameEnds, seen_by, SeesNoLess, Sending, StaysLinked, subst, Taken, taken_of, TellsAhead, Turn, ℕ, ◌∙◌, ◌≡◌, ◌≤◌}
use Rattle.std.proofs.Common.{None}
use Rattle.core_core.specs.declared.turn.Turn.TheVariants.{Back}
use Rattle.core_core.specs.declared.turn.PickError.TheVariants.{Busy, Spent}
use Rattle.core_core.specs.declared.turn.Ahead.TheVariants as ahead
use Rattle.actor_seat.proofs.AddedTurns.{adds_picked}
use Rattle.actor_seat.proofs.Along.{sees_same}
use Rattle.actor_seat.proofs.HandedBack.{handed_back}
use Rattle.actor_seat.proofs.Kept.{LeavesEnds, kept_linked}

module _ {J T : Type 0} (meaning : Meaning J T) where
  -- what a pick leaves of the core: the outcome of a job that goes back is owed
  pub record LeavesPick (turned : Result (Turn J) PickError) (old new : RecordedView J T) : Type 0 where
    pub picks : Picks meaning old turned new
    pub ins : (sender : ℕ) → LeavesOwed sender (owed_back turned sender) old new
    pub outs : KeepsOuts (desk_of old) (desk_of new)
    pub lanes : new.lanes ≡ old.lanes
    pub seat : IsSameSeat old new
    pub sound : IsRecorded meaning new

  refused_leaves : (old : RecordedView J T) (error : PickError) (new : RecordedView J T) → Picks meaning old (Err error) new → new ≡ old
  refused_leaves old Busy new picks = picks.1
  refused_leaves old Spent new picks = picks.2

module _ {J T : Type 0} {meaning : Meaning J T} {turned : Result (Turn J) PickError} {old new : RecordedView J T} (left : LeavesPick meaning turned old new) where
  -- one that is refused leaves the core as it was
  pub pick_leaves : (error : PickError) → turned ≡ Err error → new ≡ old
  pick_leaves error is = refused_leaves meaning old error new (subst (λ turned. Picks meaning old turned new) is left.picks)

  -- one that owes nothing touches no end
  pub owes_none : ((sender : ℕ) → owed_back {T = T} turned sender ≡ None) → LeavesEnds meaning old new
  owes_none none = record {
    ins = λ sender. subst (λ owed. LeavesOwed sender owed old new) (none sender) (left.ins sender);
    outs = left.outs;
    lanes = left.lanes;
    seat = left.seat;
    sound = left.sound;
  }

  pub picked_stays : {view : LinkedView J T} (ends given : EndsView J T) → record { recorded = old; ends = ends } ≡ view → SameEnds ends given → SeesNoLess ends given → StaysLinked view (record { recorded = new; ends = given })
  picked_stays ends given is same sees =
      let adds = adds_picked meaning old new turned left.picks in
      subst (λ view. StaysLinked view (record { recorded = new; ends = given })) is (record { seat = left.seat; ends = same; sees = sees; opening = adds.opening; grows = adds.grows })

  pub picked_same : {view : LinkedView J T} (ends : EndsView J T) → record { recorded = old; ends = ends } ≡ view → StaysLinked view (record { recorded = new; ends = ends })
  picked_same ends is = picked_stays ends ends is (ends_same ends) (sees_same ends)

  -- the sender of a job that goes back is there
  pub back_known : (name : JobId) (reason : Reason) (order : Order J) → turned ≡ Ok (Back name order reason) → name.from ≤ new.core.cores
  back_known name reason order is =
      let did = handed_back old new turned name reason order is meaning left.picks in
      (left.sound.taken name _ (ap (λ took. order_taken took name) did.took ∙ did.task)).sender

  -- what is told of it, beside the core as it was
  pub picked_told : {view : LinkedView J T} {ends : EndsView J T} → record { recorded = old; ends = ends } ≡ view → IsReadyTurn meaning turned → (TellsAhead old.core (Ok ahead.Back) → IsBack turned) → (told : Result (Taken J) PickError) → told ≡ taken_of turned →
      PicksTaken meaning view.recorded told new
  picked_told same ready back told is = subst (λ view. PicksTaken meaning view.recorded told new) same (record { turned = turned; picks = left.picks; ready = ready; back = back; told_is = is })

  -- one that owes nothing leaves a linked core linked
  pub picked_linked : {view : LinkedView J T} (ends : EndsView J T) → record { recorded = old; ends = ends } ≡ view → ((sender : ℕ) → owed_back {T = T} turned sender ≡ None) → IsLinked meaning view → new.core.out ≡ None →
      IsLinked meaning (record { recorded = new; ends = ends })
  picked_linked ends is none = subst (λ view. IsLinked meaning view → new.core.out ≡ None → IsLinked meaning (record { recorded = new; ends = ends })) is (λ linked rest.
      kept_linked (owes_none none) ends linked rest (picks_keep meaning (seen_by (λ (end : Sending J T). end.out) ends.outs) old new left.seat turned left.picks linked.owed))
