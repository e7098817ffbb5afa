-- A core among ends that stay as they are: it hands a job back, or ends its turn.
use Rattle.actor_core.proofs.TurnWords.{◌≡◌, ℕ, ◌≤◌, sym, ◌∙◌, ap, subst, Option, None, Ok, Result, slice_get, JobId, OutcomeNote, Order, Meaning, RecordedView, LeavesOwed, order_taken, Reach, AreAround, none_owed}
use Rattle.base_words.specs.declared.order.Reason.{Reason}
use Rattle.base_words.specs.Bursts.{has_bursts, queue_in_turn}
use Rattle.core_core.specs.declared.turn.PickError.{PickError}
use Rattle.core_core.specs.declared.turn.Turn.{Turn}
use Rattle.core_core.specs.declared.turn.Turn.TheVariants.{Back}
use Rattle.base_words.proofs.OpenTurns.{none_either}
use Rattle.actor_core.specs.Owed.{IsSentUnder, owed_back}
use Rattle.actor_core.specs.Turns.{EndsTurn, IsHandBack, Picks}
use Rattle.actor_core.specs.Whole.{StaysPut}
use Rattle.actor_core.specs.Rooms.{open_queue}

-- a step that touches no end leaves each beside its core, except for what is owed from then on
pub kept_around : {J T A O I : Type 0} {meaning : Meaning J T} {reach : Reach J T A O I} {own : ℕ} {old new : RecordedView J T} {around : A} → AreAround meaning reach own none_owed old around →
    (owed : ℕ → Option (JobId × OutcomeNote T)) → ((sender : ℕ) → LeavesOwed sender (owed sender) old new) → StaysPut old new → AreAround meaning reach own owed new around
kept_around {old = old} {new = new} beside owed owes stays = record {
  has_outs = beside.has_outs;
  has_ins = λ sender there. beside.has_ins sender (its sender there);
  outs = record {
    count = beside.outs.count ∙ sym stays.seat.cores;
    beside = λ core end there. (stays.outs core).each _ _ (beside.outs.beside core end there);
    lanes = λ core end there.
        let had = beside.outs.lanes core end there in
        record { lane = had.lane; is = ap (λ lanes. slice_get lanes core) stays.lanes ∙ had.is; lane_of = had.lane_of };
  };
  ins = λ sender there. (owes sender).each _ (beside.ins sender (its sender there));
}
  where
    its : (sender : ℕ) → sender ≤ new.core.cores → sender ≤ old.core.cores
    its sender there = subst (λ cores. sender ≤ cores) stays.seat.cores there

module _ {J T : Type 0} {old new : RecordedView J T} where
  -- no turn is open behind the end of one
  pub none_behind_end : {time : ℕ} → EndsTurn old time new → open_queue new ≡ None
  none_behind_end ends = ap (λ journal. queue_in_turn new.core.bursts.burst journal.notes) ends.journal ∙ none_either (has_bursts new.core.bursts.burst)

  -- what is owed of a job that was handed back
  pub owed_then : {picked : Result (Turn J) PickError} {name : JobId} {reason : Reason} {order : Order J} → picked ≡ Ok (Back name order reason) → ((sender : ℕ) → LeavesOwed sender (owed_back {T = T} picked sender) old new) →
      (sender : ℕ) → LeavesOwed sender (owed_back {T = T} (Ok (Back name order reason)) sender) old new
  owed_then is owes = subst (λ one. (sender : ℕ) → LeavesOwed sender (owed_back {T = T} one sender) old new) is owes

module _ {J T : Type 0} {meaning : Meaning J T} {old new : RecordedView J T} {name : JobId} {reason : Reason} {order : Order J} where
  -- what the pick did that handed it back
  pub handed_back : (picked : Result (Turn J) PickError) → picked ≡ Ok (Back name order reason) → Picks meaning old picked new → IsHandBack meaning old name reason order new
  handed_back picked is picks = subst (λ one. Picks meaning old one new) is picks

  -- no turn is open behind it, and the order is of the task that was sent
  pub none_behind_back : IsHandBack meaning old name reason order new → open_queue new ≡ None
  none_behind_back did = ap (λ journal. queue_in_turn new.core.bursts.burst journal.notes) did.journal ∙ none_either (has_bursts new.core.bursts.burst)

  pub sent_under : IsHandBack meaning old name reason order new → IsSentUnder meaning new.took name order
  sent_under did = record { queue = did.queue; sent = did.sent; task = ap (λ took. order_taken took name) did.took ∙ did.task; job = did.job; back = did.back; same_task = did.same_task }
