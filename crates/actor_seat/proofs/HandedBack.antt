-- A core and its ends after a job was handed back: its outcome is owed to its sender.
use Rattle.actor_seat.proofs.Names.{ap, AreBeside, AreOwing, arith, cond, desk_of, EndsView, eq-eqb, if_from, in_at, IsHandBack, IsInOwing, IsSameSeat, IsSentUnder, JobId, KeepsOuts, LeavesOwed, Meaning, ne_eqb, None, Ok, Order}
use Rattle.actor_seat.proofs.Names.{order_taken, Outcome, owed_back, PickError, Picks, Reason, RecordedView, refl, Result, Some, subst, sym, Turn, ℕ, ◌+◌, ◌∙◌, ◌≡◌, ◌≤◌}
use Rattle.base_words.specs.declared.note.OutcomeNote.TheVariants.{Returned}
use Rattle.core_core.specs.declared.turn.Turn.TheVariants.{Back}
use Rattle.actor_seat.proofs.Stepping.{sends_kept}

module _ {J T : Type 0} (old new : RecordedView J T) (picked : Result (Turn J) PickError) (name : JobId) (reason : Reason) (order : Order J) (is : picked ≡ Ok (Back name order reason)) where
  pub handed_back : (meaning : Meaning J T) → Picks meaning old picked new → IsHandBack meaning old name reason order new
  handed_back meaning picks = subst (λ one. Picks meaning old one new) is picks

  -- its outcome is owed to its sender
  pub stay_owing : {fits : Order J → Outcome J T → Type 0} (ends : EndsView J T) → AreBeside fits old ends → name.from ≤ old.core.cores → IsSameSeat old new → KeepsOuts (desk_of old) (desk_of new) → new.lanes ≡ old.lanes →
      ((sender : ℕ) → LeavesOwed sender (owed_back picked sender) old new) → AreOwing fits name.from (Some (name, Returned reason)) new ends
  stay_owing ends beside known seat outs lanes ins =
      let owes : (sender : ℕ) → LeavesOwed sender (if_from sender name (name, Returned reason)) old new = subst (λ one. (sender : ℕ) → LeavesOwed sender (owed_back {T = T} one sender) old new) is ins in
      record {
        number = beside.number ∙ sym seat.number;
        ins_are = beside.ins_are ∙ ap (λ cores. cores + 1) (sym seat.cores);
        outs = sends_kept old new ends outs lanes seat beside.outs;
        owed =
            subst (λ owed. IsInOwing name.from owed new (in_at name.from ends).inward) (ap (λ test. cond test (Some (name, Returned reason)) None) (eq-eqb name.from name.from refl))
            ((owes name.from).each _ (beside.ins name.from known));
        ins = λ sender there away.
            subst (λ owed. IsInOwing sender owed new (in_at sender ends).inward) (ap (λ test. cond test (Some (name, Returned reason)) None) (ne_eqb name.from sender (λ one. away (sym one))))
            ((owes sender).each _ (beside.ins sender (omega (arith, there, seat.cores))));
      }

  -- the order that is given back is of the task that was sent
  pub sent_under : (meaning : Meaning J T) → IsHandBack meaning old name reason order new → IsSentUnder meaning new.took name order
  sent_under meaning did = record {
    queue = did.queue;
    sent = did.sent;
    task = ap (λ took. order_taken took name) did.took ∙ did.task;
    job = did.job;
    back = did.back;
    same_task = did.same_task;
  }
