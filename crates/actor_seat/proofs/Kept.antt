-- A core and its ends after a step that touched none of them.
use Rattle.actor_seat.proofs.Names.{ap, AreBeside, arith, Bool, ClosesItself, desk_of, ends_same, EndsView, false, Fits, IsLinked, IsRecorded, IsSameSeat, IsSeated, KeepsIn, KeepsOuts, LinkedView, Meaning, Mode, PollsAsOwed, RecordedView, StaysLinked}
use Rattle.actor_seat.proofs.Names.{subst, sym, true, ℕ, ◌+◌, ◌∙◌, ◌≡◌}
use Rattle.std.proofs.Common.{None}
use Rattle.actor_seat.proofs.Adding.{Adds}
use Rattle.actor_seat.proofs.Along.{sees_same}
use Rattle.actor_seat.proofs.Stepping.{sends_kept}

module _ {J T : Type 0} (meaning : Meaning J T) where
  -- what such a step leaves of the core
  pub record LeavesEnds (old new : RecordedView J T) : Type 0 where
    pub ins : (sender : ℕ) → KeepsIn sender old new
    pub outs : KeepsOuts (desk_of old) (desk_of new)
    pub lanes : new.lanes ≡ old.lanes
    pub seat : IsSameSeat old new
    pub sound : IsRecorded meaning new

module _ {J T : Type 0} {meaning : Meaning J T} {old new : RecordedView J T} (leaves : LeavesEnds meaning old new) (ends : EndsView J T) where
  pub kept_beside : AreBeside (Fits meaning) old ends → AreBeside (Fits meaning) new ends
  kept_beside beside = record {
    number = beside.number ∙ sym leaves.seat.number;
    ins_are = beside.ins_are ∙ ap (λ cores. cores + 1) (sym leaves.seat.cores);
    outs = sends_kept old new ends leaves.outs leaves.lanes leaves.seat beside.outs;
    ins = λ sender known. (leaves.ins sender).each _ (beside.ins sender (omega (arith, known, leaves.seat.cores)));
  }

  pub kept_seated : IsSeated meaning (record { recorded = old; ends = ends }) → IsSeated meaning (record { recorded = new; ends = ends })
  kept_seated seated = record { recorded = leaves.sound; beside = kept_beside seated.beside }

  pub kept_stays : {view : LinkedView J T} {count : ℕ} → record { recorded = old; ends = ends } ≡ view → Adds count old.journal.notes new.journal.notes → StaysLinked view (record { recorded = new; ends = ends })
  kept_stays is adds = subst (λ view. StaysLinked view (record { recorded = new; ends = ends })) is (record { seat = leaves.seat; ends = ends_same ends; sees = sees_same ends; opening = adds.opening; grows = adds.grows })

  pub kept_linked : IsLinked meaning (record { recorded = old; ends = ends }) → new.core.out ≡ None → PollsAsOwed meaning new ends → IsLinked meaning (record { recorded = new; ends = ends })
  kept_linked linked rest polls = record { recorded = leaves.sound; at_rest = rest; beside = kept_beside linked.beside; owed = polls }

-- nobody goes out as a core closes
pub closed_rests : {J T : Type 0} (old new : RecordedView J T) (mode : Mode) (did : Bool) → ClosesItself old mode did new → old.core.out ≡ None → new.core.out ≡ None
closed_rests old new mode true closes rest = closes.2 ∙ rest
closed_rests old new mode false closes rest = ap (λ view. view.core.out) closes.1 ∙ rest
