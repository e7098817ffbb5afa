-- The end of one sender, as it is lent, and what a delivery, a shut gate or a settled poll on it leaves. A job may be out meanwhile.
use Rattle.actor_seat.proofs.Names.{AfterPoll, ap, AreBeside, arith, Bool, Delivers, delivers_keep, DeliversFrom, desk_of, EndsView, false, Fits, Grows, in_at, IsInOf, IsLinked, IsRecorded, IsSameSeat, IsSeated, JobId, Journal, KeepsIn}
use Rattle.actor_seat.proofs.Names.{KeepsOuts, length, LinkedView, Meaning, None, opening_of, out_told, Receiving, RecordedView, refl, seen_by, Sending, settle_note, Settled, Settles, Shuts, shuts_keep, ShutsGate, StaysLinked, subst, sym, TellsShut}
use Rattle.actor_seat.proofs.Names.{true, with_in, ℕ, ◌∙◌, ◌≡◌, ◌≢◌, ◌≤◌}
use Rattle.std.specs.Prelude.{[], ◌∷◌}
use Rattle.base_words.specs.declared.note.Note.TheVariants.{Shut}
use Rattle.core_core.specs.declared.turn.Settled.TheVariants.{Yielded, Parked, Stayed, Finished}
use Rattle.actor_seat.proofs.Openings.{opening_delivers, opening_shut}
use Rattle.actor_seat.proofs.Growing.{grows_delivers}
use Rattle.actor_seat.proofs.Seen.{delivers_seen, prefix_shorter}
use Rattle.actor_seat.proofs.Stepping.{StepsOn, beside_now, end_now, its_sender, lent_beside, others_put, put_sees, same_ends}

-- the note of a settled poll creates nothing
settled_open : {T : Type 0} (name : JobId) (time : ℕ) (settled : Settled T) (before : Journal T) → opening_of (settle_note name time settled ∷ before) ≡ opening_of before
settled_open name time Yielded before = refl
settled_open name time Parked before = refl
settled_open name time Stayed before = refl
settled_open name time (Finished answer) before = refl

module _ {J T : Type 0} where
  -- the end of a sender, as the core of this view lends it
  pub record LendsIn (meaning : Meaning J T) (view : LinkedView J T) (sender : ℕ) (recorded : RecordedView J T) (ends : EndsView J T) (before : Receiving J T) : Type 0 where
    pub beside : AreBeside (Fits meaning) recorded ends
    pub view_is : record { recorded = recorded; ends = ends } ≡ view
    pub known : sender ≤ view.recorded.core.cores
    pub is : before ≡ in_at sender ends

  -- what a call on it left of the core and of this end
  pub record LeavesIn (meaning : Meaning J T) (sender : ℕ) (recorded now : RecordedView J T) (before after : Receiving J T) : Type 0 where
    pub its_own : IsInOf sender now after.inward
    pub others : (other : ℕ) → other ≢ sender → KeepsIn other recorded now
    pub outs : KeepsOuts (desk_of recorded) (desk_of now)
    pub lanes : now.lanes ≡ recorded.lanes
    pub seat : IsSameSeat recorded now
    pub link : after.link ≡ before.link
    pub sound : IsRecorded meaning now

module _ {J T : Type 0} {meaning : Meaning J T} {view : LinkedView J T} {sender : ℕ} {recorded : RecordedView J T} {ends : EndsView J T} {before : Receiving J T} (lends : LendsIn meaning view sender recorded ends before) where
  known_here : sender ≤ recorded.core.cores
  known_here = omega (arith, lends.known, ap (λ view. view.recorded.core.cores) lends.view_is)

  pub its_in : IsInOf sender recorded before.inward
  its_in = lent_beside lends.beside known_here lends.is

  pub from_in : IsInOf before.inward.from recorded before.inward
  from_in = its_sender sender recorded before its_in

  module _ {now : RecordedView J T} {after : Receiving J T} where
    stepped : LeavesIn meaning sender recorded now before after → length before.inward.seen ≤ length after.inward.seen → opening_of now.journal.notes ≡ opening_of recorded.journal.notes → Grows recorded.journal.notes now.journal.notes →
        StepsOn (Fits meaning) sender recorded now ends after
    stepped leaves longer opening grows = record {
      beside = lends.beside;
      known = known_here;
      seat = leaves.seat;
      its_own = leaves.its_own;
      others = leaves.others;
      outs = leaves.outs;
      lanes = leaves.lanes;
      link = leaves.link ∙ ap (λ end. end.link) lends.is;
      sees = subst (λ (end : Receiving J T). length end.inward.seen ≤ length after.inward.seen) lends.is longer;
      opening = opening;
      grows = grows;
    }

    seated_here : StepsOn (Fits meaning) sender recorded now ends after → IsRecorded meaning now → IsSeated meaning (record { recorded = now; ends = with_in sender after ends })
    seated_here step sound = record { recorded = sound; beside = beside_now step }

    stays_here : StepsOn (Fits meaning) sender recorded now ends after → StaysLinked (record { recorded = recorded; ends = ends }) (record { recorded = now; ends = with_in sender after ends })
    stays_here step = record { seat = step.seat; ends = same_ends step; sees = put_sees step; opening = step.opening; grows = step.grows }

    -- an order is delivered, on the end of the sender that the end names
    module _ (found : Bool) (does : Delivers recorded before.inward now after.inward found) (leaves : LeavesIn meaning before.inward.from recorded now before after) where
      delivered_step : StepsOn (Fits meaning) sender recorded now ends after
      delivered_step =
          stepped (subst (λ from. LeavesIn meaning from recorded now before after) its_in.from leaves) (delivers_seen recorded now before.inward after.inward found does)
          (opening_delivers recorded now before.inward after.inward found does) (grows_delivers recorded now before.inward after.inward found does)

      pub delivers_seated : IsSeated meaning (record { recorded = now; ends = with_in sender after ends })
      delivers_seated = seated_here delivered_step leaves.sound

      pub delivers_does : DeliversFrom sender view found (record { recorded = now; ends = with_in sender after ends })
      delivers_does = subst (λ view. DeliversFrom sender view found (record { recorded = now; ends = with_in sender after ends })) lends.view_is (record {
        delivers =
            subst (λ end. Delivers recorded end.inward now (in_at sender (with_in sender after ends)).inward found) lends.is
            (subst (λ end. Delivers recorded before.inward now end.inward found) (sym (end_now delivered_step)) does);
        others = others_put delivered_step;
        stays = stays_here delivered_step;
      })

      still_rests : (found : Bool) → Delivers recorded before.inward now after.inward found → recorded.core.out ≡ None → now.core.out ≡ None
      still_rests true does rest = does.2.out ∙ ap (out_told now.journal.notes) rest
      still_rests false does rest = ap (λ view. view.core.out) does.1 ∙ rest

      pub delivers_linked : IsLinked meaning view → IsLinked meaning (record { recorded = now; ends = with_in sender after ends })
      delivers_linked = subst (λ view. IsLinked meaning view → IsLinked meaning (record { recorded = now; ends = with_in sender after ends })) lends.view_is (λ linked. record {
        recorded = leaves.sound;
        at_rest = still_rests found does linked.at_rest;
        beside = beside_now delivered_step;
        owed = delivers_keep meaning (seen_by (λ (end : Sending J T). end.out) ends.outs) recorded now leaves.seat before.inward after.inward found does linked.owed;
      })

    -- a gate is shut
    module _ (count : ℕ) (shuts : Shuts before.inward after.inward count) (tells : TellsShut recorded sender count now) (leaves : LeavesIn meaning sender recorded now before after) where
      shut_step : StepsOn (Fits meaning) sender recorded now ends after
      shut_step = stepped leaves (prefix_shorter before.inward.seen after.inward.seen shuts.1.0) (opening_shut recorded now sender count tells) (Shut sender count ∷ [], ap (λ journal. journal.notes) tells.journal)

      pub shuts_seated : IsSeated meaning (record { recorded = now; ends = with_in sender after ends })
      shuts_seated = seated_here shut_step leaves.sound

      pub shuts_does : ShutsGate sender view (record { recorded = now; ends = with_in sender after ends })
      shuts_does = subst (λ view. ShutsGate sender view (record { recorded = now; ends = with_in sender after ends })) lends.view_is (record {
        count = count;
        tells = tells;
        shuts =
            subst (λ end. Shuts end.inward (in_at sender (with_in sender after ends)).inward count) lends.is
            (subst (λ end. Shuts before.inward end.inward count) (sym (end_now shut_step)) shuts);
        others = others_put shut_step;
        stays = stays_here shut_step;
      })

      pub shuts_linked : IsLinked meaning view → IsLinked meaning (record { recorded = now; ends = with_in sender after ends })
      shuts_linked = subst (λ view. IsLinked meaning view → IsLinked meaning (record { recorded = now; ends = with_in sender after ends })) lends.view_is (λ linked. record {
        recorded = leaves.sound;
        at_rest = tells.out ∙ linked.at_rest;
        beside = beside_now shut_step;
        owed = shuts_keep meaning (seen_by (λ (end : Sending J T). end.out) ends.outs) recorded now leaves.seat sender count tells linked.owed;
      })

    -- a poll is settled
    module _ (ran : AfterPoll J T) (spent : ℕ) (settled : Settled T) (settles : Settles meaning recorded ran spent settled now) (same : after.inward.seen ≡ before.inward.seen) (leaves : LeavesIn meaning sender recorded now before after) where
      settled_step : StepsOn (Fits meaning) sender recorded now ends after
      settled_step =
          let count : length after.inward.seen ≡ length before.inward.seen = ap length same in
          stepped leaves (omega (arith, count)) (ap (λ journal. opening_of journal.notes) settles.journal ∙ settled_open settles.out.name _ settled recorded.journal.notes)
          (settle_note settles.out.name _ settled ∷ [], ap (λ journal. journal.notes) settles.journal)

      pub settled_seated : IsSeated meaning (record { recorded = now; ends = with_in sender after ends })
      settled_seated = seated_here settled_step leaves.sound

      pub settled_stays : StaysLinked view (record { recorded = now; ends = with_in sender after ends })
      settled_stays = subst (λ view. StaysLinked view (record { recorded = now; ends = with_in sender after ends })) lends.view_is (stays_here settled_step)
