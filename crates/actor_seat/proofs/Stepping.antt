-- A step on the end of one sender leaves a core linked as before.
use Rattle.actor_seat.proofs.Names.{ap, AreBeside, AreOwing, arith, cases_eq, desk_of, EndsView, get_or-set_other, get_or-set_same, Grows, in_at, in_used, IsInOf, IsInOwing, IsSameSeat, JobId, KeepsIn, KeepsOuts, length, length-set, no_in}
use Rattle.actor_seat.proofs.Names.{opening_of, Option, Order, Outcome, OutcomeNote, Receiving, RecordedView, SameEnds, SeesNoLess, SendsOn, slice_get, subst, sym, with_in, ℕ, ⊎_elim, ◌+◌, ◌<◌, ◌∙◌, ◌≡◌, ◌≢◌, ◌≤◌}
use Rattle.actor_seat.proofs.Seen.{in_put_sees}

module _ {J T : Type 0} where
  -- an end beside its core, where it names its sender
  pub its_sender : (sender : ℕ) (recorded : RecordedView J T) (end : Receiving J T) → IsInOf sender recorded end.inward → IsInOf end.inward.from recorded end.inward
  its_sender sender recorded end is = subst (λ from. IsInOf from recorded end.inward) (sym is.from) is

module _ {J T : Type 0} (fits : Order J → Outcome J T → Type 0) where
  -- the ends beside a core after a step on one of them
  pub record StepsOn (sender : ℕ) (recorded now : RecordedView J T) (ends : EndsView J T) (end : Receiving J T) : Type 0 where
    pub beside : AreBeside fits recorded ends
    pub known : sender ≤ recorded.core.cores
    pub seat : IsSameSeat recorded now
    pub its_own : IsInOf sender now end.inward
    pub others : (other : ℕ) → other ≢ sender → KeepsIn other recorded now
    pub outs : KeepsOuts (desk_of recorded) (desk_of now)
    pub lanes : now.lanes ≡ recorded.lanes
    pub link : end.link ≡ (in_at sender ends).link
    pub sees : length (in_at sender ends).inward.seen ≤ length end.inward.seen
    pub opening : opening_of now.journal.notes ≡ opening_of recorded.journal.notes
    pub grows : Grows recorded.journal.notes now.journal.notes

module _ {J T : Type 0} {fits : Order J → Outcome J T → Type 0} where
  -- a step that leaves the ends on which the actor sends, and their lanes
  pub sends_kept : (old new : RecordedView J T) (ends : EndsView J T) → KeepsOuts (desk_of old) (desk_of new) → new.lanes ≡ old.lanes → IsSameSeat old new → SendsOn fits old ends → SendsOn fits new ends
  sends_kept old new ends outs same seat are = record {
    count = are.count ∙ sym seat.cores;
    beside = λ core end there. (outs core).each end.out end.credited (are.beside core end there);
    lanes = λ core end there.
        let had = are.lanes core end there in
        record { lane = had.lane; is = ap (λ lanes. slice_get lanes core) same ∙ had.is; lane_of = had.lane_of };
  }

  pub in_place : (sender : ℕ) (recorded : RecordedView J T) (ends : EndsView J T) → AreBeside fits recorded ends → sender ≤ recorded.core.cores → sender < length ends.ins
  in_place sender recorded ends beside known = omega (arith, beside.ins_are, known)

  -- the end of a sender is beside the core
  pub lent_beside : {sender : ℕ} {recorded : RecordedView J T} {ends : EndsView J T} {end : Receiving J T} → AreBeside fits recorded ends → sender ≤ recorded.core.cores → end ≡ in_at sender ends → IsInOf sender recorded end.inward
  lent_beside {sender} {recorded} beside known is = subst (λ end. IsInOf sender recorded end.inward) (sym is) (beside.ins sender known)

  module _ {sender : ℕ} {recorded now : RecordedView J T} {ends : EndsView J T} {end : Receiving J T} (step : StepsOn fits sender recorded now ends end) where
    here : sender < length ends.ins
    here = in_place sender recorded ends step.beside step.known

    pub end_now : in_at sender (with_in sender end ends) ≡ end
    end_now = get_or-set_same ends.ins sender end no_in here

    ins_now : (other : ℕ) → other ≤ now.core.cores → IsInOf other now (in_at other (with_in sender end ends)).inward
    ins_now other known =
        ⊎_elim
        (λ (is : other ≡ sender).
        subst (λ one. IsInOf one now (in_at one (with_in sender end ends)).inward) (sym is)
        (subst (λ lent. IsInOf sender now lent.inward) (sym end_now) step.its_own))
        (λ (away : other ≢ sender).
        subst (λ lent. IsInOf other now lent.inward) (sym (get_or-set_other ends.ins sender other end no_in away))
        ((step.others other away).each _ (step.beside.ins other (omega (arith, known, step.seat.cores)))))
        (cases_eq other sender)

    pub beside_now : AreBeside fits now (with_in sender end ends)
    beside_now = record {
      number = step.beside.number ∙ sym step.seat.number;
      ins_are = length-set ends.ins sender end ∙ step.beside.ins_are ∙ ap (λ cores. cores + 1) (sym step.seat.cores);
      outs = sends_kept recorded now ends step.outs step.lanes step.seat step.beside.outs;
      ins = ins_now;
    }

    pub same_ends : SameEnds ends (with_in sender end ends)
    same_ends = in_used ends sender end here step.link

    pub put_sees : SeesNoLess ends (with_in sender end ends)
    put_sees = in_put_sees sender ends end here step.sees

    -- each other end is as it was, and so are those on which the actor sends
    pub others_put : (other : ℕ) → other ≢ sender → in_at other (with_in sender end ends) ≡ in_at other ends
    others_put other away = get_or-set_other ends.ins sender other end no_in away

  -- the outcome that was owed is given
  module _ {from : ℕ} {owed : Option (JobId × OutcomeNote T)} {recorded : RecordedView J T} {ends : EndsView J T} (owing : AreOwing fits from owed recorded ends) (known : from ≤ recorded.core.cores) {before : Receiving J T} (is : before ≡ in_at from ends) where
    here_owing : from < length ends.ins
    here_owing = omega (arith, owing.ins_are, known)

    pub owing_end : IsInOwing from owed recorded before.inward
    owing_end = subst (λ end. IsInOwing from owed recorded end.inward) (sym is) owing.owed

    module _ (end : Receiving J T) (gave : IsInOf from recorded end.inward) (link : end.link ≡ before.link) where
      ins_given : (other : ℕ) → other ≤ recorded.core.cores → IsInOf other recorded (in_at other (with_in from end ends)).inward
      ins_given other there =
          ⊎_elim
          (λ (is : other ≡ from).
          subst (λ one. IsInOf one recorded (in_at one (with_in from end ends)).inward) (sym is)
          (subst (λ lent. IsInOf from recorded lent.inward) (sym (get_or-set_same ends.ins from end no_in here_owing)) gave))
          (λ (away : other ≢ from).
          subst (λ lent. IsInOf other recorded lent.inward) (sym (get_or-set_other ends.ins from other end no_in away)) (owing.ins other there away))
          (cases_eq other from)

      pub given_beside : AreBeside fits recorded (with_in from end ends)
      given_beside = record {
        number = owing.number;
        ins_are = length-set ends.ins from end ∙ owing.ins_are;
        outs = owing.outs;
        ins = ins_given;
      }

      pub given_ends : SameEnds ends (with_in from end ends)
      given_ends = in_used ends from end here_owing (link ∙ ap (λ end. end.link) is)

      pub given_sees : end.inward.seen ≡ before.inward.seen → SeesNoLess ends (with_in from end ends)
      given_sees same =
          let count : length end.inward.seen ≡ length (in_at from ends).inward.seen = ap length (same ∙ ap (λ end. end.inward.seen) is) in
          in_put_sees from ends end here_owing (omega (arith, count))
