-- A refused call on a lent end leaves all as it was.
use Rattle.actor_seat.proofs.Names.{ap, ap₂, arith, desk_of, DeskView, DetachesTicket, EndsView, Err, Fits, IsOutOf, JobId, length, LinkedView, List, Meaning, no_out, Ok, on_err_weaker, OnErr, Outcome, OutsideView, Outward, RecordedView}
use Rattle.actor_seat.proofs.Names.{RedeemsTicket, Result, Sending, set-get_or, StaysBeside, subst, TicketError, with_out, ℕ, ◌∙◌, ◌≡◌}
use Rattle.base_words.specs.declared.names.TicketError.TheVariants.{Unknown, Gone, Pending}
use Rattle.actor_seat.proofs.LentOut.{LendsOut, out_beside}
use Rattle.actor_seat.proofs.OutsideSeats.{LendsAt, as_lent}

module _ {J T : Type 0} where
  -- a refused ticket leaves the desk
  pub redeem_leaves : (name : JobId) (old : DeskView J T) (answer : Result (Outcome J T) TicketError) (new : DeskView J T) → RedeemsTicket name old answer new → OnErr answer (new ≡ old)
  redeem_leaves name old (Ok outcome) new redeems = tt
  redeem_leaves name old (Err error) new redeems = redeems.1

  pub detach_leaves : (name : JobId) (old : DeskView J T) (answer : Result (Unit {0}) TicketError) (new : DeskView J T) → DetachesTicket name old answer new → OnErr answer (new ≡ old)
  detach_leaves name old (Ok done) new detaches = tt
  detach_leaves name old (Err Pending) new detaches = absurd detaches
  detach_leaves name old (Err Unknown) new detaches = detaches.1
  detach_leaves name old (Err Gone) new detaches = detaches.1

  abbrev pub sending : List ℕ → Outward J T → ℕ → Sending J T
  sending link out credited = record { link = link; out = out; credited = credited }

  abbrev pub linked : RecordedView J T → EndsView J T → LinkedView J T
  linked recorded ends = record { recorded = recorded; ends = ends }

  abbrev pub outside : DeskView J T → EndsView J T → OutsideView J T
  outside desk ends = record { desk = desk; ends = ends }

module _ {J T : Type 0} {meaning : Meaning J T} {core : ℕ} {desk : DeskView J T} {ends : EndsView J T} {before : Sending J T} (lent : LendsOut meaning core desk ends before) {after : Sending J T}
    (link : after.link ≡ before.link) (out : after.out ≡ before.out) where
  -- an end with the same link, of which the same is known, beside the same desk
  same_end : IsOutOf core desk after.out after.credited → after ≡ before
  same_end beside =
      let credited : after.credited ≡ before.credited = omega (arith, beside.outstanding, (out_beside lent).outstanding, ap (λ out. length out.sent) out) in
      ap (λ link. sending link after.out after.credited) link ∙ (ap (λ out. sending before.link out after.credited) out ∙ ap (sending before.link before.out) credited)

  -- so all ends are as they were, if the desk is
  same_ends : {now : DeskView J T} → StaysBeside (Fits meaning) core desk now after.out after.credited → now ≡ desk → with_out core after ends ≡ ends
  same_ends stays same =
      ap (λ end. with_out core end ends) (same_end (subst (λ desk. IsOutOf core desk after.out after.credited) same stays.beside) ∙ lent.is)
      ∙ ap (λ outs. record ends { outs = outs }) (set-get_or ends.outs core no_out)

module _ {J T A : Type 0} {meaning : Meaning J T} (answer : Result A TicketError) {core : ℕ} {ends : EndsView J T} {before after : Sending J T} (link : after.link ≡ before.link) (out : after.out ≡ before.out) where
  -- where a refused call leaves the desk, it leaves the core and its ends
  pub linked_stays : (recorded now : RecordedView J T) → LendsOut meaning core (desk_of recorded) ends before → now ≡ record recorded { journal = now.journal; lanes = now.lanes } →
      StaysBeside (Fits meaning) core (desk_of recorded) (desk_of now) after.out after.credited → OnErr answer (desk_of now ≡ desk_of recorded) → OnErr answer (linked now (with_out core after ends) ≡ linked recorded ends)
  linked_stays recorded now lent rest stays = on_err_weaker answer (λ same.
      let core_is : now ≡ recorded = rest ∙ ap (λ (desk : DeskView J T). record recorded { journal = desk.journal; lanes = desk.lanes }) same in
      ap₂ linked core_is (same_ends lent link out stays same))

  -- so it does the outside actor
  pub outside_stays : {at : ℕ} {view : OutsideView J T} {desk now : DeskView J T} → LendsAt meaning view desk ends core at before → StaysBeside (Fits meaning) core desk now after.out after.credited → OnErr answer (now ≡ desk) →
      OnErr answer (outside now (with_out at after ends) ≡ view)
  outside_stays {now = now} lends stays = on_err_weaker answer (λ same.
      ap (λ number. outside now (with_out number after ends)) lends.here ∙ (ap₂ outside same (same_ends (as_lent lends) link out stays same) ∙ lends.is))
