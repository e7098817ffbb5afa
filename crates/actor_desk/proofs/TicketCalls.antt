-- What a call on a ticket does, at the lane that was taken out.
use Rattle.actor_desk.proofs.Names.{◌≡◌, ℕ, ◌∷◌, refl, sym}
use Rattle.actor_desk.proofs.Names.{◌∙◌, ap, subst, set, Ok, Err}
use Rattle.actor_desk.proofs.Names.{JobId, Order, Outcome}
use Rattle.actor_desk.proofs.Names.{Outward, JournalView, Lane, IsLaneOf}
use Rattle.actor_desk.proofs.Names.{DeskView, IsOutOf}
use Rattle.actor_desk.proofs.Names.{name_of, StaysBeside}
use Rattle.actor_desk.proofs.Names.{TicketError, OutcomeNote, outcome_note, IsGot}
use Rattle.actor_desk.proofs.Names.{Redeems, Detaches, RedeemsTicket, DetachesTicket}
use Rattle.base_words.specs.declared.note.Note.TheVariants as writes
use Rattle.actor_desk.proofs.Desked.{desk_same, carried, HasTaken, HasNoted, refused_stays}
use Rattle.actor_desk.proofs.Redeemed.{redeems_ticket, redeemed_stays, detaches_ticket, detached_stays}
use Rattle.actor_desk.proofs.Redeemed.{detaches_refused, refuses}
use Rattle.actor_desk.proofs.Spending.{within_room, spent_gone, due_gone, spent_detached}
use Rattle.actor_desk.proofs.Spending.{due_detached, carried_spends}

-- the calls on a ticket, which change nothing of the end but its credits
module _ {J T : Type 0} {fits : Order J → Outcome J T → Type 0} {desk now : DeskView J T} {core : ℕ} (ticket : JobId) {lane : Lane J T} {out : Outward J T} {credited : ℕ}
    (taken : HasTaken fits desk now core ticket.to lane out credited) {number : ℕ} (named : name_of desk.actor core number ≡ ticket)
    {later : Lane J T} {end : Outward J T} {after : ℕ} (later_of : IsLaneOf fits later end after) (end_is : end ≡ out) where
  its_later : IsLaneOf fits later out after
  its_later = subst (λ out. IsLaneOf fits later out after) end_is later_of

  room : later ≡ record lane { entries = later.entries } → later.room ≡ lane.room
  room rest = ap (λ lane. lane.room) rest

  beside : after ≡ credited → IsOutOf core desk end after
  beside same = subst (λ end. IsOutOf core desk end after) (sym end_is) (subst (IsOutOf core desk out) (sym same) taken.beside)

  -- an outcome is redeemed, and that is noted
  pub redeemed_call : {outcome : Outcome J T} → IsGot out number outcome → Redeems lane later number credited after (Ok outcome) →
      {noted : JobId} {told : OutcomeNote T} → noted ≡ ticket → told ≡ outcome_note outcome →
      {page : JournalView T} → page ≡ record desk.journal { notes = writes.Redeemed noted told ∷ desk.journal.notes } →
      HasNoted fits ticket.to 0 (RedeemsTicket ticket now (Ok outcome) (record desk { journal = page; lanes = set desk.lanes core later })) now (record desk { journal = page; lanes = set desk.lanes core later }) end after
  redeemed_call {outcome} got redeems noted_is told_is {page} page_is =
      let new : DeskView J T = record desk { journal = page; lanes = set desk.lanes core later } in
      let is = page_is ∙ (λ i. record desk.journal { notes = writes.Redeemed ((noted_is ∙ sym named) i) (told_is i) ∷ desk.journal.notes }) in
      let its = redeems_ticket desk taken.written taken.known core number out credited taken.beside lane later taken.there taken.lane_of after outcome redeems got in
      record {
        does_so =
            subst (λ before. RedeemsTicket ticket before (Ok outcome) new) taken.is
            (subst (λ name. RedeemsTicket name desk (Ok outcome) new) named (its.0, its.1, is));
        stays =
            carried desk now taken.is core ticket.to taken.core_is end after (set desk.lanes core later) (writes.Redeemed (name_of desk.actor core number) (outcome_note outcome)) page is out end_is
            (redeemed_stays desk taken.written taken.known core number out credited taken.beside lane later taken.there taken.lane_of after outcome redeems got its_later);
        spends =
            carried_spends desk now new taken.is core ticket.to taken.core_is lane later taken.there refl
            (spent_gone lane later number (room redeems.1) outcome redeems.0 (within_room lane out credited taken.lane_of)) 0 (due_gone lane later number outcome redeems.0);
      }

  -- a redemption is refused
  pub redeem_refused : (error : TicketError) → Redeems lane later number credited after (Err error) →
      RedeemsTicket ticket now (Err error) (record desk { lanes = set desk.lanes core later }) × StaysBeside fits ticket.to now (record desk { lanes = set desk.lanes core later }) end after
  redeem_refused error refused = (
    subst (λ before. RedeemsTicket ticket before (Err error) (record desk { lanes = set desk.lanes core later })) taken.is
        (subst (λ name. RedeemsTicket name desk (Err error) (record desk { lanes = set desk.lanes core later })) named
        (refuses desk core number lane (taken.known.each core lane taken.there) out credited taken.beside taken.lane_of error refused.0, desk_same desk taken.known core lane later taken.there refused.1)),
    refused_stays taken later_of refused.1 (beside refused.2),
  )

  -- a submission is detached, and that is noted
  pub detached_call : (done : Unit {0}) → Detaches lane later number credited after (Ok done) → {noted : JobId} → noted ≡ ticket →
      {page : JournalView T} → page ≡ record desk.journal { notes = writes.Detached noted ∷ desk.journal.notes } →
      HasNoted fits ticket.to 0 (DetachesTicket ticket now (Ok done) (record desk { journal = page; lanes = set desk.lanes core later })) now (record desk { journal = page; lanes = set desk.lanes core later }) end after
  detached_call done detaches noted_is {page} page_is =
      let new : DeskView J T = record desk { journal = page; lanes = set desk.lanes core later } in
      let is = page_is ∙ (λ i. record desk.journal { notes = writes.Detached ((noted_is ∙ sym named) i) ∷ desk.journal.notes }) in
      record {
        does_so =
            subst (λ before. DetachesTicket ticket before (Ok done) new) taken.is
            (subst (λ name. DetachesTicket name desk (Ok done) new) named
            (detaches_ticket desk taken.written taken.known core number out credited taken.beside lane later taken.there taken.lane_of after done detaches, is));
        stays =
            carried desk now taken.is core ticket.to taken.core_is end after (set desk.lanes core later) (writes.Detached (name_of desk.actor core number)) page is out end_is
            (detached_stays desk taken.written taken.known core number out credited taken.beside lane later taken.there taken.lane_of after done detaches its_later);
        spends =
            carried_spends desk now new taken.is core ticket.to taken.core_is lane later taken.there refl
            (spent_detached lane later number credited after done detaches (within_room lane out credited taken.lane_of)) 0 (due_detached lane later number credited after done detaches);
      }

  -- a submission can't be detached
  pub detach_refused : (error : TicketError) → Detaches lane later number credited after (Err error) →
      DetachesTicket ticket now (Err error) (record desk { lanes = set desk.lanes core later }) × StaysBeside fits ticket.to now (record desk { lanes = set desk.lanes core later }) end after
  detach_refused error refuses =
      let refused = detaches_refused desk taken.written taken.known core number out credited taken.beside lane later taken.there taken.lane_of after error refuses in (
        subst (λ before. DetachesTicket ticket before (Err error) (record desk { lanes = set desk.lanes core later })) taken.is
            (subst (λ name. DetachesTicket name desk (Err error) (record desk { lanes = set desk.lanes core later })) named refused.0),
        refused_stays taken later_of refused.1 (beside refused.2),
      )
