-- The calls of a desk on the lane that they took: an order is submitted, a ticket is redeemed or detached, or each is refused.
use Rattle.actor_desk.proofs.Names.{◌≡◌, inl, inr, ℕ, ◌+◌, true, false, Some, [], ◌∷◌, ◌++◌, length, refl, sym}
use Rattle.actor_desk.proofs.Names.{◌∙◌, ap, subst, arith, set, Ok, Err, is_some, slice_get, count_by, eqb_tells}
use Rattle.actor_desk.proofs.Names.{length-append, JobId, Order, Outcome, SendError, Closed, Full, NoCore}
use Rattle.actor_desk.proofs.Names.{Journal, is_told, accepted_orders, IsNextSent, IsSpelledOrder, without_job}
use Rattle.actor_desk.proofs.Names.{outstanding_count, is_outstanding, is_gone, name_redeemed, name_detached}
use Rattle.actor_desk.proofs.Names.{Outward, Sends, JournalView, at, Adds, Lane, IsLaneOf, changed, unchanged}
use Rattle.actor_desk.proofs.Names.{numbered_orders, DeskView, IsWritten, Submits, terms_of_desk, IsOutOf}
use Rattle.actor_desk.proofs.Names.{name_of, KnowsLane, KnowsLanes, StaysBeside, is_let_go, HasLane, ◌≢◌}
use Rattle.actor_desk.proofs.Names.{KeepsOut, ◌<◌, count_of}
use Rattle.std.proofs.lemmas.List.{length-set}
use Rattle.base_words.specs.declared.note.Note.TheVariants as writes
use Rattle.base_words.specs.declared.order.SendError.TheVariants.{Spent}
use Rattle.actor_desk.specs.declared.entry.Entry.TheVariants.{Pending}
use Rattle.actor_desk.proofs.LaneNotes.{plainly_stands}
use Rattle.actor_desk.proofs.NumberedOrders.{counted-more, length-numbered, numbered-append}
use Rattle.actor_desk.proofs.LaneNotes.{neither, set_there, slice_get-set_other}
use Rattle.actor_desk.proofs.Desked.{name_at, desk_same, HasTaken, HasNoted, carry, refused_stays}
use Rattle.actor_desk.proofs.Spending.{spent_sent, due_sent}
use Rattle.actor_desk.proofs.Spending.{carried_spends}

module _ {J T : Type 0} (core : ℕ) (desk : DeskView J T) (out now : Outward J T) (credited : ℕ) (is : IsOutOf core desk out credited)
    (order : Order J) (written : IsWritten (terms_of_desk desk) desk.journal.notes) (known : KnowsLanes desk) (lane later : Lane J T) (lane_is : slice_get desk.lanes core ≡ Some lane) where
  abbrev journal : Journal T
  journal = desk.journal.notes

  accepted_count : length (accepted_orders core journal) ≡ length out.sent
  accepted_count = ap length is.accepted ∙ length-numbered desk.actor core 0 out.sent

  was_known : KnowsLane desk.actor core journal lane
  was_known = known.each core lane lane_is

  -- the order is accepted under this number
  module _ (number : ℕ) (sends : Sends out credited order now (Ok number)) (spelled : IsSpelledOrder (without_job order)) {fits : Order J → Outcome J T → Type 0}
      (lane_of : IsLaneOf fits later now credited) (adds : Adds lane.entries later.entries number Pending) where
    abbrev name : JobId
    name = name_of desk.actor core number

    abbrev pub submitted : DeskView J T
    submitted = record desk { journal = record desk.journal { notes = writes.Sent name (without_job order) ∷ journal }; lanes = set desk.lanes core later }

    abbrev longer : Journal T
    longer = submitted.journal.notes

    next_sent : IsNextSent (terms_of_desk desk) name (without_job order) journal
    next_sent = grind (arith, accepted_count)

    submits-accepted : Submits core order desk (Ok name) submitted
    submits-accepted = (next_sent, refl, refl)

    written-accepted : IsWritten (terms_of_desk desk) longer
    written-accepted = record {
      notes = (plainly_stands (terms_of_desk desk) (writes.Sent name (without_job order)) journal tt next_sent written.no_pick written.no_answer refl tt, written.notes);
      no_pick = refl;
      no_answer = refl;
    }

    accepted_here : accepted_orders core longer ≡ accepted_orders core journal ++ (name, without_job order) ∷ []
    accepted_here = grind arith

    accepted_there : (other : ℕ) → (other ≡ core → ⊥) → accepted_orders other longer ≡ accepted_orders other journal
    accepted_there other away = grind arith

    sent_now : now.sent ≡ out.sent ++ order ∷ []
    sent_now = ap (λ end. end.sent) sends.4

    next_number : number ≡ lane.count + 1
    next_number = omega (arith, sends.2, is.base, accepted_count, was_known.count)

    one_more : later.count ≡ lane.count + 1
    one_more = omega (arith, lane_of.count, ap length sent_now, length-append out.sent (order ∷ []), accepted_count, was_known.count)

    not_gone : is_gone name journal ≡ false
    not_gone = was_known.unsent number (omega (arith, next_number))

    waits_now : is_outstanding name journal ≡ true
    waits_now = grind (arith, neither (is_told name_redeemed name journal) (is_told name_detached name journal) false not_gone)

    later_known : KnowsLane desk.actor core longer later
    later_known = record {
      count = one_more ∙ (ap (λ count. count + 1) was_known.count ∙ sym (ap length accepted_here ∙ length-append (accepted_orders core journal) ((name, without_job order) ∷ [])));
      last = omega (arith, lane_of.last (omega (arith, one_more)), ap (λ end. end.base) sends.4, is.base);
      gone = λ n low high. elim (eqb_tells n number) [
        | inl same ↦ subst (λ n. is_gone (name_of desk.actor core n) journal ≡ is_let_go (at later.entries n)) (sym same.1) (not_gone ∙ ap is_let_go (sym adds.here))
        | inr away ↦ was_known.gone n low (omega (arith, high, one_more, next_number, away.1)) ∙ ap is_let_go (sym (adds.others n away.1))
      ];
      waits = λ n low high. elim (eqb_tells n number) [
        | inl same ↦ subst (λ n. is_outstanding (name_of desk.actor core n) journal ≡ is_some (at later.entries n)) (sym same.1) (waits_now ∙ ap is_some (sym adds.here))
        | inr away ↦ was_known.waits n low (omega (arith, high, one_more, next_number, away.1)) ∙ ap is_some (sym (adds.others n away.1))
      ];
      unsent = λ n past. was_known.unsent n (omega (arith, past, one_more));
    }

    others_known : (other : ℕ) → (other ≡ core → ⊥) → (its : Lane J T) → KnowsLane desk.actor other journal its → KnowsLane desk.actor other longer its
    others_known other away its was = record { count = was.count ∙ sym (ap length (accepted_there other away)); last = was.last; gone = was.gone; waits = was.waits; unsent = was.unsent }

    knows-accepted : KnowsLanes submitted
    knows-accepted = record {
      cores_are = length-set desk.lanes core later ∙ known.cores_are;
      each = λ other its there. elim (eqb_tells other core) [
        | inl same ↦
            subst (KnowsLane desk.actor other longer) (sym (changed desk.lanes core other later its there same.1))
            (subst (λ core. KnowsLane desk.actor core longer later) (sym same.1) later_known)
        | inr away ↦ others_known other away.1 its (known.each other its (unchanged desk.lanes core other later its there away.1))
      ];
    }

    stays-accepted : StaysBeside fits core desk submitted now credited
    stays-accepted =
        let accepted =
        accepted_here
        ∙ (ap (λ orders. orders ++ (name, without_job order) ∷ []) is.accepted
        ∙ (ap (λ at. numbered_orders desk.actor core 0 out.sent ++ (name_of desk.actor core at, without_job order) ∷ []) (omega (arith, sends.2, is.base))
        ∙ sym (numbered-append desk.actor core 0 out.sent order))) in
        let all : outstanding_count core longer ≡ outstanding_count core journal + 1 =
        ap (count_by (λ sent. is_outstanding sent.0 journal)) accepted_here ∙ counted-more (λ sent. is_outstanding sent.0 journal) (accepted_orders core journal) (name, without_job order) waits_now in
        let outstanding : outstanding_count core longer + credited ≡ length (out.sent ++ order ∷ []) = omega (arith, all, length-append out.sent (order ∷ []), is.outstanding) in
        let beside = subst (λ now. IsOutOf core submitted now credited) (sym sends.4) (assumption (accepted, outstanding)) in
        let its_lane : HasLane fits core submitted now credited = record { lane = later; is = set_there desk.lanes core lane later lane_is; lane_of = lane_of } in
        let others : (other : ℕ) → other ≢ core → KeepsOut other desk submitted = λ other away. record {
          each = λ end given_back beside.
              assumption (accepted_there other away ∙ beside.accepted, ap (λ orders. count_by (λ sent. is_outstanding sent.0 journal) orders + given_back) (accepted_there other away) ∙ beside.outstanding);
        } in
        assumption (beside, others, λ (other : ℕ) (away : other ≢ core). slice_get-set_other desk.lanes core other later away, written-accepted, knows-accepted)

    -- the desk whose journal got this note
    module _ (noted : JobId) (noted_is : noted ≡ name) (told : Order (Unit {0})) (told_is : told ≡ without_job order) (page : JournalView T)
        (pushed : page ≡ record desk.journal { notes = writes.Sent noted told ∷ journal }) where
      submitted_is : record desk { journal = page; lanes = set desk.lanes core later } ≡ submitted
      submitted_is = ap (λ page. record desk { journal = page; lanes = set desk.lanes core later }) (pushed ∙ (λ i. record desk.journal { notes = writes.Sent (noted_is i) (told_is i) ∷ journal }))

      pub stays-now : StaysBeside fits core desk (record desk { journal = page; lanes = set desk.lanes core later }) now credited
      stays-now = subst (λ new. StaysBeside fits core desk new now credited) (sym submitted_is) stays-accepted

      pub submits-now : (ticket : JobId) → ticket ≡ name → Submits core order desk (Ok ticket) (record desk { journal = page; lanes = set desk.lanes core later })
      submits-now ticket ticket_is =
          subst (λ now. Submits core order desk (Ok ticket) now) (sym submitted_is)
          (subst (λ ticket. Submits core order desk (Ok ticket) submitted) (sym ticket_is) submits-accepted)

  -- the order is refused
  pub beside-refused : (error : SendError J) → Sends out credited order now (Err error) → IsOutOf core desk now credited
  beside-refused (Closed back final) sends = subst (λ end. IsOutOf core desk end credited) (sym sends.2) assumption
  beside-refused (Full back) sends = subst (λ end. IsOutOf core desk end credited) (sym sends.3) is
  beside-refused (Spent back) sends = subst (λ end. IsOutOf core desk end credited) (sym sends.4) is
  beside-refused (NoCore back) sends = absurd sends

  pub submits-refused : (error : SendError J) → Sends out credited order now (Err error) → Submits core order desk (Err error) desk
  submits-refused (Closed back final) sends = (sends.0, omega (arith, sends.1, is.base, accepted_count), refl)
  submits-refused (Full back) sends = (sends.0, omega (arith, sends.2, is.outstanding, is.capacity), refl)
  submits-refused (Spent back) sends =
      (sends.0, omega (arith, sends.2, is.outstanding, is.capacity), omega (arith, sends.3, is.base, accepted_count), refl)
  submits-refused (NoCore back) sends = absurd sends

module _ {J T : Type 0} {fits : Order J → Outcome J T → Type 0} {desk now : DeskView J T} {core to : ℕ} {lane : Lane J T} {out : Outward J T} {credited : ℕ}
    (taken : HasTaken fits desk now core to lane out credited) {later : Lane J T} {end : Outward J T} {after : ℕ} (later_of : IsLaneOf fits later end after)
    (after_is : after ≡ credited) (order : Order J) where
  -- an order is accepted under this number, and noted
  pub submitted_call : {number : ℕ} → Sends out credited order end (Ok number) → Adds lane.entries later.entries number Pending →
      {told : Order (Unit {0})} → told ≡ without_job order → IsSpelledOrder told → {ticket noted : JobId} → ticket ≡ name_at desk.actor number to → noted ≡ ticket →
      {page : JournalView T} → page ≡ record desk.journal { notes = writes.Sent noted told ∷ desk.journal.notes } →
      HasNoted fits to 3 (Submits to order now (Ok ticket) (record desk { journal = page; lanes = set desk.lanes core later })) now (record desk { journal = page; lanes = set desk.lanes core later }) end after
  submitted_call {number} sends adds {told} told_is spelled {ticket} {noted} ticket_is noted_is {page} page_is =
      let new : DeskView J T = record desk { journal = page; lanes = set desk.lanes core later } in
      let name_is : ticket ≡ name_at desk.actor number core = ticket_is ∙ ap (name_at desk.actor number) (sym taken.core_is) in
      let is_spelled = subst IsSpelledOrder told_is spelled in
      let its_lane = subst (IsLaneOf fits later end) after_is later_of in
      record {
        does_so =
            carry taken (λ at before. Submits at order before (Ok ticket) new)
            (submits-now core desk out end credited taken.beside order taken.written taken.known lane later taken.there number sends is_spelled its_lane adds
            noted (noted_is ∙ name_is) told told_is page page_is ticket name_is);
        stays =
            carry taken (λ at before. StaysBeside fits at before new end after)
            (subst (StaysBeside fits core desk new end) (sym after_is)
            (stays-now core desk out end credited taken.beside order taken.written taken.known lane later taken.there number sends is_spelled its_lane adds
            noted (noted_is ∙ name_is) told told_is page page_is));
        spends =
            let capacity = later_of.room ∙ (ap (λ end. end.capacity) sends.4 ∙ sym taken.lane_of.room) in
            let free : count_of lane.entries < lane.room = omega (arith, taken.lane_of.outstanding, taken.lane_of.room, sends.1) in
            carried_spends desk now new taken.is core to taken.core_is lane later taken.there refl (spent_sent lane later number capacity adds free) 3 (due_sent lane later number adds);
      }

  -- an order is refused
  pub submit_refused : (error : SendError J) → Sends out credited order end (Err error) → later ≡ lane →
      Submits to order now (Err error) (record desk { lanes = set desk.lanes core later }) × StaysBeside fits to now (record desk { lanes = set desk.lanes core later }) end after
  submit_refused error sends same = (
    carry taken (λ at before. Submits at order before (Err error) (record desk { lanes = set desk.lanes core later }))
        (subst (Submits core order desk (Err error)) (sym (desk_same desk taken.known core lane later taken.there same))
        (submits-refused core desk out end credited taken.beside order taken.written taken.known lane later taken.there error sends)),
    refused_stays taken later_of same
        (subst (IsOutOf core desk end) (sym after_is) (beside-refused core desk out end credited taken.beside order taken.written taken.known lane later taken.there error sends)),
  )
