-- Why a ticket is refused, as the lane says it and as the notes do; and how it is redeemed or detached.
use Rattle.actor_desk.proofs.Names.{◌≡◌, inl, inr, ℕ, ◌+◌, ◌-◌, ◌<◌, ◌≤◌, false, length, Some, ◌∙◌, ap, subst}
use Rattle.actor_desk.proofs.Names.{arith, is_some, IsSome, slice_get, take, length-take, slice_get_within}
use Rattle.actor_desk.proofs.Names.{JobId, TicketError, Unknown, Gone, Order, Outcome, first_under}
use Rattle.actor_desk.proofs.Names.{accepted_orders, Journal, is_told, without_job, name_collected, Outward}
use Rattle.actor_desk.proofs.Names.{Lane, IsLaneOf, IsAwaited, Refuses, get-taken, numbered_orders, DeskView}
use Rattle.actor_desk.proofs.Names.{IsOutOf, name_of, KnowsLane, RefusesTicket, is_let_go, ◌≢◌, Bool, true, ◌∷◌}
use Rattle.actor_desk.proofs.Names.{refl, sym, set, ◌&&◌, ◌||◌, not, Ok, Err, IsRedeemable, IsDetachable}
use Rattle.actor_desk.proofs.Names.{outcome_note, outstanding_count, is_gone, is_outstanding, name_redeemed}
use Rattle.actor_desk.proofs.Names.{name_detached, same_as_itself, at, IsGot, Redeems, Detaches, Stands-sent}
use Rattle.actor_desk.proofs.Names.{taken-get, IsWritten, terms_of_desk, KnowsLanes, StaysBeside, DetachesTicket}
use Rattle.base_words.specs.declared.names.TicketError.TheVariants.{Pending}
use Rattle.actor_desk.specs.declared.entry.Entry.TheVariants as entry
use Rattle.actor_desk.proofs.NumberedOrders.{order_at, numbered-missing, named-missing, uncollected}
use Rattle.actor_desk.proofs.NumberedOrders.{first_under-numbered, named-found, unknown_name, collected_told}
use Rattle.base_words.specs.declared.note.Note.TheVariants as writes
use Rattle.actor_desk.proofs.Desked.{desk_same}
use Rattle.actor_desk.proofs.LaneNotes.{stays_noted, as_many, one_less, redeemed_note, detached_note, neither}

module _ {J T : Type 0} {fits : Order J → Outcome J T → Type 0} (desk : DeskView J T) (core number : ℕ) (lane : Lane J T) (known : KnowsLane desk.actor core desk.journal.notes lane)
    (out : Outward J T) (credited : ℕ) (is : IsOutOf core desk out credited) (lane_of : IsLaneOf fits lane out credited) where
  abbrev noted : Journal T
  noted = desk.journal.notes

  abbrev ticket : JobId
  ticket = name_of desk.actor core number

  all_sent : lane.count ≡ length out.sent
  all_sent = lane_of.count

  -- a number that was sent has an order
  pub accepted_at : 0 < number → number ≤ lane.count → (order : Order J) × (slice_get out.sent (number - 1) ≡ Some order) × (first_under ticket (accepted_orders core noted) ≡ Some (without_job order))
  accepted_at low high =
      let found = order_at out.sent number low (omega (arith, high, all_sent)) in
      let place : 0 + (number - 1) + 1 ≡ number = omega (arith, low) in (
        found.0,
        found.1,
        ap (first_under ticket) is.accepted
            ∙ subst (λ at. first_under (name_of desk.actor core at) (numbered_orders desk.actor core 0 out.sent) ≡ Some (without_job found.0)) place (first_under-numbered desk.actor core 0 out.sent (number - 1) found.0 found.1),
      )

  pub is_accepted : 0 < number → number ≤ lane.count → IsSome (first_under ticket (accepted_orders core noted))
  is_accepted low high = ap is_some (accepted_at low high).2

  -- a number that waits for its outcome wasn't collected
  pub awaited : IsAwaited out number → is_told name_collected ticket noted ≡ false
  awaited waits =
      uncollected ticket noted
      (ap (first_under ticket) is.collected
      ∙ named-missing desk.actor core number (take out.got out.seen) (λ place found there.
      waits place found (omega (arith, slice_get_within (take out.got out.seen) place found there, length-take out.got out.seen)) (get-taken out.got out.seen place found there)))

  pub refuses : (error : TicketError) → Refuses lane number error → RefusesTicket ticket error noted
  refuses Unknown unknown =
      ap (first_under ticket) is.accepted
      ∙ numbered-missing desk.actor core 0 out.sent number (λ low high. unknown (omega (arith, known.last, low), omega (arith, known.last, all_sent, high)))
  refuses Gone why =
      let low : 0 < number = omega (arith, known.last, why.0.0) in let high : number ≤ lane.count = omega (arith, known.last, why.0.1) in
      (is_accepted low high, known.gone number low high ∙ elim why.1 [ inl none ↦ ap is_let_go none | inr detached ↦ ap is_let_go detached ])
  refuses Pending why =
      let low : 0 < number = omega (arith, known.last, why.0.0) in let high : number ≤ lane.count = omega (arith, known.last, why.0.1) in
      (is_accepted low high, known.gone number low high ∙ ap is_let_go why.1, awaited (lane_of.standing number entry.Pending why.1).1)

or-true : (test : Bool) → (test || true) ≡ true
or-true test = grind arith

-- nothing was accepted under another's name
pub foreign : {J T : Type 0} {desk told : DeskView J T} → desk ≡ told → IsWritten (terms_of_desk desk) desk.journal.notes → {id name : JobId} → id ≡ name → (id.from ≡ desk.actor → id.to < desk.cores → ⊥) → RefusesTicket name Unknown told.journal.notes
foreign {desk} {told} same written {id} {name} is out =
    subst (λ (desk : DeskView _ _). RefusesTicket name Unknown desk.journal.notes) same
    (subst (λ name. RefusesTicket name Unknown desk.journal.notes) is (unknown_name (terms_of_desk desk) id desk.journal.notes written.notes out))

-- the calls at the lane of one core
module _ {J T : Type 0} {fits : Order J → Outcome J T → Type 0} (desk : DeskView J T) (written : IsWritten (terms_of_desk desk) desk.journal.notes) (known : KnowsLanes desk) (core number : ℕ)
    (out : Outward J T) (credited : ℕ) (beside : IsOutOf core desk out credited) (lane later : Lane J T) (there : slice_get desk.lanes core ≡ Some lane) (lane_of : IsLaneOf fits lane out credited) (after : ℕ) where
  abbrev notes : Journal T
  notes = desk.journal.notes

  abbrev name : JobId
  name = name_of desk.actor core number

  was_known : KnowsLane desk.actor core notes lane
  was_known = known.each core lane there

  within : {entry : _} → at lane.entries number ≡ Some entry → (0 < number) × (number ≤ lane.count)
  within {entry} is = grind (arith, Stands-sent out number entry (lane_of.standing number entry is))

  -- what isn't gone was neither redeemed nor detached
  still : is_gone name notes ≡ false → (is_told name_redeemed name notes ≡ false) × (is_told name_detached name notes ≡ false)
  still = neither (is_told name_redeemed name notes) (is_told name_detached name notes) false

  module _ (outcome : Outcome J T) (redeems : Redeems lane later number credited after (Ok outcome)) (got : IsGot out number outcome) where
    redeemable : IsRedeemable name (outcome_note outcome) notes
    redeemable =
        let low = within redeems.0.was in
        record {
          collected = ap (first_under name) beside.collected ∙ named-found desk.actor core number (take out.got out.seen) lane_of.named.1 got.place outcome (taken-get out.got out.seen got.place (number, outcome) got.got got.is);
          kept = was_known.gone number low.0 low.1 ∙ ap is_let_go redeems.0.was;
        }

    pub redeems_ticket : IsRedeemable name (outcome_note outcome) notes × IsSome (first_under name (accepted_orders core notes))
    redeems_ticket = (redeemable, let low = within redeems.0.was in is_accepted desk core number lane was_known out credited beside lane_of low.0 low.1)

    pub redeemed_stays : IsLaneOf fits later out after →
        StaysBeside fits core desk (record desk { journal = record desk.journal { notes = writes.Redeemed name (outcome_note outcome) ∷ notes }; lanes = set desk.lanes core later }) out after
    redeemed_stays later_of =
        let low = within redeems.0.was in
        let gone_now : is_gone name (writes.Redeemed name (outcome_note outcome) ∷ notes) ≡ is_let_go (at later.entries number) =
        ap (λ test. (test || is_told name_redeemed name notes) || is_told name_detached name notes) (same_as_itself name) ∙ ap is_let_go (sym redeems.0.gone) in
        let waits_now : is_outstanding name (writes.Redeemed name (outcome_note outcome) ∷ notes) ≡ is_some (at later.entries number) =
        ap (λ test. not ((test || is_told name_redeemed name notes) || is_told name_detached name notes && is_told name_collected name notes)) (same_as_itself name) ∙ ap is_some (sym redeems.0.gone) in
        stays_noted desk known core number lane later there (writes.Redeemed name (outcome_note outcome)) (redeemed_note name (outcome_note outcome)) redeems.1 redeems.0.others low.0 low.1 gone_now waits_now
        out credited beside out after later_of refl beside.behind beside.collected written redeemable
        (subst (λ after. outstanding_count core (writes.Redeemed name (outcome_note outcome) ∷ notes) + after ≡ length out.sent) (sym redeems.2)
        (one_less desk known core number lane later there (writes.Redeemed name (outcome_note outcome)) (redeemed_note name (outcome_note outcome)) redeems.1 redeems.0.others low.0 low.1 gone_now waits_now
        out credited beside (ap is_some redeems.0.was) (ap is_some redeems.0.gone)))

  -- a submission that is there can be detached
  detachable : {entry : _} → at lane.entries number ≡ Some entry → is_let_go (Some entry) ≡ false → IsDetachable name notes
  detachable {entry} is kept =
      let low = within is in
      let accepted = accepted_at desk core number lane was_known out credited beside lane_of low.0 low.1 in
      record { order = without_job accepted.0; accepted = accepted.2; kept = was_known.gone number low.0 low.1 ∙ (ap is_let_go is ∙ kept) }

  detached_gone : is_gone name (writes.Detached name ∷ notes) ≡ true
  detached_gone = ap (λ test. is_told name_redeemed name notes || (test || is_told name_detached name notes)) (same_as_itself name) ∙ or-true (is_told name_redeemed name notes)

  -- a submission that was detached is outstanding until it is collected
  detached_waits : (collected : Bool) → is_told name_redeemed name notes ≡ false → is_told name_collected name notes ≡ collected → is_outstanding name (writes.Detached name ∷ notes) ≡ not collected
  detached_waits collected redeemed is = grind (arith, same_as_itself name)

  abbrev detached : DeskView J T
  detached = record desk { journal = record desk.journal { notes = writes.Detached name ∷ notes }; lanes = set desk.lanes core later }

  module _ (done : Unit {0}) (detaches : Detaches lane later number credited after (Ok done)) where
    pub detaches_ticket : IsDetachable name notes
    detaches_ticket = elim detaches.1 [ inl waited ↦ detachable waited.0.was refl | inr had ↦ detachable had.1.was refl ]

    pub detached_stays : IsLaneOf fits later out after → StaysBeside fits core desk detached out after
    detached_stays later_of = elim detaches.1 [
      | inl waited ↦
          let low = within waited.0.was in
          let still = still (was_known.gone number low.0 low.1 ∙ ap is_let_go waited.0.was) in
          let unmet = awaited desk core number lane was_known out credited beside lane_of (lane_of.standing number entry.Pending waited.0.was).1 in
          let gone_now : is_gone name (writes.Detached name ∷ notes) ≡ is_let_go (at later.entries number) = detached_gone ∙ ap is_let_go (sym waited.0.here) in
          let waits_now : is_outstanding name (writes.Detached name ∷ notes) ≡ is_some (at later.entries number) = detached_waits false still.0 unmet ∙ ap is_some (sym waited.0.here) in
          let others : (n : ℕ) → n ≢ number → at later.entries n ≡ at lane.entries n = λ n away. waited.0.others n away in
          stays_noted desk known core number lane later there (writes.Detached name) (detached_note name) detaches.0 others low.0 low.1 gone_now waits_now out credited beside out after later_of refl beside.behind beside.collected written detaches_ticket
          (subst (λ after. outstanding_count core (writes.Detached name ∷ notes) + after ≡ length out.sent) (sym waited.1)
          (as_many desk known core number lane later there (writes.Detached name) (detached_note name) detaches.0 others low.0 low.1 gone_now waits_now out credited beside (ap is_some waited.0.was ∙ ap is_some (sym waited.0.here))))
      | inr had ↦
          let low = within had.1.was in
          let still = still (was_known.gone number low.0 low.1 ∙ ap is_let_go had.1.was) in
          let got = (lane_of.standing number (entry.Collected had.0) had.1.was).1 in
          let met : is_told name_collected name notes ≡ true =
          collected_told name notes (ap (first_under name) beside.collected ∙ named-found desk.actor core number (take out.got out.seen) lane_of.named.1 got.place had.0 (taken-get out.got out.seen got.place (number, had.0) got.got got.is)) in
          let gone_now : is_gone name (writes.Detached name ∷ notes) ≡ is_let_go (at later.entries number) = detached_gone ∙ ap is_let_go (sym had.1.gone) in
          let waits_now : is_outstanding name (writes.Detached name ∷ notes) ≡ is_some (at later.entries number) = detached_waits true still.0 met ∙ ap is_some (sym had.1.gone) in
          stays_noted desk known core number lane later there (writes.Detached name) (detached_note name) detaches.0 had.1.others low.0 low.1 gone_now waits_now out credited beside out after later_of refl beside.behind beside.collected written detaches_ticket
          (subst (λ after. outstanding_count core (writes.Detached name ∷ notes) + after ≡ length out.sent) (sym had.2)
          (one_less desk known core number lane later there (writes.Detached name) (detached_note name) detaches.0 had.1.others low.0 low.1 gone_now waits_now out credited beside (ap is_some had.1.was) (ap is_some had.1.gone)))
    ]

  -- a ticket that can't be detached
  pub detaches_refused : (error : TicketError) → Detaches lane later number credited after (Err error) →
      DetachesTicket name desk (Err error) (record desk { lanes = set desk.lanes core later }) × (later ≡ lane) × (after ≡ credited)
  detaches_refused Pending refused = absurd refused
  detaches_refused Unknown refused =
      ((refuses desk core number lane was_known out credited beside lane_of Unknown refused.0, desk_same desk known core lane later there refused.1), refused.1, refused.2)
  detaches_refused Gone refused =
      ((refuses desk core number lane was_known out credited beside lane_of Gone refused.0, desk_same desk known core lane later there refused.1), refused.1, refused.2)
