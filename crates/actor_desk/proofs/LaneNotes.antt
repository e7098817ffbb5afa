-- A step on one submission: its note may stand and says nothing of any other, its lane changes at its number, and all else of the desk stays.
use Rattle.actor_desk.proofs.Names.{Bool, List, None, Some, [], ap, arith, cond, false, get_or-set_same, inl}
use Rattle.actor_desk.proofs.Names.{inr, length, refl, reverse, set, subst, sym, take, true, ℕ, ◌++◌, ◌+◌, ◌<◌}
use Rattle.actor_desk.proofs.Names.{◌∙◌, ◌∷◌, ◌≡◌, ◌≢◌, ◌≤◌, ne_eqb, eqb_tells, slice_get-get_or}
use Rattle.actor_desk.proofs.Names.{slice_get_within, count_by, is_some, not, slice_get, ◌&&◌, ◌==◌, ◌||◌}
use Rattle.actor_desk.proofs.Names.{changed, unchanged, at, IsLaneOf, Lane, queue_just_picked, effect_awaited}
use Rattle.actor_desk.proofs.Names.{accepted_orders, collected_outcomes, Journal, is_told, with_last}
use Rattle.actor_desk.proofs.Names.{IsEffectDue, MayFollow, MayStand, MayWrite, takes_turn, same_name, is_gone}
use Rattle.actor_desk.proofs.Names.{is_outstanding, name_collected, name_detached, name_redeemed}
use Rattle.actor_desk.proofs.Names.{outstanding_count, Terms, JobId, Note, OutcomeNote, Order, Outcome, IsOutOf}
use Rattle.actor_desk.proofs.Names.{KeepsOut, KeepsSent, name_of, named_outcomes, numbered_orders, DeskView}
use Rattle.actor_desk.proofs.Names.{IsWritten, terms_of_desk, HasLane, KnowsLane, KnowsLanes, StaysBeside}
use Rattle.actor_desk.proofs.Names.{is_let_go, Outward, JournalView}
use Rattle.base_words.specs.declared.note.Note.TheVariants as writes
use Rattle.std.proofs.lemmas.List.{length-set}
use Rattle.actor_desk.proofs.NumberedOrders.{length-numbered, other_name, counted, counted-same, counted-less}

-- a note that takes no turn and is no effect may stand where nothing is awaited
pub plainly_stands : {T : Type 0} (terms : Terms) (note : Note T) (before : Journal T) → MayWrite terms note → MayFollow terms note before →
    queue_just_picked before ≡ None → effect_awaited before ≡ None → takes_turn terms.burst note before ≡ false → IsEffectDue None note before →
    MayStand terms note before
plainly_stands terms note before writer law no_pick no_answer plain free =
    record { may_follow = law; turn = rw (no_pick, plain); effect = rw no_answer free; writer = writer }

-- a note on this submission says nothing of any other
pub record IsTicketNote {T : Type 0} (name : JobId) (note : Note T) : Type 0 where
  pub accepted : (core : ℕ) (before : Journal T) → accepted_orders core (note ∷ before) ≡ accepted_orders core before
  pub collected : (core : ℕ) (before : Journal T) → (name.to == core) ≡ false → collected_outcomes core (note ∷ before) ≡ collected_outcomes core before
  pub gone : (other : JobId) (before : Journal T) → same_name other name ≡ false → is_gone other (note ∷ before) ≡ is_gone other before
  pub waits : (other : JobId) (before : Journal T) → same_name other name ≡ false → is_outstanding other (note ∷ before) ≡ is_outstanding other before
  pub no_pick : (before : Journal T) → queue_just_picked (note ∷ before) ≡ None
  pub no_answer : (before : Journal T) → effect_awaited (note ∷ before) ≡ None
  pub plain : (burst : ℕ) (before : Journal T) → takes_turn burst note before ≡ false
  pub free : (before : Journal T) → IsEffectDue None note before
  pub writer : (terms : Terms) → MayWrite terms note

module _ {T : Type 0} (name : JobId) where
  pub redeemed_note : (outcome : OutcomeNote T) → IsTicketNote name (writes.Redeemed name outcome)
  redeemed_note outcome = assumption (
    λ (other : JobId) (before : Journal T) (apart : same_name other name ≡ false). ap (λ test. (test || is_told name_redeemed other before) || is_told name_detached other before) apart,
    λ (other : JobId) (before : Journal T) (apart : same_name other name ≡ false).
        ap (λ test. not ((test || is_told name_redeemed other before) || is_told name_detached other before && is_told name_collected other before)) apart,
  )

  pub detached_note : IsTicketNote {T = T} name (writes.Detached name)
  detached_note = assumption (
    λ (other : JobId) (before : Journal T) (apart : same_name other name ≡ false). ap (λ test. is_told name_redeemed other before || (test || is_told name_detached other before)) apart,
    λ (other : JobId) (before : Journal T) (apart : same_name other name ≡ false).
        ap (λ test. not (is_told name_redeemed other before || (test || is_told name_detached other before) && is_told name_collected other before)) apart,
  )

  pub collected_note : (outcome : OutcomeNote T) → IsTicketNote name (writes.Collected name outcome)
  collected_note outcome = assumption (
    λ (core : ℕ) (before : Journal T) (apart : (name.to == core) ≡ false). ap (λ test. with_last (collected_outcomes core before) (cond test (Some (name, outcome)) None)) apart,
    λ (other : JobId) (before : Journal T) (apart : same_name other name ≡ false).
        ap (λ test. not (is_told name_redeemed other before || is_told name_detached other before && (test || is_told name_collected other before))) apart,
  )

-- what two tests say together
module _ (redeemed detached collected : Bool) where
  -- who waits neither redeemed nor detached
  pub neither : (redeemed || detached) ≡ false → (redeemed ≡ false) × (detached ≡ false)
  neither waits = grind arith

  -- what is gone and outstanding, and not collected, is detached
  pub detached_only : (redeemed || detached) ≡ true → not (redeemed || detached && collected) ≡ true → collected ≡ false → (redeemed ≡ false) × (detached ≡ true)
  detached_only gone waits un = grind arith

-- an item that was set is there
pub set_there : {A : Type 0} (items : List A) (place : ℕ) (was item : A) → slice_get items place ≡ Some was → slice_get (set items place item) place ≡ Some item
set_there items place was item there = grind (arith, slice_get_within items place was there, slice_get-get_or (set items place item) place item, length-set items place item, get_or-set_same items place item item)

-- an item at another place stays
pub slice_get-set_other : {A : Type 0} (items : List A) (place other : ℕ) (item : A) → other ≢ place → slice_get (set items place item) other ≡ slice_get items other
slice_get-set_other [] place other item away = refl
slice_get-set_other (first ∷ rest) place other item away = grind (arith, slice_get-set_other rest)

-- what is outstanding, counted over the orders of a link
pub outstanding_as : {J T : Type 0} (actor core : ℕ) (journal : Journal T) (sent : List (Order J)) → accepted_orders core journal ≡ numbered_orders actor core 0 sent →
    outstanding_count core journal ≡ counted actor core (λ name. is_outstanding name journal) 0 sent
outstanding_as actor core journal sent is = ap (count_by (λ sent. is_outstanding sent.0 journal)) is

module _ {J T : Type 0} (desk : DeskView J T) (known : KnowsLanes desk) (core number : ℕ) (lane later : Lane J T) (lane_is : slice_get desk.lanes core ≡ Some lane)
    (note : Note T) (ticket : IsTicketNote (name_of desk.actor core number) note) where
  abbrev notes : Journal T
  notes = desk.journal.notes

  abbrev name : JobId
  name = name_of desk.actor core number

  -- the desk afterwards
  abbrev pub noted : DeskView J T
  noted = record desk { journal = record desk.journal { notes = note ∷ notes }; lanes = set desk.lanes core later }

  was_known : KnowsLane desk.actor core notes lane
  was_known = known.each core lane lane_is

  other_number : (n : ℕ) → n ≢ number → same_name (name_of desk.actor core n) name ≡ false
  other_number n away = other_name (name_of desk.actor core n) name (λ same. away (ap (λ id. id.number) same))

  other_core : (other n : ℕ) → other ≢ core → same_name (name_of desk.actor other n) name ≡ false
  other_core other n away = other_name (name_of desk.actor other n) name (λ same. away (ap (λ id. id.to) same))

  others_known : (other : ℕ) → other ≢ core → (its : Lane J T) → KnowsLane desk.actor other notes its → KnowsLane desk.actor other (note ∷ notes) its
  others_known other away its was = record {
    count = was.count ∙ sym (ap length (ticket.accepted other notes));
    last = was.last;
    gone = λ n low high. ticket.gone (name_of desk.actor other n) notes (other_core other n away) ∙ was.gone n low high;
    waits = λ n low high. ticket.waits (name_of desk.actor other n) notes (other_core other n away) ∙ was.waits n low high;
    unsent = λ n past. ticket.gone (name_of desk.actor other n) notes (other_core other n away) ∙ was.unsent n past;
  }

  -- the ends of the other cores stay beside the journal
  others_kept : (other : ℕ) → other ≢ core → KeepsOut other desk noted
  others_kept other away = record {
    each = λ out credited is.
        let accepted = ticket.accepted other notes ∙ is.accepted in
        let count =
        outstanding_as desk.actor other (note ∷ notes) out.sent accepted
        ∙ (counted-same desk.actor other (λ name. is_outstanding name (note ∷ notes)) (λ name. is_outstanding name notes) 0 out.sent
        (λ n low high. ticket.waits (name_of desk.actor other n) notes (other_core other n away))
        ∙ sym (outstanding_as desk.actor other notes out.sent is.accepted)) in
        assumption (accepted, ap (λ count. count + credited) count ∙ is.outstanding, ticket.collected other notes (ne_eqb core other (λ same. away (sym same))) ∙ is.collected);
  }

  lanes_kept : (other : ℕ) → other ≢ core → slice_get (set desk.lanes core later) other ≡ slice_get desk.lanes other
  lanes_kept other away = slice_get-set_other desk.lanes core other later away

  written_noted : IsWritten (terms_of_desk desk) notes → MayFollow (terms_of_desk desk) note notes → IsWritten (terms_of_desk desk) (note ∷ notes)
  written_noted written law = record {
    notes = (plainly_stands (terms_of_desk desk) note notes (ticket.writer (terms_of_desk desk)) law written.no_pick written.no_answer (ticket.plain desk.burst notes) (ticket.free notes), written.notes);
    no_pick = ticket.no_pick notes;
    no_answer = ticket.no_answer notes;
  }

  -- the lane changes at that number alone, as the note says
  module _ (rest : later ≡ record lane { entries = later.entries }) (others : (n : ℕ) → n ≢ number → at later.entries n ≡ at lane.entries n) (low : 0 < number) (high : number ≤ lane.count)
      (gone_now : is_gone name (note ∷ notes) ≡ is_let_go (at later.entries number)) (waits_now : is_outstanding name (note ∷ notes) ≡ is_some (at later.entries number)) where
    later_known : KnowsLane desk.actor core (note ∷ notes) later
    later_known = record {
      count = ap (λ lane. lane.count) rest ∙ (was_known.count ∙ sym (ap length (ticket.accepted core notes)));
      last = ap (λ lane. lane.last) rest ∙ (was_known.last ∙ sym (ap (λ lane. lane.count) rest));
      gone = λ n positive within. elim (eqb_tells n number) [
        | inl same ↦ subst (λ n. is_gone (name_of desk.actor core n) (note ∷ notes) ≡ is_let_go (at later.entries n)) (sym same.1) gone_now
        | inr away ↦ ticket.gone (name_of desk.actor core n) notes (other_number n away.1) ∙ (was_known.gone n positive (omega (arith, within, ap (λ lane. lane.count) rest)) ∙ ap is_let_go (sym (others n away.1)))
      ];
      waits = λ n positive within. elim (eqb_tells n number) [
        | inl same ↦ subst (λ n. is_outstanding (name_of desk.actor core n) (note ∷ notes) ≡ is_some (at later.entries n)) (sym same.1) waits_now
        | inr away ↦ ticket.waits (name_of desk.actor core n) notes (other_number n away.1) ∙ (was_known.waits n positive (omega (arith, within, ap (λ lane. lane.count) rest)) ∙ ap is_some (sym (others n away.1)))
      ];
      unsent = λ n past.
          ticket.gone (name_of desk.actor core n) notes (other_number n (λ same. omega (arith, same, past, high, ap (λ lane. lane.count) rest)))
          ∙ was_known.unsent n (omega (arith, past, ap (λ lane. lane.count) rest));
    }

    pub knows_noted : KnowsLanes noted
    knows_noted = record {
      cores_are = length-set desk.lanes core later ∙ known.cores_are;
      each = λ other its there. elim (eqb_tells other core) [
        | inl same ↦
            subst (KnowsLane desk.actor other (note ∷ notes)) (sym (changed desk.lanes core other later its there same.1))
            (subst (λ core. KnowsLane desk.actor core (note ∷ notes) later) (sym same.1) later_known)
        | inr away ↦ others_known other away.1 its (known.each other its (unchanged desk.lanes core other later its there away.1))
      ];
    }

    module _ (out : Outward J T) (credited : ℕ) (is : IsOutOf core desk out credited) where
      accepted_now : accepted_orders core (note ∷ notes) ≡ numbered_orders desk.actor core 0 out.sent
      accepted_now = ticket.accepted core notes ∙ is.accepted

      all_sent : lane.count ≡ length out.sent
      all_sent = was_known.count ∙ (ap length is.accepted ∙ length-numbered desk.actor core 0 out.sent)

      -- the submission is outstanding as before
      pub as_many : is_some (at lane.entries number) ≡ is_some (at later.entries number) → outstanding_count core (note ∷ notes) + credited ≡ length out.sent
      as_many same =
          ap (λ count. count + credited)
          (outstanding_as desk.actor core (note ∷ notes) out.sent accepted_now
          ∙ (counted-same desk.actor core (λ name. is_outstanding name (note ∷ notes)) (λ name. is_outstanding name notes) 0 out.sent
          (λ n positive within. elim (eqb_tells n number) [
            | inl here ↦ subst (λ n. is_outstanding (name_of desk.actor core n) (note ∷ notes) ≡ is_outstanding (name_of desk.actor core n) notes) (sym here.1) (waits_now ∙ (sym same ∙ sym (was_known.waits number low high)))
            | inr away ↦ ticket.waits (name_of desk.actor core n) notes (other_number n away.1)
          ])
          ∙ sym (outstanding_as desk.actor core notes out.sent is.accepted)))
          ∙ is.outstanding

      -- it was outstanding, and is so no more
      pub one_less : is_some (at lane.entries number) ≡ true → is_some (at later.entries number) ≡ false → outstanding_count core (note ∷ notes) + (credited + 1) ≡ length out.sent
      one_less was_there is_gone =
          let fewer : counted desk.actor core (λ name. is_outstanding name notes) 0 out.sent ≡ counted desk.actor core (λ name. is_outstanding name (note ∷ notes)) 0 out.sent + 1 =
          counted-less desk.actor core (λ name. is_outstanding name notes) (λ name. is_outstanding name (note ∷ notes)) 0 out.sent number low (omega (arith, high, all_sent))
          (was_known.waits number low high ∙ was_there) (waits_now ∙ is_gone) (λ n away positive within. sym (ticket.waits (name_of desk.actor core n) notes (other_number n away))) in
          omega (arith, fewer, outstanding_as desk.actor core (note ∷ notes) out.sent accepted_now, outstanding_as desk.actor core notes out.sent is.accepted, is.outstanding)

      module _ {fits : Order J → Outcome J T → Type 0} (now : Outward J T) (after : ℕ) (lane_of : IsLaneOf fits later now after) (end : now ≡ record out { seen = now.seen; got = now.got })
          (behind : now.got ≤ length now.seen) (collected : collected_outcomes core (note ∷ notes) ≡ named_outcomes desk.actor core (take now.got now.seen))
          (written : IsWritten (terms_of_desk desk) notes) (law : MayFollow (terms_of_desk desk) note notes) (counts : outstanding_count core (note ∷ notes) + after ≡ length out.sent) where
        pub stays_noted : StaysBeside fits core desk noted now after
        stays_noted =
            let beside = subst (λ now. IsOutOf core noted now after) (sym end) (assumption (accepted_now, counts, collected)) in
            let its_lane : HasLane fits core noted now after = record { lane = later; is = set_there desk.lanes core lane later lane_is; lane_of = lane_of } in
            assumption (beside, others_kept, lanes_kept, written_noted written law, knows_noted)

-- notes that say nothing of submissions leave what the lanes know
pub knows_quiet : {J T : Type 0} (desk : DeskView J T) (later : Journal T) → KnowsLanes desk → KeepsSent desk.journal.notes later → KnowsLanes (record desk { journal = record desk.journal { notes = later } })
knows_quiet desk later known sent = record {
  cores_are = known.cores_are;
  each = λ core lane there.
      let was = known.each core lane there in
      record {
        count = was.count ∙ sym (ap length (sent.accepted core));
        last = was.last;
        gone = λ n low high. sent.gone (name_of desk.actor core n) ∙ was.gone n low high;
        waits = λ n low high. sent.waits (name_of desk.actor core n) ∙ was.waits n low high;
        unsent = λ n past. sent.gone (name_of desk.actor core n) ∙ was.unsent n past;
      };
}

-- what a call that wrote such notes knows
pub knows_written : {J T : Type 0} (desk now : DeskView J T) (is : desk ≡ now) (slice : List (Note T)) → KnowsLanes desk → IsWritten (terms_of_desk now) (reverse slice ++ now.journal.notes) →
    KeepsSent now.journal.notes (reverse slice ++ now.journal.notes) → (page : JournalView T) → page ≡ record desk.journal { notes = reverse slice ++ desk.journal.notes } →
    IsWritten (terms_of_desk desk) page.notes × KnowsLanes (record desk { journal = page })
knows_written desk now is slice known written sent page page_is =
    let written = subst (λ desk. IsWritten (terms_of_desk desk) (reverse slice ++ desk.journal.notes)) (sym is) written in
    let sent = subst (λ desk. KeepsSent desk.journal.notes (reverse slice ++ desk.journal.notes)) (sym is) sent in
    subst (λ page. IsWritten (terms_of_desk desk) page.notes × KnowsLanes (record desk { journal = page })) (sym page_is)
    (written, knows_quiet desk (reverse slice ++ desk.journal.notes) known sent)
