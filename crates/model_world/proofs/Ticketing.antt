-- What a sender does with its outcomes, as its world sees it.
use Rattle.model_world.proofs.Words.{◌≡◌, ℕ, cond, List, [], ◌∷◌, ◌++◌, length, refl, sym, ◌∙◌, ap, arith, append_assoc, Some, None, eq-eqb, append-nil}
use Rattle.model_world.proofs.Words.{length-append, Note, Outcomes, collected_outcomes, Journal, collected_notes, ◌+◌, ◌-◌, ◌<◌, ◌≤◌, subst, set, map, Result}
use Rattle.model_world.proofs.Words.{Ok, Err, Option, slice_get, JobId, Order, Meaning, Whole, Fits, out_of, WorldView, journal_at, noted, link_at, Parts, desks}
use Rattle.model_world.proofs.Words.{world_of, IsWorld, TicketError, Unknown, Gone, Pending, Outcome, IsRedeemable, IsDetachable, outcome_note, DeskView}
use Rattle.model_world.proofs.Words.{RefusesTicket, RedeemsTicket, DetachesTicket, WasAccepted, uncollected, Collects, Redeems, Detaches, redeemed_reply}
use Rattle.model_world.proofs.Words.{detached_reply}
use Rattle.base_words.specs.declared.note.Note.TheVariants as writes
use Rattle.base_words.specs.Journal.{with_last}
use Rattle.actor_desk.specs.Tickets.{AreCollected, CollectsFrom, GetsAll}
use Rattle.std.proofs.Common.{take, drop}
use Rattle.std.specs.Prelude.{IfOk, IfSome}
use Rattle.std.proofs.Math.Seq.{drop-append_seam, take-length}
use Rattle.base_words.specs.Filters.{given_outcomes}
use Rattle.link_ends.proofs.Lists.{slice_get-behind}
use Rattle.actor_desk.specs.Lanes.{IsGot, FitsSent}
use Rattle.actor_desk.specs.Ends.{named_outcomes}
use Rattle.model_world.specs.declared.event.Reply.TheVariants as reply
use Rattle.model_world.specs.Collections.{FitsUnder}
use Rattle.model_world.proofs.Desks.{sent_at-world}
use Rattle.model_world.proofs.CoreSteps.{journal_is, number_is}
use Rattle.model_world.proofs.Sending.{IsDoneOn, IsActing, its_sender, its_seat, its_notes, later, noted_now, same_now}
use Rattle.actor_desk.proofs.Taken.{taken-get}

module _ {T : Type 0} where
  -- one outcome more is the newest note
  collected_notes-last : (outcomes last : Outcomes T) → collected_notes (outcomes ++ last) ≡ collected_notes last ++ collected_notes outcomes
  collected_notes-last [] last = sym (append-nil (collected_notes last))
  collected_notes-last (outcome ∷ outcomes) last =
      ap (λ notes. notes ++ writes.Collected outcome.0 outcome.1 ∷ []) (collected_notes-last outcomes last)
      ∙ append_assoc (collected_notes last) (collected_notes outcomes) (writes.Collected outcome.0 outcome.1 ∷ [])

  -- notes that collect outcomes of one core are a note for each of these
  pub record AreOf (core : ℕ) (notes : List (Note T)) (before : Journal T) : Type 0 where
    pub outcomes : Outcomes T
    pub are : notes ≡ collected_notes outcomes
    pub count : length outcomes ≡ length notes
    pub longer : collected_outcomes core (notes ++ before) ≡ collected_outcomes core before ++ outcomes

  pub are_of : (core : ℕ) (notes : List (Note T)) (before : Journal T) → AreCollected core notes → AreOf core notes before
  are_of core [] before collected = record { outcomes = []; are = refl; count = refl; longer = sym (append-nil (collected_outcomes core before)) }
  are_of core (writes.Collected name what ∷ notes) before collected =
      let rest = are_of core notes before collected.1 in
      record {
        outcomes = rest.outcomes ++ (name, what) ∷ [];
        are = ap (λ notes. writes.Collected name what ∷ notes) rest.are ∙ sym (collected_notes-last rest.outcomes ((name, what) ∷ []));
        count = length-append rest.outcomes ((name, what) ∷ []) ∙ omega (arith, rest.count);
        longer =
            ap (λ told. with_last (collected_outcomes core (notes ++ before)) told) (ap (λ test. cond test (Some (name, what)) None) (eq-eqb name.to core collected.0))
            ∙ (ap (λ list. list ++ (name, what) ∷ []) rest.longer ∙ append_assoc (collected_outcomes core before) rest.outcomes ((name, what) ∷ []));
      }
  are_of core (_ ∷ notes) before collected = absurd collected

module _ {J T : Type 0} {meaning : Meaning J T} {old : Parts J T}
    {sender to : ℕ} {desk now : DeskView J T} {link after : Whole J T} {journals : List (Journal T)} (world : IsWorld meaning old)
    (acting : IsActing old sender to desk link) (did : IsDoneOn (Fits meaning) to desk link now after)
    (journals_are : journals ≡ map (λ desk. desk.journal.notes) (set (desks old) sender now)) (same_orders : after.sent ≡ link.sent) where
  actor_is : now.actor ≡ sender
  actor_is = ap (λ desk. desk.actor) did.stays.rest ∙ ap (λ desk. desk.actor) (its_seat world acting)

  -- all that the core gave is collected then
  all_collected : GetsAll (out_of link) (out_of after) → after.given ≡ link.given → collected_outcomes to now.journal.notes ≡ given_outcomes sender (journal_at to (world_of old))
  all_collected gets given =
      did.stays.beside.collected
      ∙ (ap (named_outcomes now.actor to) (ap (λ count. take count after.given) gets.2 ∙ take-length after.given)
      ∙ ((λ i. named_outcomes (actor_is i) (sym (number_is world to acting.to_there) i) ((given ∙ ap (λ link. link.given) acting.link_is) i))
      ∙ (sym (world.beside.ins sender to acting.there acting.to_there).given ∙ ap (given_outcomes sender) (sym (journal_is world to acting.to_there)))))

  pub collects_now : (count : ℕ) → CollectsFrom to desk count now → GetsAll (out_of link) (out_of after) → after.given ≡ link.given →
      Collects sender to (world_of old) (later world acting now after journals_are) (reply.Collected count)
  collects_now count collects gets given =
      let told = are_of to collects.0 desk.journal.notes collects.1 in
      let longer : now.journal.notes ≡ collects.0 ++ desk.journal.notes = ap (λ journal. journal.notes) collects.3 in
      let all = sym (all_collected gets given) ∙ (ap (collected_outcomes to) longer ∙ told.longer) in
      let left : uncollected sender to (world_of old) ≡ told.outcomes =
      (λ i. drop (length (collected_outcomes to (its_notes world acting i))) (all i)) ∙ drop-append_seam (collected_outcomes to desk.journal.notes) told.outcomes in (
        sym collects.2 ∙ (sym told.count ∙ ap length (sym left)),
        noted_now world acting now after journals_are _ (longer ∙ ap (λ notes. notes ++ desk.journal.notes) (told.are ∙ ap collected_notes (sym left))) same_orders,
      )

module _ {J : Type 0} {meaning : Meaning J ℕ} {old : Parts J ℕ}
    {sender : ℕ} {desk : DeskView J ℕ} {link : Whole J ℕ} {journals : List (Journal ℕ)} (world : IsWorld meaning old)
    (name : JobId) (acting : IsActing old sender name.to desk link) (now : DeskView J ℕ) (after : Whole J ℕ)
    (journals_are : journals ≡ map (λ desk. desk.journal.notes) (set (desks old) sender now)) (same_orders : after.sent ≡ link.sent) where
  notes_are : desk.journal.notes ≡ journal_at sender (world_of old)
  notes_are = sym (its_notes world acting)

  abbrev then : WorldView J ℕ
  then = later world acting now after journals_are

  noted_then : (notes : List (Note ℕ)) → now.journal.notes ≡ notes ++ desk.journal.notes → then ≡ noted sender notes (world_of old)
  noted_then notes longer = noted_now world acting now after journals_are notes longer same_orders

  same_then : now ≡ desk → then ≡ world_of old
  same_then is = same_now world acting now after journals_are is same_orders

  refused : (error : TicketError) → RefusesTicket name error desk.journal.notes → RefusesTicket name error (journal_at sender (world_of old))
  refused error refuses = subst (RefusesTicket name error) notes_are refuses

  pub detaches_now : (answer : Result (Unit {0}) TicketError) → DetachesTicket name desk answer now → Detaches sender name (world_of old) then (detached_reply answer)
  detaches_now (Ok done) detaches = (subst (IsDetachable name) notes_are detaches.0, noted_then (writes.Detached name ∷ []) (ap (λ journal. journal.notes) detaches.1))
  detaches_now (Err Unknown) detaches = (refused Unknown detaches.0, same_then detaches.1)
  detaches_now (Err Gone) detaches = (refused Gone detaches.0, same_then detaches.1)
  detaches_now (Err Pending) detaches = absurd detaches

  -- the number of an outcome that was got is one of those that were sent
  in_range : (outcome : Outcome J ℕ) → IsGot (out_of link) name.number outcome → (link.base < name.number) × (name.number ≤ link.base + length link.sent)
  in_range outcome got =
      let lane = (its_sender world acting).lane.lane_of in
      let at = lane.named.0 got.place (name.number, outcome) (taken-get link.got link.given got.place (name.number, outcome) got.got got.is) in
      (at.0, at.2)

  fits_under : name.from ≡ sender → (outcome : Outcome J ℕ) → IsGot (out_of link) name.number outcome → FitsSent (Fits meaning) (out_of link) name.number outcome → FitsUnder meaning name (world_of old) outcome
  fits_under own outcome got fits = by_found (slice_get link.sent (name.number - link.base - 1)) refl fits
    where
      by_found : (found : Option (Order J)) → slice_get link.sent (name.number - link.base - 1) ≡ found → IfSome found (λ order. Fits meaning order outcome) → FitsUnder meaning name (world_of old) outcome
      by_found None at fits = let range = in_range outcome got in absurd (omega (arith, slice_get-behind link.sent (name.number - link.base - 1) at, range.0, range.1))
      by_found (Some order) at fits =
          let base : link.base ≡ 0 = (its_sender world acting).out.base in
          let its_sent = sent_at-world old name.from name.to ∙ (ap (λ from. (link_at from name.to old.links).sent) own ∙ ap (λ link. link.sent) (sym acting.link_is)) in
          let place : name.number - 1 ≡ name.number - link.base - 1 = omega (arith, base) in (
            order,
            ap (λ orders. slice_get orders (name.number - 1)) its_sent ∙ (ap (slice_get link.sent) place ∙ at),
            fits,
          )

  pub redeems_now : name.from ≡ sender → (answer : Result (Outcome J ℕ) TicketError) → RedeemsTicket name desk answer now →
      IfOk answer (IsGot (out_of link) name.number) → IfOk answer (FitsSent (Fits meaning) (out_of link) name.number) → Redeems meaning sender name (world_of old) then (redeemed_reply answer)
  redeems_now own (Ok outcome) redeems got fits = (
    subst (IsRedeemable name (outcome_note outcome)) notes_are redeems.0,
    subst (WasAccepted name) notes_are redeems.1,
    fits_under own outcome got fits,
    noted_then (writes.Redeemed name (outcome_note outcome) ∷ []) (ap (λ journal. journal.notes) redeems.2),
  )
  redeems_now own (Err error) redeems got fits = (refused error redeems.0, same_then redeems.1)
