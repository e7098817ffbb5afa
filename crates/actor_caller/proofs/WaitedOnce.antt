-- A caller that waits collects alone, and then does once what it waited for.
use Rattle.std.proofs.Common.{◌≡◌, ◌≢◌, ℕ, zero, suc, ◌<◌, ◌≤◌, List, [], ◌∷◌, ◌++◌, refl, sym, ◌∙◌, ap, append_assoc, ⊎_elim, Result, Ok, Err}
use Rattle.std.proofs.lemmas.Bool.{cases_eq, cases_lt}
use Rattle.std.proofs.lemmas.List.{append-nil}
use Rattle.std.proofs.lemmas.List.Elements.{All-append, All-cons, All-nil}
use Rattle.base_words.specs.declared.names.JobId.{JobId}
use Rattle.base_words.specs.declared.names.TicketError.{TicketError}
use Rattle.base_words.specs.declared.names.TicketError.TheVariants.{Pending}
use Rattle.base_words.specs.declared.note.Note.{Note}
use Rattle.base_words.specs.declared.note.Note.TheVariants as writes
use Rattle.base_words.specs.declared.order.Order.{Order}
use Rattle.base_words.specs.declared.order.Outcome.{Outcome}
use Rattle.base_words.specs.declared.order.SendError.{SendError}
use Rattle.base_words.specs.declared.order.SendError.TheVariants.{Closed, Full, NoCore, Spent}
use Rattle.base_words.specs.Orders.{without_job}
use Rattle.actor_desk.specs.Submissions.{DeskView, Submits}
use Rattle.actor_desk.specs.Tickets.{AreCollected}
use Rattle.actor_caller.specs.declared.error.SubmitError.{SubmitError}
use Rattle.actor_caller.specs.declared.error.SubmitError.TheVariants.{JournalFull, Send}
use Rattle.note_journal.specs.Journals.{free_notes}
use Rattle.actor_caller.specs.Passing.{AsksOnce, passed_on, refused_of}
use Rattle.actor_caller.specs.Sends.{MakesRoom, Sends, SubmitsTo, room_left}
use Rattle.actor_caller.specs.State.{RuntimeView, SubmitsNothing, submitted}
use Rattle.actor_caller.specs.Tickets.{RedeemsHere}
use Rattle.actor_caller.specs.Waiting.{CollectsAt, CollectsBelow, CollectsEach, InARow, TriesInVain}
use Rattle.actor_caller.proofs.Idle.{nothing_same, nothing_then}
use Rattle.actor_caller.specs.WaitingLaws.{AreCollections, IsCollection, OnlySubmits, WaitsRedeemOnce, WaitsSubmitOnce, redemption}

-- notes of collections of one core are notes of collections
collections_of : {T : Type 0} (core : ℕ) (notes : List (Note T)) → AreCollected core notes → AreCollections notes
collections_of core [] are = All-nil IsCollection
collections_of core (writes.Collected name outcome ∷ notes) are = All-cons IsCollection (writes.Collected name outcome) notes refl (collections_of core notes are.1)
collections_of core (_ ∷ notes) are = absurd are

module _ {J T : Type 0} where
  -- outcomes were collected, and the orders are the same
  record JustCollected (old new : RuntimeView J T) : Type 0 where
    pub collected : List (Note T)
    pub are : AreCollections collected
    pub noted : new.desk.journal.notes ≡ collected ++ old.desk.journal.notes
    pub orders : (core : ℕ) → submitted core new ≡ submitted core old

  just_same : (old new : RuntimeView J T) → new ≡ old → JustCollected old new
  just_same old new same = record { collected = []; are = All-nil IsCollection; noted = ap (λ (view : RuntimeView J T). view.desk.journal.notes) same; orders = λ core. ap (λ (view : RuntimeView J T). submitted core view) same }

  -- a runtime like one of which the notes and the orders are the same
  just_like : (old new like : RuntimeView J T) → new ≡ like → like.desk.journal.notes ≡ old.desk.journal.notes → ((core : ℕ) → submitted core like ≡ submitted core old) → JustCollected old new
  just_like old new like is notes orders = record {
    collected = [];
    are = All-nil IsCollection;
    noted = ap (λ (view : RuntimeView J T). view.desk.journal.notes) is ∙ notes;
    orders = λ core. ap (λ (view : RuntimeView J T). submitted core view) is ∙ orders core;
  }

  just_then : (old between new : RuntimeView J T) → JustCollected old between → JustCollected between new → JustCollected old new
  just_then old between new first later = record {
    collected = later.collected ++ first.collected;
    are = All-append IsCollection later.collected first.collected later.are first.are;
    noted = later.noted ∙ (ap (λ notes. later.collected ++ notes) first.noted ∙ sym (append_assoc later.collected first.collected old.desk.journal.notes));
    orders = λ core. later.orders core ∙ first.orders core;
  }

  -- one `collect`
  just_one : (core : ℕ) (old new : RuntimeView J T) → CollectsAt core old new → JustCollected old new × SubmitsNothing old new
  just_one core old new one =
      ⊎_elim
      (λ (low : core < old.desk.cores).
      let did = one.collects.there low in
      (record { collected = did.collects.0; are = collections_of core did.collects.0 did.collects.1; noted = ap (λ journal. journal.notes) did.collects.3; orders = did.nothing.orders }, did.nothing))
      (λ high. let same = (one.collects.missing high).1 in (just_same old new same, nothing_same old new same))
      (cases_lt core old.desk.cores)

  -- one look at all links
  just_below : (cores : ℕ) (old new : RuntimeView J T) → CollectsBelow cores old new → JustCollected old new × SubmitsNothing old new
  just_below zero old new same = (just_same old new same, nothing_same old new same)
  just_below (suc core) old new row =
      let first = just_below core old row.0 row.1 in
      let later = just_one core row.0 new row.2 in
      (just_then old row.0 new first.0 later.0, nothing_then old row.0 new first.1 later.1)

  just_looks : (looks : ℕ) (old new : RuntimeView J T) → InARow CollectsEach looks old new → JustCollected old new × SubmitsNothing old new
  just_looks zero old new same = (just_same old new same, nothing_same old new same)
  just_looks (suc looks) old new row =
      let first = just_looks looks old row.0 row.1 in
      let later = just_below row.0.desk.cores row.0 new row.2 in
      (just_then old row.0 new first.0 later.0, nothing_then old row.0 new first.1 later.1)

  -- tries in vain that change no note and no order
  just_waits : (in_vain : RuntimeView J T → RuntimeView J T → Type 0) → ((was tried : RuntimeView J T) → in_vain was tried → JustCollected was tried) → (tries : ℕ) (old new : RuntimeView J T) →
      InARow (TriesInVain in_vain) tries old new → JustCollected old new
  just_waits in_vain vain zero old new same = just_same old new same
  just_waits in_vain vain (suc tries) old new row =
      let first = just_waits in_vain vain tries old row.0 row.1 in
      let try = just_then row.0 row.2.tried new (vain row.0 row.2.tried row.2.vain) (just_looks (suc row.2.looks.again) row.2.tried new row.2.looks.are).0 in
      just_then old row.0 new first try

  -- tries in vain that submit nothing
  nothing_waits : (in_vain : RuntimeView J T → RuntimeView J T → Type 0) → ((was tried : RuntimeView J T) → in_vain was tried → SubmitsNothing was tried) → (tries : ℕ) (old new : RuntimeView J T) →
      InARow (TriesInVain in_vain) tries old new → SubmitsNothing old new
  nothing_waits in_vain vain zero old new same = nothing_same old new same
  nothing_waits in_vain vain (suc tries) old new row =
      let first = nothing_waits in_vain vain tries old row.0 row.1 in
      let try = nothing_then row.0 row.2.tried new (vain row.0 row.2.tried row.2.vain) (just_looks (suc row.2.looks.again) row.2.tried new row.2.looks.are).1 in
      nothing_then old row.0 new first try

  module _ (fits : Order J → Outcome J T → Type 0) where
    -- a ticket that is refused changes nothing that is noted
    refused_notes : (name : JobId) (old : RuntimeView J T) (error : TicketError) (new : RuntimeView J T) → RedeemsHere fits name old (Err error) new → JustCollected old new
    refused_notes name old error new redeems = record { collected = []; are = All-nil IsCollection; noted = ap (λ desk. desk.journal.notes) redeems.redeems.1; orders = redeems.nothing.orders }

    redeemed_notes : (name : JobId) (old : RuntimeView J T) (answer : Result (Outcome J T) TicketError) (new : RuntimeView J T) → RedeemsHere fits name old answer new →
        new.desk.journal.notes ≡ redemption name answer ++ old.desk.journal.notes
    redeemed_notes name old (Ok outcome) new redeems = ap (λ journal. journal.notes) redeems.redeems.2
    redeemed_notes name old (Err error) new redeems = ap (λ desk. desk.journal.notes) redeems.redeems.1

    pub redeems_once : WaitsRedeemOnce fits
    redeems_once name old answer new did =
        let waited = just_waits _ (λ was tried vain. refused_notes name was Pending tried vain) did.waits.tries old did.before did.waits.are in record {
          collected = waited.collected;
          are = waited.are;
          noted = redeemed_notes name did.before answer new did.redeems ∙ ap (λ notes. redemption name answer ++ notes) waited.noted;
          nothing = nothing_then old did.before new (nothing_waits _ (λ was tried vain. vain.nothing) did.waits.tries old did.before did.waits.are) did.redeems.nothing;
        }

  module _ (core : ℕ) (order : Order J) where
    -- a refused send leaves the desk
    desk_left : (old : DeskView J T) (error : SendError J) (new : DeskView J T) → Submits core order old (Err error) new → new ≡ old
    desk_left old (Closed back final) new sends = sends.2
    desk_left old (Full back) new sends = sends.2
    desk_left old (Spent back) new sends = sends.3
    desk_left old (NoCore back) new sends = absurd sends

    -- a refused send notes nothing and submits nothing
    refused_send : (old : RuntimeView J T) (error : SendError J) (new : RuntimeView J T) → Sends core order old (Err error) new → JustCollected old new
    refused_send old error new sends =
        ⊎_elim
        (λ (low : core < old.desk.cores).
        let did = sends.there low in
        record {
          collected = [];
          are = All-nil IsCollection;
          noted = ap (λ desk. desk.journal.notes) (desk_left old.desk error new.desk did.submits);
          orders = λ to. ⊎_elim
              (λ (same : to ≡ core). rw same (did.orders ∙ append-nil (submitted core old)))
              (λ (away : to ≢ core). did.others to away)
              (cases_eq to core);
        })
        (λ high. just_same old new (sends.missing high).1)
        (cases_lt core old.desk.cores)

    -- what makes room notes nothing and submits nothing
    just_room : (each : ℕ) (old mid : RuntimeView J T) → MakesRoom each old mid → JustCollected old mid
    just_room each old mid makes =
        ⊎_elim
        (λ (enough : (room_left each old ≤ free_notes old.desk.journal) × (mid ≡ old)). just_same old mid enough.1)
        (λ (few : (free_notes old.desk.journal < room_left each old) × AsksOnce old (passed_on old) mid). just_like old mid (record (passed_on old) { asks = mid.asks }) few.1.1 refl (λ to. refl))
        makes

    -- so does a refused submission
    refused_submission : (each : ℕ) (old : RuntimeView J T) (error : SubmitError J) (new : RuntimeView J T) → SubmitsTo each core order old (Err error) new → JustCollected old new
    refused_submission each old (JournalFull back) new submits = just_like old new (record (refused_of old) { asks = new.asks }) submits.2.1 refl (λ to. refl)
    refused_submission each old (Send error) new submits = just_then old submits.0 new (just_room each old submits.0 submits.1) (refused_send submits.0 error new submits.2)

    -- the last submission, behind collections
    last_submission : (each : ℕ) (old before : RuntimeView J T) (answer : Result JobId (SubmitError J)) (new : RuntimeView J T) → JustCollected old before → SubmitsTo each core order before answer new →
        OnlySubmits core order old answer new
    last_submission each old before (Err error) new waited submits =
        let all = just_then old before new waited (refused_submission each before error new submits) in
        record { collected = all.collected; are = all.are; noted = all.noted; here = all.orders core ∙ sym (append-nil (submitted core old)); others = λ other away. all.orders other }
    last_submission each old before (Ok name) new waited (mid, makes, sends) =
        let all = just_then old before mid waited (just_room each before mid makes) in
        ⊎_elim
        (λ (low : core < mid.desk.cores).
        let did = sends.there low in
        record {
          collected = all.collected;
          are = all.are;
          noted = ap (λ journal. journal.notes) did.submits.2 ∙ ap (λ notes. writes.Sent name (without_job order) ∷ notes) all.noted;
          here = did.orders ∙ ap (λ orders. orders ++ order ∷ []) (all.orders core);
          others = λ other away. did.others other away ∙ all.orders other;
        })
        (λ high. let never = (sends.missing high).0 in absurd cc)
        (cases_lt core mid.desk.cores)

  pub submits_once : WaitsSubmitOnce J T
  submits_once each core order old answer new did =
      let full : RuntimeView J T → RuntimeView J T → Type 0 = λ was tried. SubmitsTo each core order was (Err (Send (Full order))) tried in
      let waited = just_waits full (λ was tried vain. refused_submission core order each was (Send (Full order)) tried vain) did.waits.tries old did.before did.waits.are in
      last_submission core order each old did.before answer new waited did.submits
