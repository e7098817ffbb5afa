-- What becomes of the orders of a script, one after another.
use Rattle.std.proofs.Common.{◌≡◌, ◌≢◌, ℕ, ◌<◌, ◌++◌, eqb, cond, List, [], ◌∷◌, Some, None, Bool, true, false, length, Result, Ok, Err, refl, sym, ap, subst, ◌∙◌, arith, ⊎_elim}
use Rattle.std.proofs.lemmas.Bool.{cases_eq}
use Rattle.std.proofs.lemmas.Bool.Decides.{nat_tests}
use Rattle.std.proofs.lemmas.List.{append_assoc}
use Rattle.base_words.specs.declared.names.JobId.{JobId}
use Rattle.base_words.specs.declared.note.Note.TheVariants.{Sent}
use Rattle.base_words.specs.declared.order.Order.{Order}
use Rattle.base_words.specs.declared.order.SendError.{SendError}
use Rattle.base_words.specs.declared.order.SendError.TheVariants.{Closed, Full, Spent, NoCore}
use Rattle.base_words.specs.Assembly.{Assembly, journal_of}
use Rattle.base_words.specs.Filters.{Orders, accepted_orders}
use Rattle.base_words.specs.Journal.{Journal, with_last}
use Rattle.base_words.specs.Orders.{without_job}
use Rattle.link_ends.specs.declared.ends.Outward.{Outward}
use Rattle.link_ends.specs.Calls.{Sends}
use Rattle.actor_desk.specs.Submissions.{DeskView, Submits, numbered}
use Rattle.note_journal.specs.Journals.{JournalView}
use Rattle.base_jobs.specs.ScriptMeaning.{script_meaning}
use Rattle.base_jobs.specs.Scripts.{Script}
use Rattle.run_runtime.specs.Calls.{HasFinished, IsStarted}
use Rattle.actor_caller.specs.Laws.{ClosedStaysClosed, IsClosed}
use Rattle.run_runtime.specs.Sends.{SendsTo}
use Rattle.run_runtime.specs.State.{RuntimeView, is_told_shut}
use Rattle.run_config.specs.Configs.{Entry}
use Rattle.fairexec_script.specs.Orders.{Told}
use Rattle.fairexec_threads.specs.Accepted.{AreHeard, IsHeard, room_of}
use Rattle.fairexec_threads.specs.Offers.{IsTaken, Offers, OffersAll}
use Rattle.fairexec_threads.proofs.Heard.{has_closed}
use Rattle.fairexec_threads.proofs.Sending.{grows}

abbrev View : Type 0
View = RuntimeView Script ℕ

abbrev notes_of : DeskView Script ℕ → Journal ℕ
notes_of desk = desk.journal.notes

-- an answer that the core is closed tells that the gate is shut
tells_shut : (out later : Outward Script ℕ) (credited : ℕ) (order : Order Script) (answer : Result JobId (SendError Script)) → Sends out credited order later (numbered answer) → IsClosed answer → later.closed ≡ true
tells_shut out later credited order (Ok name) sends closed = absurd closed
tells_shut out later credited order (Err (Closed back final)) sends closed = ap (λ end. end.closed) sends.2
tells_shut out later credited order (Err (Full back)) sends closed = absurd closed
tells_shut out later credited order (Err (Spent back)) sends closed = absurd closed
tells_shut out later credited order (Err (NoCore back)) sends closed = absurd closed

-- where the gate was found shut the answer is that the core is closed
answers_closed : (out later : Outward Script ℕ) (credited : ℕ) (order : Order Script) (answer : Result JobId (SendError Script)) → Sends out credited order later (numbered answer) → out.closed ≡ true → IsClosed answer
answers_closed out later credited order (Ok name) sends shut = let open_gate = sends.0 in absurd cc
answers_closed out later credited order (Err (Closed back final)) sends shut = tt
answers_closed out later credited order (Err (Full back)) sends shut = let open_gate = sends.1 in absurd cc
answers_closed out later credited order (Err (Spent back)) sends shut = let open_gate = sends.1 in absurd cc
answers_closed out later credited order (Err (NoCore back)) sends shut = absurd sends

closed_stays : ClosedStaysClosed Script
closed_stays core order old answer new sends = (
  tells_shut _ _ _ order answer sends.link,
  λ shut. let closed = answers_closed _ _ _ order answer sends.link shut in (closed, tells_shut _ _ _ order answer sends.link closed),
)

-- what stands later in the outside journal
record Longer (old new : DeskView Script ℕ) : Type 0 where
  more : Journal ℕ
  notes : notes_of new ≡ more ++ notes_of old

one_longer : (core : ℕ) (order : Order Script) (old : DeskView Script ℕ) (answer : Result JobId (SendError Script)) (new : DeskView Script ℕ) → IsTaken answer → Submits core order old answer new → Longer old new
one_longer core order old (Ok name) new taken submits = record { more = Sent name (without_job order) ∷ []; notes = ap (λ (journal : JournalView ℕ). journal.notes) submits.2 }
one_longer core order old (Err (Closed back final)) new taken submits = record { more = []; notes = ap notes_of submits.2 }
one_longer core order old (Err (Full back)) new taken submits = absurd taken
one_longer core order old (Err (Spent back)) new taken submits = absurd taken
one_longer core order old (Err (NoCore back)) new taken submits = absurd taken

longer : (orders : List Told) (old new : View) → OffersAll orders old new → Longer old.desk new.desk
longer [] old new same = record { more = []; notes = ap (λ (view : View). notes_of view.desk) same }
longer (told ∷ rest) old new (between, one, others) =
    let first = one_longer told.0 told.1 old.desk one.answer between.desk one.taken one.sends.submits in
    let later = longer rest between new others in
    record { more = later.more ++ first.more; notes = later.notes ∙ (ap (λ notes. later.more ++ notes) first.notes ∙ sym (append_assoc later.more first.more (notes_of old.desk))) }

-- an order to another core is none to this one
to_another : (apart : Bool) (orders : Orders) (name : JobId) (order : Order (Unit {0})) → apart ≡ false → with_last orders (cond apart (Some (name, order)) None) ≡ orders
to_another true orders name order is = cc
to_another false orders name order is = refl

others_stay : (core other : ℕ) (order : Order Script) (old : DeskView Script ℕ) (answer : Result JobId (SendError Script)) (new : DeskView Script ℕ) → other ≢ core → IsTaken answer → Submits core order old answer new →
    accepted_orders other (notes_of new) ≡ accepted_orders other (notes_of old)
others_stay core other order old (Ok name) new away taken submits =
    let apart : eqb name.to other ≡ false = let to = submits.1 in grind (arith, nat_tests, to, away) in
    ap (λ (journal : JournalView ℕ). accepted_orders other journal.notes) submits.2 ∙ to_another (eqb name.to other) (accepted_orders other (notes_of old)) name (without_job order) apart
others_stay core other order old (Err (Closed back final)) new away taken submits = ap (λ desk. accepted_orders other (notes_of desk)) submits.2
others_stay core other order old (Err (Full back)) new away taken submits = absurd taken
others_stay core other order old (Err (Spent back)) new away taken submits = absurd taken
others_stay core other order old (Err (NoCore back)) new away taken submits = absurd taken

none_more : (core : ℕ) (order : Order Script) (old : DeskView Script ℕ) (answer : Result JobId (SendError Script)) (new : DeskView Script ℕ) → IsClosed answer → Submits core order old answer new →
    accepted_orders core (notes_of new) ≡ accepted_orders core (notes_of old)
none_more core order old (Ok name) new closed submits = absurd closed
none_more core order old (Err (Closed back final)) new closed submits = ap (λ desk. accepted_orders core (notes_of desk)) submits.2
none_more core order old (Err (Full back)) new closed submits = absurd closed
none_more core order old (Err (Spent back)) new closed submits = absurd closed
none_more core order old (Err (NoCore back)) new closed submits = absurd closed

-- a core whose gate was found shut accepts nothing more
record StaysShut (core : ℕ) (old new : View) : Type 0 where
  shut : is_told_shut core new ≡ true
  orders : accepted_orders core (notes_of new.desk) ≡ accepted_orders core (notes_of old.desk)

one_shut : (core : ℕ) (told : Told) (old new : View) → Offers told old new → is_told_shut core old ≡ true → StaysShut core old new
one_shut core told old new one shut =
    ⊎_elim
    (λ (same : core ≡ told.0). subst (λ core. StaysShut core old new) (sym same) (here (subst (λ core. is_told_shut core old ≡ true) same shut)))
    (λ (away : core ≢ told.0). record { shut = one.sends.gates core away ∙ shut; orders = others_stay told.0 core told.1 old.desk one.answer new.desk away one.taken one.sends.submits })
    (cases_eq core told.0)
  where
    here : is_told_shut told.0 old ≡ true → StaysShut told.0 old new
    here shut =
        let closed = (closed_stays told.0 told.1 old one.answer new one.sends).1 shut in
        record { shut = closed.1; orders = none_more told.0 told.1 old.desk one.answer new.desk closed.0 one.sends.submits }

stays_shut : (core : ℕ) (orders : List Told) (old new : View) → OffersAll orders old new → is_told_shut core old ≡ true → accepted_orders core (notes_of new.desk) ≡ accepted_orders core (notes_of old.desk)
stays_shut core [] old new same shut = ap (λ (view : View). accepted_orders core (notes_of view.desk)) same
stays_shut core (told ∷ rest) old new (between, one, others) shut =
    let first = one_shut core told old between one shut in
    stays_shut core rest between new others first.shut ∙ first.orders

module _ (ended : View) (assembly : Assembly ℕ) (finishes : HasFinished script_meaning ended assembly) (room : ended.room ≡ room_of ended.desk.cores ended.desk.cap ended.desk.burst) where
  outside : journal_of assembly.cores assembly ≡ notes_of ended.desk
  outside = ap (λ cores. journal_of cores assembly) finishes.cores ∙ finishes.outside

  by_answer : (told : Told) (rest : List Told) (old between : View) → told.0 < ended.desk.cores → OffersAll rest between ended → (answer : Result JobId (SendError Script)) → IsTaken answer →
      SendsTo told.0 told.1 old answer between → IsHeard assembly told answer
  by_answer told rest old between there others (Ok name) taken sends =
      let later = longer rest between ended others in
      record {
        to = sends.submits.1;
        later = later.more;
        before = notes_of old.desk;
        notes = outside ∙ (later.notes ∙ ap (λ (journal : JournalView ℕ). later.more ++ journal.notes) sends.submits.2);
      }
  by_answer told rest old between there others (Err (Closed back final)) taken sends =
      let shut = (closed_stays told.0 told.1 old (Err (Closed back final)) between sends).0 tt in
      let orders = stays_shut told.0 rest between ended others shut ∙ ap (λ desk. accepted_orders told.0 (notes_of desk)) sends.submits.2 in
      has_closed ended assembly finishes told.0 there final (ap (λ notes. length (accepted_orders told.0 notes)) outside ∙ (ap length orders ∙ sym sends.submits.1)) room
  by_answer told rest old between there others (Err (Full back)) taken sends = absurd taken
  by_answer told rest old between there others (Err (Spent back)) taken sends = absurd taken
  by_answer told rest old between there others (Err (NoCore back)) taken sends = absurd taken

  -- each order is accepted, unless its core has closed
  pub all_heard : (orders : List Told) (old : View) (offers : OffersAll orders old ended) → AreHeard orders old ended offers assembly
  all_heard [] old offers = tt
  all_heard (told ∷ rest) old (between, one, others) =
      let more = grows (told ∷ rest) old ended (between, one, others) in
      let there : told.0 < ended.desk.cores = rw more.cores one.there in
      (by_answer told rest old between there others one.answer one.taken one.sends, all_heard rest between others)

-- the same of a whole run
pub heard : (cores cap burst : ℕ) (queues : List Entry) (orders : List Told) (started ended : View) (assembly : Assembly ℕ) → IsStarted cores cap burst (room_of cores cap burst) queues started → (offers : OffersAll orders started ended) →
    HasFinished script_meaning ended assembly → AreHeard orders started ended offers assembly
heard cores cap burst queues orders started ended assembly starts offers finishes =
    let more = grows orders started ended offers in
    let cores_are : ended.desk.cores ≡ cores = more.cores ∙ ap (λ (desk : DeskView Script ℕ). desk.cores) starts.desk in
    let cap_is : ended.desk.cap ≡ cap = more.cap ∙ ap (λ (desk : DeskView Script ℕ). desk.cap) starts.desk in
    let burst_is : ended.desk.burst ≡ burst = more.burst ∙ ap (λ (desk : DeskView Script ℕ). desk.burst) starts.desk in
    all_heard ended assembly finishes (rw (cores_are, cap_is, burst_is) (more.spare ∙ starts.room_is)) orders started offers
