-- What orders that are sent one after another change.
use Rattle.std.proofs.Common.{◌≡◌, inl, inr, ℕ, suc, ◌+◌, ◌≤◌, ◌<◌, ◌++◌, ◌==◌, eqb, cond, Bool, true, false, List, [], ◌∷◌, length, length-append, Some, None, Result, Ok, Err, refl, sym, ap, subst, ◌∙◌, arith, length-set}
use Rattle.std.proofs.lemmas.Bool.Decides.{nat_tests}
use Rattle.std.proofs.lemmas.List.{length-replicate}
use Rattle.std.proofs.lemmas.List.Sums.{sum_by-cons, sum_by-append}
use Rattle.base_words.specs.declared.names.JobId.{JobId}
use Rattle.base_words.specs.declared.note.Note.TheVariants.{Sent}
use Rattle.base_words.specs.declared.order.Order.{Order}
use Rattle.base_words.specs.declared.order.SendError.{SendError}
use Rattle.base_words.specs.declared.order.SendError.TheVariants.{Closed, Full, Spent, NoCore}
use Rattle.base_words.specs.Filters.{accepted_orders}
use Rattle.base_words.specs.Journal.{Journal, with_last}
use Rattle.base_words.specs.Orders.{without_job}
use Rattle.actor_desk.specs.Submissions.{DeskView, Submits}
use Rattle.note_journal.specs.Journals.{JournalView}
use Rattle.run_runtime.specs.Calls.{IsStarted}
use Rattle.fairexec_script.specs.Limits.{IsSize}
use Rattle.run_config.specs.Configs.{Entry}
use Rattle.fairexec_threads.specs.Accepted.{room_of}
use Rattle.base_jobs.specs.Scripts.{Script}
use Rattle.actor_caller.specs.declared.error.SubmitError.{SubmitError}
use Rattle.actor_caller.specs.declared.error.SubmitError.TheVariants.{JournalFull, Send}
use Rattle.run_runtime.specs.Sends.{MakesRoom, Sends, SendsTo, SubmitsTo}
use Rattle.run_runtime.specs.State.{RuntimeView}
use Rattle.fairexec_script.specs.Orders.{Told, orders_to}
use Rattle.fairexec_threads.specs.Counting.{sent_to, IsOfScript, HasPlace}
use Rattle.fairexec_threads.specs.Offers.{HasWords, Offers, OffersAll}
use Rattle.fairexec_threads.proofs.Rooming.{outstanding_few, has_room}
use Rattle.fairexec_script.specs.TextLimits.{most_lines}

abbrev pub View : Type 0
View = RuntimeView Script ℕ

-- a send to a core with a place is accepted, or the core is closed
of_error : (core : ℕ) (order : Order Script) → HasWords order → (old : View) (error : SendError Script) (new : View) → core < old.desk.cores → HasPlace core old → SendsTo core order old (Err error) new → Offers (core, order) old new
of_error core order words old (Closed back final) new there place sends = record { there = there; words = words; answer = Err (Closed back final); taken = tt; sends = sends }
of_error core order words old (Full back) new there place sends =
    let full = sends.submits.1 in let few = outstanding_few core old.desk.journal.notes in let here = place.here in
    absurd (omega (arith, full, few, here))
of_error core order words old (Spent back) new there place sends =
    let spent = sends.submits.2 in let here = place.here in let small = place.of_script.small_cap in
    absurd (omega (arith, spent, here, small))
of_error core order words old (NoCore back) new there place sends = absurd sends.submits

-- there is room for the send, so nothing is passed on first
none_passed : (each core : ℕ) (old mid : View) → each ≤ 3 → HasPlace core old → MakesRoom each old mid → mid ≡ old
none_passed each core old mid some place (inl (room, same)) = same
none_passed each core old mid some place (inr (full, passed)) = let room = has_room each core old some place in absurd (omega (arith, full, room))

sends_at_once : (each core : ℕ) (order : Order Script) (old mid : View) (answer : Result JobId (SendError Script)) (new : View) → each ≤ 3 → core < old.desk.cores → HasPlace core old → MakesRoom each old mid → Sends core order mid answer new → SendsTo core order old answer new
sends_at_once each core order old mid answer new some there place room sends =
    let here : Sends core order old answer new = subst (λ (view : View). Sends core order view answer new) (none_passed each core old mid some place room) sends in
    here.there there

pub offered : (each core : ℕ) (order : Order Script) → HasWords order → (old : View) (answer : Result JobId (SubmitError Script)) (new : View) → each ≤ 3 → core < old.desk.cores → HasPlace core old → SubmitsTo each core order old answer new → Offers (core, order) old new
offered each core order words old (Ok name) new some there place (mid, room, sends) =
    record { there = there; words = words; answer = Ok name; taken = tt; sends = sends_at_once each core order old mid (Ok name) new some there place room sends }
offered each core order words old (Err (JournalFull back)) new some there place submits = let full = submits.0 in let room = has_room each core old some place in absurd (omega (arith, full, room))
offered each core order words old (Err (Send error)) new some there place (mid, room, sends) =
    of_error core order words old error new there place (sends_at_once each core order old mid (Err error) new some there place room sends)

-- one more at the end, if it is told
last_length : {A : Type 0} (told : Bool) (xs : List A) (x : A) → length (with_last xs (cond told (Some x) None)) ≡ length xs + cond told 1 0
last_length true xs x = length-append xs (x ∷ [])
last_length false xs x = omega arith

sent_more : (core other : ℕ) (name : JobId) (order : Order (Unit {0})) (notes : Journal ℕ) → name.to ≡ core →
    length (accepted_orders other (Sent name order ∷ notes)) ≡ length (accepted_orders other notes) + cond (eqb core other) 1 0
sent_more core other name order notes to =
    last_length (eqb name.to other) (accepted_orders other notes) (name, order) ∙ ap (λ receiver. length (accepted_orders other notes) + cond (eqb receiver other) 1 0) to

-- one order adds one note at most, and it is of its own core
record GrowsOnce (core : ℕ) (old new : DeskView Script ℕ) : Type 0 where
  notes : length new.journal.notes ≤ length old.journal.notes + 1
  each : (other : ℕ) → length (accepted_orders other new.journal.notes) ≤ length (accepted_orders other old.journal.notes) + cond (eqb core other) 1 0

stays_same : (core : ℕ) (old new : DeskView Script ℕ) → new ≡ old → GrowsOnce core old new
stays_same core old new same = record {
  notes = let e = ap (λ (desk : DeskView Script ℕ). length desk.journal.notes) same in omega (arith, e);
  each = λ other. let e = ap (λ (desk : DeskView Script ℕ). length (accepted_orders other desk.journal.notes)) same in omega (arith, e);
}

submits_one : (core : ℕ) (order : Order Script) (old : DeskView Script ℕ) (answer : Result JobId (SendError Script)) (new : DeskView Script ℕ) → Submits core order old answer new → GrowsOnce core old new
submits_one core order old (Ok name) new (next, to, is) = record {
  notes = let e = ap (λ (journal : JournalView ℕ). length journal.notes) is in omega (arith, e);
  each =
      λ other.
      let e = ap (λ (journal : JournalView ℕ). length (accepted_orders other journal.notes)) is in
      let more = sent_more core other name (without_job order) old.journal.notes to in
      omega (arith, e, more);
}
submits_one core order old (Err (Closed back final)) new (same, count, is) = stays_same core old new is
submits_one core order old (Err (Full back)) new (same, full, is) = stays_same core old new is
submits_one core order old (Err (Spent back)) new (same, few, count, is) = stays_same core old new is
submits_one core order old (Err (NoCore back)) new none = absurd none

-- what stays, and by how much the journal grows at most
pub record Grows (orders : List Told) (old new : View) : Type 0 where
  pub cores : new.desk.cores ≡ old.desk.cores
  pub cap : new.desk.cap ≡ old.desk.cap
  pub burst : new.desk.burst ≡ old.desk.burst
  pub room : new.desk.journal.room ≡ old.desk.journal.room
  pub closings : length new.closing ≡ length old.closing
  pub spare : new.room ≡ old.room
  pub workers : new.workers ≡ old.workers
  pub notes : length new.desk.journal.notes ≤ length old.desk.journal.notes + length orders
  pub each : (core : ℕ) → sent_to core new ≤ sent_to core old + orders_to core orders

pub grows : (orders : List Told) (old new : View) → OffersAll orders old new → Grows orders old new
grows [] old new same = record {
  cores = ap (λ (view : View). view.desk.cores) same;
  cap = ap (λ (view : View). view.desk.cap) same;
  burst = ap (λ (view : View). view.desk.burst) same;
  room = ap (λ (view : View). view.desk.journal.room) same;
  closings = ap (λ (view : View). length view.closing) same;
  workers = ap (λ (view : View). view.workers) same;
  spare = ap (λ (view : View). view.room) same;
  notes = let e = ap (λ (view : View). length view.desk.journal.notes) same in omega (arith, e);
  each = λ core. let e = ap (λ (view : View). sent_to core view) same in omega (arith, e);
}
grows (told ∷ rest) old new (between, one, others) =
    let sends = one.sends in
    let first = submits_one told.0 told.1 old.desk one.answer between.desk sends.submits in
    let later = grows rest between new others in
    record {
      cores = later.cores ∙ ap (λ (desk : DeskView Script ℕ). desk.cores) sends.stays.desk;
      cap = later.cap ∙ ap (λ (desk : DeskView Script ℕ). desk.cap) sends.stays.desk;
      burst = later.burst ∙ ap (λ (desk : DeskView Script ℕ). desk.burst) sends.stays.desk;
      room = later.room ∙ ap (λ (journal : JournalView ℕ). journal.room) sends.passes.journal;
      workers = later.workers ∙ sends.stays.workers;
      spare = later.spare ∙ sends.stays.room;
      closings = later.closings ∙ (ap length sends.closing ∙ length-set old.closing told.0 _);
      notes = let a = first.notes in let b = later.notes in omega (arith, a, b);
      each = λ core. let a = first.each core in let b = later.each core in let c = sum_by-cons (λ t. cond (t.0 == core) 1 0) told rest in omega (arith, a, b, c);
    }

pub script_kept : (orders : List Told) (old new : View) → Grows orders old new → IsOfScript old → IsOfScript new
script_kept orders old new more script = record {
  some_cores = rw more.cores script.some_cores;
  few_cores = rw more.cores script.few_cores;
  small_cap = rw more.cap script.small_cap;
  room = rw (more.room, more.cores, more.cap, more.burst) script.room;
  closings = rw (more.closings, more.cores) script.closings;
}

-- one order more at the end
pub offers_more : (orders : List Told) (told : Told) (old between new : View) → OffersAll orders old between → Offers told between new → OffersAll (orders ++ told ∷ []) old new
offers_more [] told old between new same one = (new, subst (λ (view : View). Offers told view new) same one, refl)
offers_more (first ∷ rest) told old between new (next, done, others) one = (next, done, offers_more rest told next between new others one)

-- all orders, and then others
pub offers_both : (first second : List Told) (old between new : View) → OffersAll first old between → OffersAll second between new → OffersAll (first ++ second) old new
offers_both [] second old between new same later = subst (λ (view : View). OffersAll second view new) same later
offers_both (told ∷ rest) second old between new (next, done, others) later = (next, done, offers_both rest second next between new others later)

-- a runtime that was just started
pub started_of : (cores cap burst : ℕ) (queues : List Entry) (view : View) → IsStarted cores cap burst (room_of cores cap burst) queues view → IsSize cores cap → IsOfScript view × (view.desk.journal.notes ≡ [])
started_of cores cap burst queues view started size =
    let cores_are : view.desk.cores ≡ cores = ap (λ (desk : DeskView Script ℕ). desk.cores) started.desk in
    let cap_is : view.desk.cap ≡ cap = ap (λ (desk : DeskView Script ℕ). desk.cap) started.desk in
    let burst_is : view.desk.burst ≡ burst = ap (λ (desk : DeskView Script ℕ). desk.burst) started.desk in (
      record {
        some_cores = rw cores_are size.some_cores;
        few_cores = rw cores_are size.few_cores;
        small_cap = rw cap_is size.small_cap;
        room = rw (cores_are, cap_is, burst_is) (ap (λ (desk : DeskView Script ℕ). desk.journal.room) started.desk);
        closings = ap length started.closing ∙ (length-replicate cores false ∙ sym cores_are);
      },
      ap (λ (desk : DeskView Script ℕ). desk.journal.notes) started.desk,
    )

-- a runtime of whose journal nothing is noted
pub nothing_sent : (view : View) → IsOfScript view → view.desk.journal.notes ≡ [] → IsOfScript view × (length view.desk.journal.notes ≡ 0) × ((core : ℕ) → sent_to core view ≡ 0) × (view.desk.cap ≡ view.desk.cap)
nothing_sent view script none = (script, ap length none, (λ core. ap (λ (notes : Journal ℕ). length (accepted_orders core notes)) none), refl)

one_self : (core : ℕ) → ◌≡◌ {A = ℕ} (cond (eqb core core) 1 0) 1
one_self core = let same : eqb core core ≡ true = grind (arith, nat_tests) in rw same refl

-- an order of a script has a place, wherever it stands among the others
pub place_of_order : (all done rest : List Told) (told : Told) (cap : ℕ) (old view : View) → all ≡ done ++ told ∷ rest → length all ≤ most_lines → ((core : ℕ) → orders_to core all < cap) →
    IsOfScript old × (length old.desk.journal.notes ≡ 0) × ((core : ℕ) → sent_to core old ≡ 0) × (old.desk.cap ≡ cap) → OffersAll done old view → HasPlace told.0 view
place_of_order all done rest told cap old view parts short spare (script, no_notes, none_sent, cap_is) offers =
    let more = grows done old view offers in
    let cap_now : view.desk.cap ≡ cap = more.cap ∙ cap_is in
    let count : length all ≡ length done + suc (length rest) = ap length parts ∙ length-append done (told ∷ rest) in
    let split = λ (core : ℕ). ap (λ orders. orders_to core orders) parts ∙ sum_by-append (λ t. cond (t.0 == core) 1 0) done (told ∷ rest) in
    let head = λ (core : ℕ). sum_by-cons (λ t. cond (t.0 == core) 1 0) told rest in
    record {
      of_script = script_kept done old view more script;
      notes = let a = more.notes in omega (arith, a, no_notes, count, short);
      each = λ core. let a = more.each core in let b = none_sent core in let c = split core in let d = spare core in rw cap_now (omega (arith, a, b, c, d));
      here =
          let a = more.each told.0 in let b = none_sent told.0 in let c = split told.0 in let d = spare told.0 in let e = head told.0 in
          let f = one_self told.0 in
          rw cap_now (omega (arith, a, b, c, d, e, f));
    }
