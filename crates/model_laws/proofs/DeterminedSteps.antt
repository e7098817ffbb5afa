-- What the step of an event comes to, as the world before it tells: it has one result, unless there was no memory for a queue.
use Rattle.model_laws.proofs.Words.{◌≡◌, ℕ, ◌+◌, ◌-◌, ◌^◌, ◌<◌, ◌≤◌, Bool, true, false, List, [], ◌∷◌, ◌++◌, length, refl, sym, ◌∙◌, ap, subst, ◌⊎◌, inl, inr, ⊎_elim, arith}
use Rattle.model_laws.proofs.Words.{⊎_map, nat_le, is_some, none-some, same_Some, get_or-set_same, Option, Some, None, JobId, Note, Order, Journal}
use Rattle.model_laws.proofs.Words.{Fits, Reply, WorldView, journal_at, noted, Closed, Full, Spent, accepted_orders, outstanding_count, without_job}
use Rattle.model_laws.proofs.Words.{with_sent, Sends, Answer, Job, Create, SetShares, Close, CloseCore, Wake, core_mode, created_count, effect_note, with_effect}
use Rattle.model_laws.proofs.Words.{IsDelivery, next_place, Delivers, is_refusal, tells_refusal, WasRefusedSince, TicketError, Unknown, Gone, Pending}
use Rattle.model_laws.proofs.Words.{OutcomeNote, RefusesTicket, IsRedeemable, outcome_note, Shuts, WasAccepted, uncollected, collected_notes, Collects, Detaches}
use Rattle.model_laws.proofs.Words.{Redeems, AreAlike, is_told}
use Rattle.std.proofs.Math.Bool.{or-true}
use Rattle.std.proofs.Math.Dec.{leb}
use Rattle.std.proofs.lemmas.Bool.{le-leb, lt-leb, true_from_ne_false}
use Rattle.base_words.specs.declared.note.Note.TheVariants as writes
use Rattle.base_words.specs.declared.order.Answer.TheVariants as answers
use Rattle.base_words.specs.declared.order.Mode.{Mode}
use Rattle.base_words.specs.Assembly.{first_under}
use Rattle.base_words.specs.Closing.{final_count}
use Rattle.base_words.specs.Commands.{IsCreationAnswer, IsAnswer}
use Rattle.base_words.specs.Outstanding.{is_gone, name_collected}
use Rattle.base_words.proofs.Collected.{nothing_collected_under}
use Rattle.model_world.specs.declared.event.Reply.TheVariants as reply
use Rattle.model_world.specs.Deliveries.{IsAnswered}
use Rattle.base_jobs.specs.Meanings.{Meaning}

-- the world and the reply are the ones of this result
pub record Comes {J T : Type 0} (result : WorldView J T × Reply J) (new : WorldView J T) (answer : Reply J) : Type 0 where
  pub world : new ≡ result.0
  pub told : answer ≡ result.1

pub comes_once : {J T : Type 0} {result : WorldView J T × Reply J} {new other : WorldView J T} {answer also : Reply J} → Comes result new answer → Comes result other also →
    (new ≡ other) × (answer ≡ also)
comes_once first second = (first.world ∙ sym second.world, first.told ∙ sym second.told)

comes_as : {J T : Type 0} {result same : WorldView J T × Reply J} {new : WorldView J T} {answer : Reply J} → result ≡ same → Comes same new answer → Comes result new answer
comes_as {new = new} {answer = answer} is = subst (λ result. Comes result new answer) (sym is)

module _ {J T : Type 0} (sender core : ℕ) (order : Order J) (old : WorldView J T) where
  abbrev accepted : ℕ
  accepted = length (accepted_orders core (journal_at sender old))

  abbrev with_name : JobId → WorldView J T
  with_name name = record (noted sender (writes.Sent name (without_job order) ∷ []) old) { sent = with_sent sender core order old }

  -- a send, by the final count of the gate, by whether the link is full, and by whether all its numbers are given
  abbrev sent_by : Option ℕ → Bool → Bool → WorldView J T × Reply J
  sent_by (Some final) full spent = (old, reply.NotSent (Closed order final))
  sent_by None true spent = (old, reply.NotSent (Full order))
  sent_by None false true = (old, reply.NotSent (Spent order))
  sent_by None false false =
      let name : JobId = record { from = sender; to = core; number = accepted + 1 } in
      (with_name name, reply.Sent name)

  abbrev send_result : WorldView J T × Reply J
  send_result = sent_by (final_count sender (journal_at core old)) (leb old.cap (outstanding_count core (journal_at sender old))) (leb (2 ^ 63 - 1) accepted)

  pub sends_to : {new : WorldView J T} (answer : Reply J) → Sends sender core order old new answer → Comes send_result new answer
  sends_to (reply.Sent name) did =
      let same : name ≡ record { from = sender; to = core; number = accepted + 1 } =
      λ i. record { from = did.0.sender i; to = did.1 i; number = (did.0.next ∙ ap (λ at. length (accepted_orders at (journal_at sender old)) + 1) did.1) i } in
      let credit = subst (λ at. outstanding_count at (journal_at sender old) < old.cap) did.1 did.0.credit in
      let left : accepted < 2 ^ 63 - 1 = omega (arith, did.0.in_range, ap (λ name. name.number) same) in
      comes_as (λ i. sent_by (did.3 i) (lt-leb old.cap (outstanding_count core (journal_at sender old)) credit i) (lt-leb (2 ^ 63 - 1) accepted left i))
      (record { world = did.2 ∙ ap with_name same; told = ap reply.Sent same })
  sends_to (reply.NotSent (Closed back final)) did =
      comes_as (λ i. sent_by (did.1 i) (leb old.cap (outstanding_count core (journal_at sender old))) (leb (2 ^ 63 - 1) accepted)) (record { world = did.2; told = λ i. reply.NotSent (Closed (did.0 i) final) })
  sends_to (reply.NotSent (Full back)) did =
      comes_as (λ i. sent_by (did.3 i) (le-leb old.cap (outstanding_count core (journal_at sender old)) did.1 i) (leb (2 ^ 63 - 1) accepted)) (record { world = did.2; told = λ i. reply.NotSent (Full (did.0 i)) })
  sends_to (reply.NotSent (Spent back)) did =
      let used : 2 ^ 63 - 1 ≤ accepted = omega (arith, did.2) in
      comes_as (λ i. sent_by (did.4 i) (lt-leb old.cap (outstanding_count core (journal_at sender old)) did.1 i) (le-leb (2 ^ 63 - 1) accepted used i))
      (record { world = did.3; told = λ i. reply.NotSent (Spent (did.0 i)) })
  sends_to _ did = absurd did

module _ {J T : Type 0} (core sender : ℕ) (old : WorldView J T) where
  -- the shutting of a gate, by whether the core is closed, and by whether the gate is shut
  abbrev shut_by : Bool → Bool → WorldView J T × Reply J
  shut_by false shut = (old, reply.NotClosed)
  shut_by true true = (old, reply.AlreadyShut)
  shut_by true false = (noted core (writes.Shut sender (length (accepted_orders core (journal_at sender old))) ∷ []) old, reply.Noted)

  pub shuts_to : {new : WorldView J T} (answer : Reply J) → Shuts core sender old new answer →
      Comes (shut_by (is_some (core_mode (journal_at core old))) (is_some (final_count sender (journal_at core old)))) new answer
  shuts_to reply.Noted did = comes_as (λ i. shut_by (did.0 i) (is_some (did.1 i))) (record { world = did.2; told = refl })
  shuts_to reply.NotClosed did = comes_as (λ i. shut_by (is_some (did.0 i)) (is_some (final_count sender (journal_at core old)))) (record { world = did.1; told = refl })
  shuts_to reply.AlreadyShut did = comes_as (λ i. shut_by (did.0 i) (did.1 i)) (record { world = did.2; told = refl })
  shuts_to _ did = absurd did

  pub collects_to : {new : WorldView J T} (answer : Reply J) → Collects sender core old new answer →
      Comes (noted sender (collected_notes (uncollected sender core old)) old, reply.Collected (length (uncollected sender core old))) new answer
  collects_to (reply.Collected count) did = record { world = did.1; told = ap reply.Collected did.0 }
  collects_to _ did = absurd did

-- why a ticket is refused: by whether an order was accepted under its name, whether that is gone, and whether its outcome is collected
abbrev refused_by : Bool → Bool → Bool → Option TicketError
refused_by false gone collected = Some Unknown
refused_by true true collected = Some Gone
refused_by true false false = Some Pending
refused_by true false true = None

module _ {T : Type 0} (name : JobId) (journal : Journal T) where
  abbrev is_accepted : Bool
  is_accepted = is_some (first_under name (accepted_orders name.to journal))

  abbrev refusal : Option TicketError
  refusal = refused_by is_accepted (is_gone name journal) (is_told name_collected name journal)

  refuses : (error : TicketError) → RefusesTicket name error journal → refusal ≡ Some error
  refuses Unknown is = λ i. refused_by (is_some (is i)) (is_gone name journal) (is_told name_collected name journal)
  refuses Gone is = λ i. refused_by (is.0 i) (is.1 i) (is_told name_collected name journal)
  refuses Pending is = λ i. refused_by (is.0 i) (is.1 i) (is.2 i)

  refuses_none : (outcome : OutcomeNote T) → IsRedeemable name outcome journal → WasAccepted name journal → refusal ≡ None
  refuses_none outcome can was =
      let told = true_from_ne_false (is_told name_collected name journal) (λ new. none-some outcome (sym (nothing_collected_under name journal new) ∙ can.collected)) in
      λ i. refused_by (was i) (can.kept i) (told i)

module _ {J T : Type 0} (sender : ℕ) (name : JobId) (old : WorldView J T) where
  -- a detach, by why the ticket of a collected outcome would be refused
  abbrev detached_by : Option TicketError → WorldView J T × Reply J
  detached_by (Some error) = (old, reply.NoTicket error)
  detached_by None = (noted sender (writes.Detached name ∷ []) old, reply.Detached)

  pub detaches_to : {new : WorldView J T} (answer : Reply J) → Detaches sender name old new answer →
      Comes (detached_by (refused_by (is_accepted name (journal_at sender old)) (is_gone name (journal_at sender old)) true)) new answer
  detaches_to reply.Detached did = comes_as (λ i. detached_by (refused_by (is_some (did.0.accepted i)) (did.0.kept i) true)) (record { world = did.1; told = refl })
  detaches_to (reply.NoTicket Unknown) did =
      comes_as (λ i. detached_by (refused_by (is_some (did.0 i)) (is_gone name (journal_at sender old)) true)) (record { world = did.1; told = refl })
  detaches_to (reply.NoTicket Gone) did = comes_as (λ i. detached_by (refused_by (did.0.0 i) (did.0.1 i) true)) (record { world = did.1; told = refl })
  detaches_to _ did = absurd did

module _ {J : Type 0} (meaning : Meaning J ℕ) (sender : ℕ) (old new other : WorldView J ℕ) (name : JobId) where
  -- a redeem has one result, except for how far a job got that comes back
  pub redeems_once : (answer also : Reply J) → Redeems meaning sender name old new answer → Redeems meaning sender name old other also → (new ≡ other) × AreAlike meaning answer also
  redeems_once (reply.Redeemed outcome) (reply.Redeemed back) first second =
      let tells : outcome_note outcome ≡ outcome_note back = same_Some _ _ (sym first.0.collected ∙ second.0.collected) in
      let order = same_Some _ _ (sym second.2.1 ∙ first.2.1) in
      let other_fits = subst (λ order. Fits meaning order back) order second.2.2 in (
        first.3 ∙ (ap (λ outcome. noted sender (writes.Redeemed name outcome ∷ []) old) tells ∙ sym second.3),
        inr (record { outcome = outcome; back = back; redeemed = refl; other_redeemed = refl; tells = tells; order = first.2.0; fits = first.2.2; other_fits = other_fits }),
      )
  redeems_once (reply.Redeemed outcome) (reply.NoTicket error) first second =
      absurd (none-some error (sym (refuses_none name (journal_at sender old) (outcome_note outcome) first.0 first.1) ∙ refuses name (journal_at sender old) error second.0))
  redeems_once (reply.NoTicket error) (reply.Redeemed outcome) first second =
      absurd (none-some error (sym (refuses_none name (journal_at sender old) (outcome_note outcome) second.0 second.1) ∙ refuses name (journal_at sender old) error first.0))
  redeems_once (reply.NoTicket error) (reply.NoTicket also) first second =
      let one = same_Some error also (sym (refuses name (journal_at sender old) error first.0) ∙ refuses name (journal_at sender old) also second.0) in
      (first.1 ∙ sym second.1, inl (ap reply.NoTicket one))
  redeems_once (reply.Redeemed outcome) _ first second = absurd second
  redeems_once (reply.NoTicket error) _ first second = absurd second
  redeems_once _ _ first second = absurd first

-- a creation has one answer, unless one of two says that there was no memory
creation_once : (mode : Option Mode) (full : Bool) (next : ℕ) (answer also : Answer) → IsCreationAnswer mode full next answer → IsCreationAnswer mode full next also →
    (answer ≡ also) ⊎ ((answer ≡ answers.NoMemory) ⊎ (also ≡ answers.NoMemory))
creation_once (Some mode) full next answer also first second = inl (first ∙ sym second)
creation_once None true next answer also first second = inl (first ∙ sym second)
creation_once None false next answer also first second = ⊎_elim (λ none. inr (inl none)) (λ is. ⊎_elim (λ none. inr (inr none)) (λ also_is. inl (is ∙ sym also_is)) second) first

module _ {T : Type 0} (name : JobId) (before : Journal T) where
  -- and so has each command
  answer_once : (order : Order (Unit {0})) (answer also : Answer) → IsAnswer name.to order answer before → IsAnswer name.to order also before →
      (answer ≡ also) ⊎ ((answer ≡ answers.NoMemory) ⊎ (also ≡ answers.NoMemory))
  answer_once (Job queue job) answer also first second = absurd first
  answer_once (Create weight) answer also first second = creation_once (core_mode before) (nat_le 255 (created_count before)) (created_count before + 1) answer also first second
  answer_once (SetShares queue weight) answer also first second = inl (first ∙ sym second)
  answer_once (Close queue mode) answer also first second = inl (first ∙ sym second)
  answer_once (CloseCore mode) answer also first second = inl (first ∙ sym second)
  answer_once (Wake actor number) answer also first second = inl (first ∙ sym second)

  -- an answer that there was no memory tells a refusal
  refusal_told : (effect : Option (Note T)) → tells_refusal (with_effect effect (writes.Answered name answers.NoMemory ∷ [])) ≡ true
  refusal_told None = refl
  refusal_told (Some note) = or-true (is_refusal note)

  abbrev notes_of : Order (Unit {0}) → Answer → List (Note T)
  notes_of order answer = with_effect (effect_note name.to order answer) (writes.Answered name answer ∷ [])

  answered_once : (order : Order (Unit {0})) {notes others : List (Note T)} → IsAnswered name order before notes → IsAnswered name order before others →
      (notes ≡ others) ⊎ ((tells_refusal notes ≡ true) ⊎ (tells_refusal others ≡ true))
  answered_once order first second =
      ⊎_map (λ same. first.2 ∙ (ap (notes_of order) same ∙ sym second.2)) (⊎_map (told first.2) (told second.2)) (answer_once order first.0 second.0 first.1 second.1)
    where
      told : {notes : List (Note T)} {answer : Answer} → notes ≡ notes_of order answer → answer ≡ answers.NoMemory → tells_refusal notes ≡ true
      told are none = ap tells_refusal (are ∙ ap (notes_of order) none) ∙ refusal_told (effect_note name.to order answers.NoMemory)

  delivery_once : {J : Type 0} (order : Order J) {notes others : List (Note T)} → IsDelivery name order before notes → IsDelivery name order before others →
      (notes ≡ others) ⊎ ((tells_refusal notes ≡ true) ⊎ (tells_refusal others ≡ true))
  delivery_once (Job queue job) first second = inl (first ∙ sym second)
  delivery_once (Create weight) first second = answered_once (Create weight) first second
  delivery_once (SetShares queue weight) first second = answered_once (SetShares queue weight) first second
  delivery_once (Close queue mode) first second = answered_once (Close queue mode) first second
  delivery_once (CloseCore mode) first second = answered_once (CloseCore mode) first second
  delivery_once (Wake actor number) first second = answered_once (Wake actor number) first second

module _ {J T : Type 0} (core sender : ℕ) (old : WorldView J T) (there : core < length old.journals) where
  -- notes that tell a refusal stand in the journal of their core
  refused_here : (notes : List (Note T)) {new : WorldView J T} → new ≡ noted core notes old → tells_refusal notes ≡ true → WasRefusedSince old.journals new.journals
  refused_here notes is told =
      record { core = core; notes = notes; since = ap (journal_at core) is ∙ get_or-set_same old.journals core (notes ++ journal_at core old) [] there; told = told }

  pub delivers_once : (new other : WorldView J T) (answer also : Reply J) → Delivers core sender old new answer → Delivers core sender old other also →
      ((new ≡ other) × (answer ≡ also)) ⊎ (WasRefusedSince old.journals new.journals ⊎ WasRefusedSince old.journals other.journals)
  delivers_once new other reply.Noted reply.Noted first second =
      let name : JobId = record { from = sender; to = core; number = next_place sender core old + 1 } in
      let order = same_Some second.0 first.0 (sym second.1 ∙ first.1) in
      ⊎_map (λ same. (first.4 ∙ (ap (λ notes. noted core notes old) same ∙ sym second.4), refl)) (⊎_map (refused_here first.2 first.4) (refused_here second.2 second.4))
      (delivery_once name (journal_at core old) first.0 first.3 (subst (λ order. IsDelivery name order (journal_at core old) second.2) order second.3))
  delivers_once new other reply.Noted reply.Empty first second = absurd (none-some first.0 (sym second.0 ∙ first.1))
  delivers_once new other reply.Empty reply.Noted first second = absurd (none-some second.0 (sym first.0 ∙ second.1))
  delivers_once new other reply.Empty reply.Empty first second = inl (first.1 ∙ sym second.1, refl)
  delivers_once new other reply.Noted _ first second = absurd second
  delivers_once new other reply.Empty _ first second = absurd second
  delivers_once new other _ _ first second = absurd first
