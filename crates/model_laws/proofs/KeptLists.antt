-- What each event leaves: as many journals and lists of orders as before, each journal behind what it got, and no refusal told, if no queue is ordered.
use Rattle.model_laws.proofs.Words.{append_assoc, ◌≡◌, ℕ, ◌+◌, Bool, true, false, List, [], ◌∷◌, ◌++◌, length, refl, sym, ◌∙◌, ap, subst, inl, inr, ⊎_elim, get_or, set}
use Rattle.model_laws.proofs.Words.{unwrap_or, true≢false, length-set, Some, slice_get, JobId, Note, Order, Journal, Meaning, Event, Reply, WorldView, journal_at}
use Rattle.model_laws.proofs.Words.{noted, Happens, Create, Reason, Unknown, Gone, Closed, Full, Spent, accepted_orders, name_started, is_told, outcome_note}
use Rattle.model_laws.proofs.Words.{Call, Makes, Submit, Send, Deliver, Turn, Shut, Collect, without_job, sent_at, with_sent, Sends, sent_reply, Delivers}
use Rattle.model_laws.proofs.Words.{next_place, CallsAt, Ends, Further, IsPoll, poll_notes, settled_note, settled_of, stays_in_line, Turns, Shuts, collected_notes, uncollected, Collects, Redeems, Detaches}
use Rattle.model_laws.proofs.Words.{redeemed_reply, detached_reply, Steps, HasAllLists, tells_refusal, WasRefused, IsNoCreation, CallNoQueues, PollsOrderNone}
use Rattle.std.proofs.lemmas.Bool.{false_from_ne_true}
use Rattle.base_words.specs.Bursts.{has_bursts}
use Rattle.base_words.specs.declared.note.Note.TheVariants as writes
use Rattle.base_jobs.specs.Calls.Call.{Redeem as RedeemCall, Detach as DetachCall}
use Rattle.model_world.specs.declared.event.Event.TheVariants.{Redeem, Detach}
use Rattle.model_world.specs.declared.event.Reply.TheVariants as reply
use Rattle.model_laws.specs.Creations.{OrdersNoQueue}
use Rattle.model_world.proofs.Places.{set_or, set_each}
use Rattle.model_laws.proofs.PlainNotes.{plain_after, collected_plain, begun_plain, settle_plain, delivery_plain, no_creation}
use Rattle.link_ends.proofs.Lists.{slice_get-with_last}

-- as many rows as before, each as long as before
record KeepsRows {A : Type 0} (old new : List (List A)) : Type 0 where
  same_count : length new ≡ length old
  same_rows : (place : ℕ) → length (get_or new place []) ≡ length (get_or old place [])

-- a row is replaced by one that is as long
KeepsRows-set : {A : Type 0} (rows : List (List A)) (row : ℕ) (items : List A) → length items ≡ length (get_or rows row []) → KeepsRows rows (set rows row items)
KeepsRows-set rows row items same = record {
  same_count = length-set rows row items;
  same_rows = λ place.
      ⊎_elim (λ here. ap length here.1 ∙ (same ∙ ap (λ at. length (get_or rows at [])) (sym here.0))) (λ other. ap length other) (set_or rows row items place []);
}

-- the notes of a turn that hands a job back, the newest first
abbrev pub back_notes : {T : Type 0} → JobId → Reason → ℕ → ℕ → List (Note T)
back_notes name reason queue runtime = writes.Returned name reason ∷ writes.Pick queue runtime ∷ []

-- each journal has its old notes behind what it got
abbrev pub Extends : {T : Type 0} → List (Journal T) → List (Journal T) → Type 0
Extends {T} old new = (core : ℕ) → (notes : Journal T) × (get_or new core [] ≡ notes ++ get_or old core [])

-- no order of a link is for a new queue
abbrev pub OrderNone : {J : Type 0} → List (Order J) → Type 0
OrderNone orders = (place weight : ℕ) → slice_get orders place ≡ Some (Create weight) → ⊥

-- no queue was ordered, and no refusal told
pub record IsPlain {J T : Type 0} (world : WorldView J T) : Type 0 where
  pub orders : (sender core : ℕ) → OrderNone (sent_at sender core world)
  pub told : WasRefused world.journals → ⊥

-- some events later: each journal has its old notes behind what it got, there are as many lists as before, and no refusal is told, if the events order no queue
pub record IsLater {J T : Type 0} (none : Type 0) (old new : WorldView J T) : Type 0 where
  pub journals : Extends old.journals new.journals
  pub lists : HasAllLists old → HasAllLists new
  pub plain : none → IsPlain old → IsPlain new

module _ {J T : Type 0} {none : Type 0} {old new : WorldView J T} where
  later_same : new ≡ old → IsLater none old new
  later_same same = record {
    journals = λ actor. ([], ap (journal_at actor) same);
    lists = λ lists. subst (λ world. HasAllLists world) (sym same) lists;
    plain = λ orders plain. subst (λ world. IsPlain world) (sym same) plain;
  }

  later_then : {middle : WorldView J T} → IsLater none old middle → IsLater none middle new → IsLater none old new
  later_then first rest = record {
    journals = λ actor.
        let one = first.journals actor in
        let two = rest.journals actor in
        (two.0 ++ one.0, two.1 ∙ (ap (λ front. two.0 ++ front) one.1 ∙ sym (append_assoc two.0 one.0 (journal_at actor old))));
    lists = λ lists. rest.lists (first.lists lists);
    plain = λ orders plain. rest.plain orders (first.plain orders plain);
  }

  later_if : {other : Type 0} → (none → other) → IsLater other old new → IsLater none old new
  later_if orders later = record { journals = later.journals; lists = later.lists; plain = λ none plain. later.plain (orders none) plain }

  -- one journal is longer by some notes, and there are as many lists of orders as before
  later_longer : (actor : ℕ) (notes : List (Note T)) (sent : List (List (List (Order J)))) → KeepsRows old.sent sent →
      (none → IsPlain old → (tells_refusal notes ≡ false) × ((sender core : ℕ) → OrderNone (get_or (get_or sent sender []) core []))) →
      new ≡ record (noted actor notes old) { sent = sent } → IsLater none old new
  later_longer actor notes sent kept more is = record {
    journals = λ core.
        ⊎_elim (λ here. (notes, ap (journal_at core) is ∙ (here.1 ∙ ap (λ at. notes ++ journal_at at old) (sym here.0)))) (λ other. ([], ap (journal_at core) is ∙ other))
        (set_or old.journals actor (notes ++ journal_at actor old) core []);
    lists = λ lists. subst (λ world. HasAllLists world) (sym is) (record {
      journals_are = length-set old.journals actor (notes ++ journal_at actor old) ∙ lists.journals_are;
      senders_are = kept.same_count ∙ lists.senders_are;
      links_are = λ sender there. kept.same_rows sender ∙ lists.links_are sender there;
    });
    plain = λ orders plain. subst (λ world. IsPlain world) (sym is) (record {
      orders = (more orders plain).1;
      told = λ refused.
          let silent = λ (at : ℕ). false_from_ne_true (tells_refusal (journal_at at old)) (λ told. plain.told (at, told)) in
          true≢false
          (sym refused.1
          ∙ set_each old.journals actor (notes ++ journal_at actor old) refused.0 [] (λ journal. tells_refusal journal ≡ false)
          (plain_after notes (journal_at actor old) (more orders plain).0 (silent actor)) (silent refused.0));
    });
  }

  -- one journal got some notes
  pub later_noted : (actor : ℕ) (notes : List (Note T)) → (none → IsPlain old → tells_refusal notes ≡ false) → new ≡ noted actor notes old → IsLater none old new
  later_noted actor notes told is =
      later_longer actor notes old.sent (record { same_count = refl; same_rows = λ place. refl }) (λ orders plain. (told orders plain, plain.orders)) is

module _ {J T : Type 0} where
  -- one more order of a link is for no new queue, if it is none itself
  sent_none : (sender core : ℕ) (order : Order J) (world : WorldView J T) → IsNoCreation order → IsPlain world →
      (from to : ℕ) → OrderNone (get_or (get_or (with_sent sender core order world) from []) to [])
  sent_none sender core order world none plain from to =
      let last : OrderNone (sent_at sender core world ++ order ∷ []) = λ place weight at.
      ⊎_elim (plain.orders sender core place weight) (λ is. subst IsNoCreation is.1 none) (slice_get-with_last (sent_at sender core world) order (Create weight) place at) in
      set_each world.sent sender (set (get_or world.sent sender []) core (sent_at sender core world ++ order ∷ [])) from [] (λ row. OrderNone (get_or row to []))
      (set_each (get_or world.sent sender []) core (sent_at sender core world ++ order ∷ []) to [] OrderNone last (plain.orders sender to)) (plain.orders from to)

  pub sends : (sender core : ℕ) (order : Order J) (old new : WorldView J T) (answer : Reply J) → Sends sender core order old new answer → IsLater (IsNoCreation order) old new
  sends sender core order old new (reply.Sent name) happens =
      let orders = sent_at sender core old ++ order ∷ [] in
      later_longer sender (writes.Sent name (without_job order) ∷ []) (with_sent sender core order old)
      (KeepsRows-set old.sent sender (set (get_or old.sent sender []) core orders) (length-set (get_or old.sent sender []) core orders))
      (λ none plain. (refl, sent_none sender core order old none plain)) happens.2
  sends sender core order old new (reply.NotSent (Closed back final)) happens = later_same happens.2
  sends sender core order old new (reply.NotSent (Full back)) happens = later_same happens.2
  sends sender core order old new (reply.NotSent (Spent back)) happens = later_same happens.3
  sends sender core order old new _ happens = absurd happens

  delivers : {none : Type 0} (core sender : ℕ) (old new : WorldView J T) (answer : Reply J) → Delivers core sender old new answer → IsLater none old new
  delivers core sender old new reply.Noted happens =
      let created = λ (plain : IsPlain old) (weight : ℕ) (is : happens.0 ≡ Create weight).
      plain.orders sender core (next_place sender core old) weight (happens.1 ∙ ap (λ order. Some order) is) in
      later_noted core happens.2
      (λ none plain. delivery_plain (record { from = sender; to = core; number = next_place sender core old + 1 }) happens.0 (journal_at core old) happens.2 (no_creation happens.0 (created plain)) happens.3)
      happens.4
  delivers core sender old new reply.Empty happens = later_same happens.1
  delivers core sender old new _ happens = absurd happens

  shuts : {none : Type 0} (core sender : ℕ) (old new : WorldView J T) (answer : Reply J) → Shuts core sender old new answer → IsLater none old new
  shuts core sender old new reply.Noted happens = later_noted core (writes.Shut sender (length (accepted_orders core (journal_at sender old))) ∷ []) (λ none plain. refl) happens.2
  shuts core sender old new reply.NotClosed happens = later_same happens.1
  shuts core sender old new reply.AlreadyShut happens = later_same happens.2
  shuts core sender old new _ happens = absurd happens

  collects : {none : Type 0} (sender core : ℕ) (old new : WorldView J T) (answer : Reply J) → Collects sender core old new answer → IsLater none old new
  collects sender core old new (reply.Collected count) happens =
      later_noted sender (collected_notes (uncollected sender core old)) (λ none plain. collected_plain (uncollected sender core old)) happens.1
  collects sender core old new _ happens = absurd happens

  detaches : {none : Type 0} (sender : ℕ) (name : JobId) (old new : WorldView J T) (answer : Reply J) → Detaches sender name old new answer → IsLater none old new
  detaches sender name old new reply.Detached happens = later_noted sender (writes.Detached name ∷ []) (λ none plain. refl) happens.1
  detaches sender name old new (reply.NoTicket Unknown) happens = later_same happens.1
  detaches sender name old new (reply.NoTicket Gone) happens = later_same happens.1
  detaches sender name old new _ happens = absurd happens

module _ {J : Type 0} (meaning : Meaning J ℕ) where
  redeems : {none : Type 0} (sender : ℕ) (name : JobId) (old new : WorldView J ℕ) (answer : Reply J) → Redeems meaning sender name old new answer → IsLater none old new
  redeems sender name old new (reply.Redeemed outcome) happens = later_noted sender (writes.Redeemed name (outcome_note outcome) ∷ []) (λ none plain. refl) happens.3
  redeems sender name old new (reply.NoTicket error) happens = later_same happens.1
  redeems sender name old new _ happens = absurd happens

  -- what the calls of a post do
  called : (core : ℕ) (calls : List (Call J ℕ)) (old new : WorldView J ℕ) → Makes (CallsAt meaning core) calls old new → IsLater (CallNoQueues calls) old new
  called core [] old new makes = later_same makes
  called core (Submit to order answer ∷ calls) old new makes =
      later_then (later_if (λ none. none.0) (submitted makes.1)) (later_if (λ none. none.1) (called core calls makes.0 new makes.2))
    where
      submitted : CallsAt meaning core old (Submit to order answer) makes.0 → IsLater (IsNoCreation order) old makes.0
      submitted (inl none) = later_same none.2
      submitted (inr sent) = sends core to order old makes.0 (sent_reply answer) sent.1
  called core (RedeemCall name answer ∷ calls) old new makes = later_then (redeems core name old makes.0 (redeemed_reply answer) makes.1) (called core calls makes.0 new makes.2)
  called core (DetachCall name answer ∷ calls) old new makes = later_then (detaches core name old makes.0 (detached_reply answer) makes.1) (called core calls makes.0 new makes.2)

  -- what a poll does, where no refusal is told by the notes before its own
  polls : (core spent queue : ℕ) (name : JobId) (begun : List (Note ℕ)) → tells_refusal begun ≡ false → (old new : WorldView J ℕ) → IsPoll meaning core spent queue name begun old new →
      IsLater (PollsOrderNone meaning) old new
  polls core spent queue name begun silent old new poll =
      let start = poll_notes name begun (journal_at core old) in
      later_then {middle = noted core start old}
      (later_noted core start (λ none plain. begun_plain ℕ name (is_told name_started name (journal_at core old)) begun silent) refl)
      (later_then (later_if (λ none. none _ _ _ _ _ poll.owed) (called core poll.calls (noted core start old) poll.posted poll.posts))
      (later_noted core (settled_note name (unwrap_or poll.told spent) poll.step (journal_at core poll.posted) ∷ [])
      (λ none plain. settle_plain name (unwrap_or poll.told spent) (settled_of poll.step (stays_in_line name (journal_at core poll.posted)))) poll.notes))

  ends : {none : Type 0} (form : Bool) (core : ℕ) (old new : WorldView J ℕ) → Ends form core old new → IsLater none old new
  ends true core old new did = later_noted core (writes.Turned did.queue did.time ∷ []) (λ none plain. refl) did.notes
  ends false core old new same = later_same same

  further : (core spent : ℕ) (later : List JobId) (old new : WorldView J ℕ) → Further meaning core spent later old new → IsLater (PollsOrderNone meaning) old new
  further core spent [] old new did = ends (has_bursts old.burst) core old new did
  further core spent (name ∷ later) old new did =
      later_then {middle = did.0} (polls core spent did.1.queue name [] refl old did.0 did.1.poll) (further core spent later did.0 new did.2)

  turns : (core spent : ℕ) (old new : WorldView J ℕ) (answer : Reply J) → Turns meaning core spent old new answer → IsLater (PollsOrderNone meaning) old new
  turns core spent old new reply.Noted (inl did) =
      let first = did.first in
      later_then {middle = did.mid} (polls core spent first.queue first.name (writes.Pick first.queue first.runtime ∷ []) refl old did.mid first.poll) (further core spent did.later did.mid new did.further)
  turns core spent old new reply.Noted (inr back) = later_noted core (back_notes back.name back.reason back.queue back.runtime) (λ none plain. refl) back.notes
  turns core spent old new reply.Idle happens = later_same happens.1
  turns core spent old new reply.Spent happens = later_same happens.2
  turns core spent old new _ happens = absurd happens

  steps : (event : Event J) (old new : WorldView J ℕ) (answer : Reply J) → Steps meaning event old new answer → IsLater (OrdersNoQueue event × PollsOrderNone meaning) old new
  steps (Send sender core order) old new answer happens = later_if (λ none. none.0) (sends sender core order old new answer happens)
  steps (Deliver core sender) old new answer happens = delivers core sender old new answer happens
  steps (Turn core spent) old new answer happens = later_if (λ none. none.1) (turns core spent old new answer happens)
  steps (Shut core sender) old new answer happens = shuts core sender old new answer happens
  steps (Collect sender core) old new answer happens = collects sender core old new answer happens
  steps (Redeem sender name) old new answer happens = redeems sender name old new answer happens
  steps (Detach sender name) old new answer happens = detaches sender name old new answer happens

  -- what an event leaves
  pub is_later : (event : Event J) (old new : WorldView J ℕ) (answer : Reply J) → Happens meaning event old new answer → IsLater (OrdersNoQueue event × PollsOrderNone meaning) old new
  is_later event old new (reply.NoActor back) happens = later_same happens.2
  is_later event old new (reply.NoRoom back) happens = later_same happens.3
  is_later event old new answer happens = steps event old new answer happens.2

  pub happens_keep : (event : Event J) (old new : WorldView J ℕ) (answer : Reply J) → Happens meaning event old new answer → HasAllLists old → HasAllLists new
  happens_keep event old new answer happens = (is_later event old new answer happens).lists
