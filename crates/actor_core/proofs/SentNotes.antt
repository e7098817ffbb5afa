-- A core beside its journal stays recorded as its actor submits, collects, redeems or detaches, and the ends that it receives from stay beside it.
use Rattle.actor_core.proofs.Names.{inside_count, ◌≡◌, ℕ, List, [], ◌∷◌, ◌++◌, length, refl, sym, ◌∙◌, ap, subst, arith, add-zero, Result, Ok, Err, None, JobId, TicketError, Unknown, Gone, Note, OutcomeNote, Order, Outcome, Envelope, SendError}
use Rattle.actor_core.proofs.Names.{Closed, Full, NoCore, final_count, created_count, shares, delivered_names, given_outcomes, DeliversAs, Journal, EachNote, or_else, without_job, outcome_note, Meaning, CoreView, Lane, Agrees, polls_made, DeskView}
use Rattle.actor_core.proofs.Names.{IsWritten, Submits, terms_of_desk, RecordedView, IsRecorded, desk_of, terms_at, given_count, KeepsIn, ArePosts, AreCollected, CollectsFrom, RedeemsTicket, DetachesTicket, IsSameSeat, Pending}
use Rattle.base_words.specs.declared.note.Note.TheVariants as writes
use Rattle.std.specs.Prelude.{Bool, true, false}
use Rattle.link_ends.specs.declared.ends.Outward.{Outward}
use Rattle.actor_desk.specs.Tickets.{GetsNext}
use Rattle.base_words.specs.declared.order.SendError.TheVariants.{Spent}
use Rattle.actor_core.proofs.Kept.{IsOpenNote, closing-stays, agrees_unmoved, IsCalm}
use Rattle.actor_core.proofs.EndsKept.{keeps_in}
use Rattle.actor_core.proofs.Received.{task_stays}
use Rattle.actor_core.proofs.Sums.{sum_upto-same}
use Rattle.actor_core.proofs.QuietSteps.{nobody, held_on, view_of, desk_is}

-- the longer journal says no more of the core, of what was delivered and given, of gates and of polls
pub record SaysNoMore {T : Type 0} (old new : Journal T) : Type 1 where
  pub agrees : {J : Type 0} {burst : ℕ} (core : CoreView J) → Agrees burst core old → Agrees burst core new
  pub delivered : (sender : ℕ) → delivered_names sender new ≡ delivered_names sender old
  pub given : (sender : ℕ) → given_outcomes sender new ≡ given_outcomes sender old
  pub gates : (sender : ℕ) → final_count sender new ≡ final_count sender old
  pub as_sent : (under : _) → EachNote (DeliversAs under) old → EachNote (DeliversAs under) new
  pub polls : (name : JobId) → polls_made name new ≡ polls_made name old

module _ {T : Type 0} where
  pub no_more : (journal : Journal T) → SaysNoMore journal journal
  no_more journal = assumption

  -- so does one that is longer by one more note
  module _ {old before : Journal T} (was : SaysNoMore old before) where
    -- a calm note by which nothing is delivered or given, and nothing is created, weighed or closed
    silent_note : (note : Note T) → IsCalm note before → created_count (note ∷ before) ≡ created_count before → ((queue : ℕ) → shares queue (note ∷ before) ≡ shares queue before) → IsOpenNote note →
        ((sender : ℕ) → delivered_names sender (note ∷ before) ≡ delivered_names sender before) → ((sender : ℕ) → given_outcomes sender (note ∷ before) ≡ given_outcomes sender before) →
        ((under : _) → EachNote (DeliversAs under) before → EachNote (DeliversAs under) (note ∷ before)) → ((name : JobId) → polls_made name (note ∷ before) ≡ polls_made name before) → SaysNoMore old (note ∷ before)
    silent_note note calm creates weighs opens delivered given as_sent polls = record {
      agrees = λ core agreed.
          let agrees = was.agrees core agreed in
          agrees_unmoved core before note agrees calm creates weighs core.delivered agrees.senders (λ sender known. agrees.delivered sender known ∙ ap length (sym (delivered sender))) core.gates core.mode
          (closing-stays core core note before (λ queue. refl) refl refl refl opens agrees.closing);
      delivered = λ sender. delivered sender ∙ was.delivered sender;
      given = λ sender. given sender ∙ was.given sender;
      gates = λ sender. ap (λ told. or_else told (final_count sender before)) (opens.gates sender) ∙ was.gates sender;
      as_sent = λ under is. as_sent under (was.as_sent under is);
      polls = λ name. polls name ∙ was.polls name;
    }

    sent_no_more : (name : JobId) (order : Order (Unit {0})) → SaysNoMore old (writes.Sent name order ∷ before)
    sent_no_more name order = silent_note (writes.Sent name order) (assumption) refl (λ queue. refl) (assumption) (λ sender. refl) (λ sender. refl) (λ under is. (tt, is)) (λ name. add-zero (polls_made name before))

    collected_no_more : (name : JobId) (outcome : OutcomeNote T) → SaysNoMore old (writes.Collected name outcome ∷ before)
    collected_no_more name outcome = silent_note (writes.Collected name outcome) (assumption) refl (λ queue. refl) (assumption) (λ sender. refl) (λ sender. refl) (λ under is. (tt, is)) (λ name. add-zero (polls_made name before))

    redeemed_no_more : (name : JobId) (outcome : OutcomeNote T) → SaysNoMore old (writes.Redeemed name outcome ∷ before)
    redeemed_no_more name outcome = silent_note (writes.Redeemed name outcome) (assumption) refl (λ queue. refl) (assumption) (λ sender. refl) (λ sender. refl) (λ under is. (tt, is)) (λ name. add-zero (polls_made name before))

    detached_no_more : (name : JobId) → SaysNoMore old (writes.Detached name ∷ before)
    detached_no_more name = silent_note (writes.Detached name) (assumption) refl (λ queue. refl) (assumption) (λ sender. refl) (λ sender. refl) (λ under is. (tt, is)) (λ name. add-zero (polls_made name before))

  pub all_collected : (core : ℕ) (notes before : Journal T) → AreCollected core notes → SaysNoMore before (notes ++ before)
  all_collected core [] before are = no_more before
  all_collected core (writes.Collected name outcome ∷ notes) before are = collected_no_more (all_collected core notes before are.1) name outcome
  all_collected core (_ ∷ notes) before are = absurd are

  pub all_posted : (notes before : Journal T) → ArePosts notes → SaysNoMore before (notes ++ before)
  all_posted [] before are = no_more before
  all_posted (writes.Sent name order ∷ notes) before are = sent_no_more (all_posted notes before are) name order
  all_posted (writes.Redeemed name outcome ∷ notes) before are = redeemed_no_more (all_posted notes before are) name outcome
  all_posted (writes.Detached name ∷ notes) before are = detached_no_more (all_posted notes before are) name
  all_posted (_ ∷ notes) before are = absurd are

module _ {J T : Type 0} (old : RecordedView J T) (longer : Journal T) (lanes : List (Lane J T)) where
  abbrev new : RecordedView J T
  new = record old { journal = record old.journal { notes = longer }; lanes = lanes }

  module _ (silent : SaysNoMore old.journal.notes longer) where
    pub recorded_silent : {meaning : Meaning J T} → IsRecorded meaning old → IsWritten (terms_at old) longer → IsRecorded meaning new
    recorded_silent recorded written = record {
      kept = record { is_core = recorded.kept.is_core; agrees = silent.agrees old.core recorded.kept.agrees; notes = written.notes; no_pick = written.no_pick; no_answer = written.no_answer };
      room = recorded.room;
      held = held_on nobody old.journal.notes longer silent.delivered silent.given old.core.cores old.cap (inside_count old.core) (inside_count old.core)
          (omega (arith, sum_upto-same (given_count longer) (given_count old.journal.notes) old.core.cores (λ sender. ap length (silent.given sender)))) recorded.held;
      taken = λ which order at.
          let was = recorded.taken which order at in record { sender = was.sender; old = omega (arith, was.old, ap length (silent.delivered which.from)) };
      as_sent = silent.as_sent _ recorded.as_sent;
      tasks = record {
        waiting = λ queue place default within. task_stays (λ order at. at) (silent.polls _) (recorded.tasks.waiting queue place default within);
        parked = λ queue place default within. task_stays (λ order at. at) (silent.polls _) (recorded.tasks.parked queue place default within);
      };
      out = λ job at. task_stays (λ order at. at) (silent.polls job.name) (recorded.out job at);
    }

    pub ins_silent : (sender : ℕ) → KeepsIn sender old new
    ins_silent sender =
        keeps_in old new (record { number = refl; cores = refl; cap = refl; burst = refl; room = refl; passed = refl }) sender None (silent.given sender) (silent.gates sender) (λ inward is. tt) (ap length (silent.delivered sender)) (λ which order from at. at)

-- what each call of the desk writes
module _ {J T : Type 0} (said now : DeskView J T) where
  along : (notes : List (Note T)) → now.journal ≡ record said.journal { notes = notes ++ said.journal.notes } → SaysNoMore said.journal.notes (notes ++ said.journal.notes) → SaysNoMore said.journal.notes now.journal.notes
  along notes is = subst (SaysNoMore said.journal.notes) (sym (ap (λ journal. journal.notes) is))

  nothing : now ≡ said → SaysNoMore said.journal.notes now.journal.notes
  nothing is = subst (λ now. SaysNoMore said.journal.notes now.journal.notes) (sym is) (no_more said.journal.notes)

  pub submitted_silent : (core : ℕ) (order : Order J) (answer : Result JobId (SendError J)) → Submits core order said answer now → SaysNoMore said.journal.notes now.journal.notes
  submitted_silent core order (Ok name) submits = along (writes.Sent name (without_job order) ∷ []) submits.2 (sent_no_more (no_more said.journal.notes) name (without_job order))
  submitted_silent core order (Err (Closed back final)) submits = nothing submits.2
  submitted_silent core order (Err (Full back)) submits = nothing submits.2
  submitted_silent core order (Err (Spent back)) submits = nothing submits.3
  submitted_silent core order (Err (NoCore back)) submits = absurd submits

  pub collected_silent : (core count : ℕ) → CollectsFrom core said count now → SaysNoMore said.journal.notes now.journal.notes
  collected_silent core count collects = along collects.0 collects.3 (all_collected core collects.0 said.journal.notes collects.1)

  pub next_silent : (core : ℕ) (out later : Outward J T) (found : Bool) → GetsNext core said now out later found → SaysNoMore said.journal.notes now.journal.notes
  next_silent core out later true gets = along (writes.Collected gets.0.0 gets.0.1 ∷ []) gets.0.3 (collected_no_more (no_more said.journal.notes) gets.0.0 gets.0.1)
  next_silent core out later false gets = nothing gets.0

  pub redeemed_silent : (name : JobId) (answer : Result (Outcome J T) TicketError) → RedeemsTicket name said answer now → SaysNoMore said.journal.notes now.journal.notes
  redeemed_silent name (Ok outcome) redeems = along (writes.Redeemed name (outcome_note outcome) ∷ []) redeems.2 (redeemed_no_more (no_more said.journal.notes) name (outcome_note outcome))
  redeemed_silent name (Err error) redeems = nothing redeems.1

  pub detached_silent : (name : JobId) (answer : Result (Unit {0}) TicketError) → DetachesTicket name said answer now → SaysNoMore said.journal.notes now.journal.notes
  detached_silent name (Ok done) detaches = along (writes.Detached name ∷ []) detaches.1 (detached_no_more (no_more said.journal.notes) name)
  detached_silent name (Err Pending) detaches = absurd detaches
  detached_silent name (Err Unknown) detaches = nothing detaches.1
  detached_silent name (Err Gone) detaches = nothing detaches.1

-- what a call of its desk leaves of a core: it is recorded, the desk is its own, and the ends that it receives from are as they were
pub record HasSaid {J T : Type 0} (meaning : Meaning J T) (desk : DeskView J T) (old new : RecordedView J T) : Type 0 where
  pub sound : IsRecorded meaning new
  pub is_its : desk ≡ desk_of new
  pub rest : new ≡ record old { journal = new.journal; lanes = new.lanes }
  pub ins : (sender : ℕ) → KeepsIn sender old new
  pub seat : IsSameSeat old new

-- whatever its desk did
module _ {J T : Type 0} {meaning : Meaning J T}
    (inside : CoreView J) (took : List (Envelope J)) (said : DeskView J T)
    (invariant : IsRecorded meaning (view_of inside took said) × (said ≡ desk_of (view_of inside took said))) {before : RecordedView J T} (view_is : view_of inside took said ≡ before) where
  -- nothing of the core but its journal and its lanes has changed
  now_rest : {now : DeskView J T} → now ≡ record said { journal = record said.journal { notes = now.journal.notes }; lanes = now.lanes } →
      view_of inside took now ≡ record before { journal = now.journal; lanes = now.lanes }
  now_rest {now} rest =
      subst (λ before. view_of inside took now ≡ record before { journal = now.journal; lanes = now.lanes }) view_is
      (λ i. record { cap = (rest i).cap; core = inside; journal = now.journal; took = took; lanes = now.lanes })

  pub has_said : {now : DeskView J T} → now ≡ record said { journal = record said.journal { notes = now.journal.notes }; lanes = now.lanes } →
      IsWritten (terms_of_desk now) now.journal.notes → SaysNoMore said.journal.notes now.journal.notes → HasSaid meaning now before (view_of inside took now)
  has_said {now} rest written silent =
      let old : RecordedView J T = view_of inside took said in
      let now_is : view_of inside took now ≡ record old { journal = record old.journal { notes = now.journal.notes }; lanes = now.lanes } = ap (view_of inside took) rest in
      record {
        sound = subst (IsRecorded meaning) (sym now_is)
            (recorded_silent old now.journal.notes now.lanes silent invariant.0 (subst (λ terms. IsWritten terms now.journal.notes) (ap terms_of_desk rest ∙ ap terms_of_desk invariant.1) written));
        is_its = desk_is now inside took (ap (λ desk. desk.actor) rest ∙ ap (λ desk. desk.actor) invariant.1) (ap (λ desk. desk.cores) rest ∙ ap (λ desk. desk.cores) invariant.1) (ap (λ desk. desk.burst) rest ∙ ap (λ desk. desk.burst) invariant.1);
        rest = now_rest rest;
        ins = λ sender. subst (λ before. KeepsIn sender before (view_of inside took now)) view_is (subst (KeepsIn sender old) (sym now_is) (ins_silent old now.journal.notes now.lanes silent sender));
        seat = subst (λ before. IsSameSeat before (view_of inside took now)) view_is
            (record { number = refl; cores = refl; cap = ap (λ desk. desk.cap) rest; burst = refl; room = ap (λ desk. desk.journal.room) rest; passed = ap (λ desk. desk.journal.passed) rest });
      }

  -- what its desk did, the desk of the core did
  pub said_so : {now : DeskView J T} → now ≡ desk_of (view_of inside took now) → (P : DeskView J T → DeskView J T → Type 0) → P said now → P (desk_of before) (desk_of (view_of inside took now))
  said_so {now} is_its P did = subst (λ desk. P desk (desk_of (view_of inside took now))) (invariant.1 ∙ ap desk_of view_is) (subst (P said) is_its did)
