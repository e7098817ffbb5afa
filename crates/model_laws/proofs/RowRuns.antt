-- A run that is written down, with its right picks, is the only one of its events.
use Rattle.model_laws.proofs.Words.{◌≡◌, ℕ, ◌-◌, ◌^◌, ◌<◌, ◌≤◌, Bool, true, false, [], refl, sym, ◌∙◌, subst, arith, ◌==◌, true≢false, Journal, KeyAtMost, Note, IsPoll, Ends}
use Rattle.model_laws.proofs.Words.{IsRightPick, virtual_runtime, has_work, ◌+◌, List, ◌∷◌, length, inl, inr, ap, None, Some, JobId, Order, Event, Reply}
use Rattle.model_laws.proofs.Words.{WorldView, Happens, journal_at, noted, Job, return_reason, accepted_orders, IsNextSent, line, outstanding_count, turns, Step}
use Rattle.model_laws.proofs.Words.{Script, Send, Turn, AreThere, without_job, terms_at, order_under, with_sent, IsNearlyFull, poll_notes, settled_note}
use Rattle.model_laws.proofs.Words.{OrderNoQueues, with_creations, AreAlike, AreAllAlike, name, script_meaning}
use Rattle.std.proofs.Common.{eqb-true}
use Rattle.base_words.specs.Bursts.{has_bursts, queue_in_turn}
use Rattle.base_words.specs.Lines.{jobs_out}
use Rattle.base_words.specs.Parks.{parked}
use Rattle.base_words.specs.Work.{entered_count, left_count}
use Rattle.std.specs.Prelude.{◌&&◌, nat_le, nat_lt}
use Rattle.std.proofs.lemmas.Bool.{and_parts, le-ltb, leb-true}
use Rattle.base_words.specs.declared.note.Note.TheVariants.{Pick, Sent}
use Rattle.base_words.specs.Orders.{IsSpelledOrder}
use Rattle.base_jobs.specs.Steps.{IfDone}
use Rattle.model_world.specs.declared.event.Reply.TheVariants as reply
use Rattle.model_world.specs.Closings.{IsGateOpen}
use Rattle.model_world.specs.Turns.{polls_made}
use Rattle.model_laws.specs.ScriptRuns.{IsScriptRun}
use Rattle.model_laws.specs.Rows.{RunsJust}
use Rattle.model_laws.proofs.DeterminedOpenings.{fresh_once}
use Rattle.model_laws.proofs.DeterminedScripts.{scripts_owe_one, scripts_order_none}
use Rattle.model_laws.proofs.NoRefusals.{jobs_once}
use Rattle.model_laws.proofs.UnbegunCreations.{unbegun_fresh, unbegun_creations, first_world, fresh_first}
use Rattle.base_jobs.specs.Meanings.{Meaning}

module _ (burst : ℕ) (journal : Journal ℕ) (queue runtime : ℕ) (at : runtime ≡ virtual_runtime burst queue journal) (work : has_work queue journal ≡ true) (nobody : jobs_out journal ≡ [])
    (no_turn : queue_in_turn burst journal ≡ None) where
  -- a queue is at most what it is itself
  abbrev IsLeast : ℕ → Type 0
  IsLeast other = has_work other journal ≡ true → KeyAtMost runtime queue (virtual_runtime burst other journal) other

  -- a queue that no job entered has no work
  no_entries : (other : ℕ) → entered_count other journal ≡ 0 → has_work other journal ≡ false
  no_entries other none =
      let inside = left_count other journal + length (parked other journal) in
      ap (nat_lt inside) none ∙ le-ltb inside 0 (omega arith)

  -- jobs entered queue 0 and queue 1 alone
  pub right_of_two : IsLeast 0 → IsLeast 1 → ((other : ℕ) → (other == 0) ≡ false → (other == 1) ≡ false → entered_count other journal ≡ 0) → IsRightPick burst queue runtime journal
  right_of_two zero one none = record {
    at = at;
    eligible = record { work = work; nobody_out = nobody; no_turn = no_turn };
    least = λ other ready. by_test other (other == 0) refl (other == 1) refl ready.work;
  }
    where
      by_test : (other : ℕ) (is_zero : Bool) → (other == 0) ≡ is_zero → (is_one : Bool) → (other == 1) ≡ is_one → has_work other journal ≡ true → KeyAtMost runtime queue (virtual_runtime burst other journal) other
      by_test other true same is_one test work = subst IsLeast (sym (eqb-true other 0 same)) zero work
      by_test other false same true test work = subst IsLeast (sym (eqb-true other 1 test)) one work
      by_test other false same false test work = absurd (true≢false (sym work ∙ no_entries other (none other same test)))

  -- jobs entered queue 0 alone
  pub right_of_one : IsLeast 0 → ((other : ℕ) → (other == 0) ≡ false → entered_count other journal ≡ 0) → IsRightPick burst queue runtime journal
  right_of_one zero none = right_of_two zero (λ work. absurd (true≢false (sym work ∙ no_entries 1 (none 1 refl)))) (λ other same differs. none other same)

-- a turn is left after a few
pub few_turns : (count : ℕ) → count ≤ 50 → count < 2 ^ 64 - 1
few_turns count few = omega arith

-- notes are free after a few
pub not_full : (needs room : ℕ) → room < needs → 100 ≤ room → nat_le needs 100 ≡ true → ⊥
not_full needs room full enough few = omega (arith, leb-true needs 100 few)

-- a number is left after a few
pub few_names : (number : ℕ) → number ≤ 50 → number < 2 ^ 63
few_names number few = omega arith

-- whether a reply is no redeemed outcome
abbrev pub is_plain_reply : {J : Type 0} → Reply J → Bool
is_plain_reply (reply.Redeemed outcome) = false
is_plain_reply _ = true

abbrev pub are_plain : {J : Type 0} → List (Reply J) → Bool
are_plain [] = true
are_plain (answer ∷ replies) = is_plain_reply answer && are_plain replies

-- replies that are alike are the same, if no outcome is redeemed
module _ {J : Type 0} (meaning : Meaning J ℕ) where
  same_reply : (answer other : Reply J) → is_plain_reply answer ≡ true → AreAlike meaning answer other → answer ≡ other
  same_reply answer other plain (inl is) = is
  same_reply answer other plain (inr both) = absurd (true≢false (sym plain ∙ ap is_plain_reply both.redeemed))

  pub same_replies : (replies others : List (Reply J)) → are_plain replies ≡ true → AreAllAlike meaning replies others → replies ≡ others
  same_replies [] others plain alike = sym alike
  same_replies (answer ∷ replies) others plain alike =
      let parts = and_parts (is_plain_reply answer) (are_plain replies) plain in
      (λ i. same_reply answer alike.0 parts.0 alike.3 i ∷ same_replies replies alike.1 parts.1 alike.4 i) ∙ sym alike.2

-- one event of script jobs
abbrev Occurs : Event Script → WorldView Script ℕ → WorldView Script ℕ → Reply Script → Type 0
Occurs = Happens script_meaning

-- a run with these replies, which ends with these journals
pub record IsRow (start : WorldView Script ℕ) (events : List (Event Script)) (journals : List (Journal ℕ)) (replies : List (Reply Script)) : Type 0 where
  pub end : WorldView Script ℕ
  pub run : IsScriptRun events start end replies
  pub ends : end.journals ≡ journals

pub no_more : {world : WorldView Script ℕ} {journals : List (Journal ℕ)} → world.journals ≡ journals → IsRow world [] journals []
no_more {world} ends = record { end = world; run = (refl, refl); ends = ends }

module _ {event : Event Script} {events : List (Event Script)} {world : WorldView Script ℕ} {journals : List (Journal ℕ)} {answer : Reply Script} {replies : List (Reply Script)} where
  -- one event, and then the others
  pub and_then : (between : WorldView Script ℕ) → Occurs event world between answer → IsRow between events journals replies → IsRow world (event ∷ events) journals (answer ∷ replies)
  and_then between did later = record { end = later.end; run = (between, answer, replies, did, later.run, refl); ends = later.ends }

  -- an event that changes nothing
  pub telling : Occurs event world world answer → IsRow world events journals replies → IsRow world (event ∷ events) journals (answer ∷ replies)
  telling = and_then world

  -- an event of which one actor makes these notes
  pub noting : (actor : ℕ) (notes : Journal ℕ) → Occurs event world (noted actor notes world) answer → IsRow (noted actor notes world) events journals replies →
      IsRow world (event ∷ events) journals (answer ∷ replies)
  noting actor notes = and_then (noted actor notes world)

-- a job is polled behind these notes, and calls nothing of its post
abbrev pub silently_polled : ℕ → ℕ → JobId → List (Note ℕ) → Step ℕ → WorldView Script ℕ → WorldView Script ℕ
silently_polled core time its begun step world =
    let begins = noted core (poll_notes its begun (journal_at core world)) world in
    noted core (settled_note its time step (journal_at core begins) ∷ []) begins

module _ (core spent queue time : ℕ) (its : JobId) (begun : List (Note ℕ)) where
  pub silent_poll : (others : List JobId) (job : Script) (step : Step ℕ) (world : WorldView Script ℕ) →
      line queue (journal_at core world) ≡ its ∷ others → return_reason queue (journal_at core world) ≡ None → order_under its world ≡ Some (Job queue job) →
      script_meaning.polls job (job.polled + polls_made its (journal_at core world)) [] step (Some time) → IfDone step (script_meaning.answers job) →
      IsPoll script_meaning core spent queue its begun world (silently_polled core time its begun step world)
  silent_poll others job step world first kept task owed answered = record {
    others = others;
    first = first;
    kept = kept;
    job = job;
    task = task;
    calls = [];
    step = step;
    told = Some time;
    owed = owed;
    answered = answered;
    posted = _;
    posts = refl;
    notes = refl;
  }

module _ {events : List (Event Script)} {world : WorldView Script ℕ} {journals : List (Journal ℕ)} {replies : List (Reply Script)} where
  -- an order is accepted
  pub sending : {sender core number : ℕ} {order : Order Script} → AreThere world.cores (Send sender core order) → (IsNearlyFull sender world → ⊥) →
      number ≡ length (accepted_orders core (journal_at sender world)) + 1 → number ≤ 50 → outstanding_count core (journal_at sender world) < world.cap →
      IsSpelledOrder (without_job order) → IsGateOpen sender core world →
      IsRow (record (noted sender (Sent (name sender core number) (without_job order) ∷ []) world) { sent = with_sent sender core order world }) events journals replies →
      IsRow world (Send sender core order ∷ events) journals (reply.Sent (name sender core number) ∷ replies)
  sending {sender = sender} {core = core} {number = number} {order = order} there room next few credit spelled open_gate =
      let its : IsNextSent (terms_at sender world) (name sender core number) (without_job order) (journal_at sender world) =
      record { sender = refl; receiver = there.1; next = next; in_range = few_names number few; credit = credit; spelled = spelled } in
      and_then _ (there, room, (its, refl, refl, open_gate))

  -- a job is polled, which ends its turn, and calls nothing of its post
  pub polling : {core spent : ℕ} (queue runtime time : ℕ) (its : JobId) (others : List JobId) (job : Script) (step : Step ℕ) →
      core < world.cores → (IsNearlyFull core world → ⊥) → turns (journal_at core world) ≤ 50 → has_bursts world.burst ≡ false → IsRightPick world.burst queue runtime (journal_at core world) →
      line queue (journal_at core world) ≡ its ∷ others → return_reason queue (journal_at core world) ≡ None → order_under its world ≡ Some (Job queue job) →
      script_meaning.polls job (job.polled + polls_made its (journal_at core world)) [] step (Some time) → IfDone step (script_meaning.answers job) →
      IsRow (silently_polled core time its (Pick queue runtime ∷ []) step world) events journals replies → IsRow world (Turn core spent ∷ events) journals (reply.Noted ∷ replies)
  polling {core} {spent} queue runtime time its others job step there room few single right first kept task owed answered =
      let after : WorldView Script ℕ = silently_polled core time its (Pick queue runtime ∷ []) step world in
      let same : after ≡ after = refl in
      and_then after (
        there,
        room,
        inl (record {
          mid = after;
          first = record {
            turn_left = few_turns _ few;
            queue = queue;
            runtime = runtime;
            right = right;
            name = its;
            poll = silent_poll core spent queue time its (Pick queue runtime ∷ []) others job step world first kept task owed answered;
          };
          later = [];
          further = subst (λ (form : Bool). Ends {J = Script} {T = ℕ} form core after after) (sym single) same;
        }),
      )

module _ (cores cap burst : ℕ) (queues : List (ℕ × ℕ)) (events : List (Event Script)) (journals : List (Journal ℕ)) (replies : List (Reply Script)) (none : OrderNoQueues events) (plain : are_plain replies ≡ true)
    (row : (room : ℕ) → 100 ≤ room → IsRow (with_creations queues (first_world Script ℕ cores cap burst room)) events journals replies) where
  pub runs_just : RunsJust cores cap burst queues events journals replies
  runs_just room empty enough fresh =
      let same : empty ≡ first_world Script ℕ cores cap burst room = fresh_once cores cap burst room empty (first_world Script ℕ cores cap burst room) fresh (fresh_first Script ℕ cores cap burst room) in
      let found = row room enough in
      let run : IsScriptRun events (with_creations queues empty) found.end replies =
      subst (λ world. IsScriptRun events (with_creations queues world) found.end replies) (sym same) found.run in
      record {
        end = found.end;
        run = run;
        ends = found.ends;
        only = λ other others other_run.
            let one = jobs_once script_meaning scripts_owe_one scripts_order_none events (with_creations queues empty) found.end other replies others
            (unbegun_creations queues empty (unbegun_fresh cores cap burst room empty fresh)) none run other_run in
            (ap (λ world. world.journals) (sym one.0) ∙ found.ends, sym (same_replies script_meaning replies others plain one.1));
      }
