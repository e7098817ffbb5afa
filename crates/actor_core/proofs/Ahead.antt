-- What a core tells ahead of a pick is what its journal says; and a core picks: the right pick takes a job out, or hands it back, or the core says why there is none.
use Rattle.actor_core.proofs.Names.{◌≡◌, ℕ, ◌-◌, ◌^◌, Bool, true, false, List, [], ◌∷◌, refl, sym, ◌∙◌, ap, subst, inl, inr, ⊎_elim, Option, IsSome, arith, None, Result, Ok, Err, JobId, Note, KeyAtMost, turns, has_work, no_work, work_of_line}
use Rattle.actor_core.proofs.Names.{Meaning, waiting_of, Turn, Start, Resume, Idle, PickError, Busy, CoreView, runtime_of, TakesOut, TellsAhead, some_front, IsJobOut, RecordedView, IsRecorded, terms_at, IsBack, ◌+◌, ◌<◌, ◌≤◌, ◌++◌, length, add-zero}
use Rattle.actor_core.proofs.Names.{◌==◌, Some, is_some, same_Some, most_turns, Pick, Job, Reason, Journal, is_told, number_if, length-with_last_if, if_from, name_ended, given_outcomes, held_count, inside_count, HandsBack, polls_made, poll_note}
use Rattle.actor_core.proofs.Names.{HasTask, note_taken, sum_upto, given_count, IsPick, IsHandBack, owed_back, known_of, among, same_as_itself, without_job, option_map, QueuesView, Line, Marks, none-some, JobOut, CorePicks, names_of, Returned}
use Rattle.actor_core.proofs.Names.{Inward, IsInOf, Picks}
use Rattle.core_core.specs.declared.turn.Ahead.{Ahead}
use Rattle.core_core.specs.declared.turn.Ahead.TheVariants as ahead
use Rattle.core_core.specs.declared.turn.Turn.TheVariants.{Back}
use Rattle.core_core.specs.declared.turn.PickError.TheVariants.{Spent}
use Rattle.core_core.specs.Closing.{return_reason}
use Rattle.core_core.specs.Closing as core_says
use Rattle.actor_core.proofs.Sums.{sum_upto-at_most_one, sum_upto-same}
use Rattle.actor_core.proofs.AgreementNames.{IsNext, IsOpenTurn, OpenTurn, queue_in_turn}
use Rattle.actor_core.proofs.FrontLeft.{KnowsFront, LeavesFront, knows_front}
use Rattle.actor_core.proofs.FrontTasks.{its_task, one_fewer, still_tasks}
use Rattle.actor_core.proofs.KeptPicks.{kept-picked, kept-returned, picked_view, returned_view, right_pick}
use Rattle.actor_core.proofs.EndsKept.{ungiven_if, not_given}
use Rattle.base_words.specs.declared.note.OutcomeNote.TheVariants as outcomes
use Rattle.actor_core.proofs.QuietSteps.{nobody, quiet-picked, stepped, IsQuietStep, everyone, HasDone, nothing_did, done_so}

-- of two pairs that are each at most the other, the numbers are the same
pub one_key : (runtime queue other_runtime other : ℕ) → KeyAtMost runtime queue other_runtime other → KeyAtMost other_runtime other runtime queue → queue ≡ other
one_key runtime queue other_runtime other first second = grind arith

module _ {J : Type 0} (view core : CoreView J) (told : TellsAhead view (Ok ahead.Back)) where
  -- the next queue hands back, so no job of it goes out
  no_job : (name : JobId) (queue : ℕ) (started : Bool) (job : J) → TakesOut view name queue started job core → return_reason queue view ≡ None → ⊥
  no_job name queue started job takes kept =
      let some = some_front (waiting_of queue view.queues) (name, record { started = started; woken = takes.was_woken }, job) takes.others takes.first in
      let one = one_key (runtime_of queue view) queue (runtime_of told.0 view) told.0 (takes.next.least told.0 told.2) (told.1.least queue some) in
      told.3 (subst (λ at. return_reason at view ≡ None) one kept)

  pub is_back : {T : Type 0} (picked : Result (Turn J) PickError) (notes : List (Note T)) → CorePicks view picked core notes → IsBack picked
  is_back (Ok (Start name queue job)) notes picks = absurd (no_job name queue false job picks.0 picks.1)
  is_back (Ok (Resume name queue job)) notes picks = absurd (no_job name queue true job picks.0 picks.1)
  is_back (Ok (Back name order reason)) notes picks = tt
  is_back (Ok Idle) notes picks = absurd (told.2 (picks.2 told.0))
  is_back (Err Busy) notes picks = absurd (⊎_elim (λ out. out told.1.free) (λ turn. turn told.1.no_turn) picks.0)
  is_back (Err Spent) notes picks = absurd (omega (arith, picks.2, told.4))

module _ {J T : Type 0} {meaning : Meaning J T} (view : RecordedView J T) (recorded : IsRecorded meaning view) where
  -- no queue has work where none has a line
  pub idle : view.core.out ≡ None → ((queue : ℕ) → waiting_of queue view.core.queues ≡ []) → (queue : ℕ) → has_work queue view.journal.notes ≡ false
  idle free empty queue =
      no_work (terms_at view) queue view.journal.notes recorded.kept.notes (sym (recorded.kept.agrees.lines queue) ∙ ap names_of (empty queue))
      (subst (λ out. IsJobOut out view.journal.notes) free recorded.kept.agrees.out)

  pub works : (queue : ℕ) → (waiting_of queue view.core.queues ≡ [] → ⊥) → has_work queue view.journal.notes ≡ true
  works queue some = by_line (waiting_of queue view.core.queues) refl
    where
      by_line : (waiting : Line J) → waiting_of queue view.core.queues ≡ waiting → has_work queue view.journal.notes ≡ true
      by_line [] none = absurd (some none)
      by_line (entry ∷ others) first =
          work_of_line (terms_at view) queue view.journal.notes recorded.kept.notes entry.0 (names_of others) (sym (recorded.kept.agrees.lines queue) ∙ ap names_of first)

  -- where all turns are used, a queue has work
  pub all_used : TellsAhead view.core (Err Spent) → (turns view.journal.notes ≡ 2 ^ 64 - 1) × ((queue : ℕ) × (has_work queue view.journal.notes ≡ true))
  all_used told = (sym recorded.kept.agrees.turns ∙ told.2, (told.3.0, works told.3.0 told.3.1))

  -- where a job waits, a turn is left, if the core tells ahead what the next pick comes to
  pub left_ahead : (told : Ahead) → TellsAhead view.core (Ok told) → (queue : ℕ) → (waiting_of queue view.core.queues ≡ [] → ⊥) → turns view.journal.notes < most_turns
  left_ahead (ahead.Job next) is queue some = omega (arith, is.left, recorded.kept.agrees.turns)
  left_ahead ahead.Back is queue some = omega (arith, is.4, recorded.kept.agrees.turns)
  left_ahead ahead.Idle is queue some = absurd (some (is.2 queue))

  -- a turn that is open in the core is open in the journal
  pub open_told : (view.core.bursts.open ≡ None → ⊥) → IsSome (queue_in_turn view.core.bursts.burst view.journal.notes)
  open_told some = by_turn view.core.bursts.open refl recorded.kept.agrees.turn
    where
      by_turn : (turn : Option OpenTurn) → view.core.bursts.open ≡ turn → IsOpenTurn view.core.bursts.burst turn view.journal.notes → IsSome (queue_in_turn view.core.bursts.burst view.journal.notes)
      by_turn None none is = absurd (some none)
      by_turn (Some turn) at is = subst IsSome (sym is.0) refl

  -- an error that is told ahead is that of the pick
  pub none_picked : (why : PickError) → TellsAhead view.core (Err why) → Picks meaning view (Err why) view
  none_picked Busy told = (⊎_elim (λ out. inl out) (λ turn. inr (open_told turn)) told, refl)
  none_picked Spent told = let used = all_used told in (used.0, used.1, refl)

-- the notes of a poll that begins settle none
no_polls : {T : Type 0} (which name : JobId) (queue runtime : ℕ) (was_started : Bool) (journal : Journal T) →
    polls_made which (poll_note name was_started ∷ Pick queue runtime ∷ journal) ≡ polls_made which journal
no_polls which name queue runtime was_started journal = grind arith

module _ {J T : Type 0} {meaning : Meaning J T}
    (old : RecordedView J T) (recorded : IsRecorded meaning old) (left : (queue : ℕ) → (waiting_of queue old.core.queues ≡ [] → ⊥) → turns old.journal.notes < most_turns) where
  abbrev notes : Journal T
  notes = old.journal.notes

  -- the head of the next queue leaves its line
  module _ (name : JobId) (queue : ℕ) (marks : Marks) (job : J) (queues : QueuesView J) (front : LeavesFront old.core name queue marks job queues) (next : IsNext old.core queue) where
    abbrev runtime : ℕ
    runtime = runtime_of queue old.core

    left_now : turns notes < most_turns
    left_now = left queue (some_front (waiting_of queue old.core.queues) (name, marks, job) front.others front.first)

    abbrev is : KnowsFront (terms_at old) old.core name queue marks job queues front.others notes
    is = knows_front (terms_at old) old.core name queue marks job queues notes recorded.kept front

    one_less : held_count queues + 1 ≡ inside_count old.core
    one_less = one_fewer old name queue marks job queues front

    abbrev written : List (Note T)
    written = poll_note name marks.started ∷ Pick queue runtime ∷ []

    abbrev its_view : CoreView J
    its_view = picked_view old.core name queue marks.woken job queues

    picked : core_says.return_reason queue old.core ≡ None → IsQuietStep old its_view written meaning everyone nobody
    picked keeps =
        let unpolled = λ (which : JobId). no_polls which name queue runtime marks.started notes in
        let task = its_task old recorded name queue marks job queues front written unpolled in
        let quiet = quiet-picked notes name queue runtime marks.started in
        let given = sum_upto-same (given_count (written ++ notes)) (given_count notes) old.core.cores (λ sender. ap length (quiet.given sender)) in
        let fewer : held_count queues + 1 + sum_upto (given_count (written ++ notes)) old.core.cores ≤ inside_count old.core + sum_upto (given_count notes) old.core.cores = omega (arith, one_less, given) in
        assumption (
          kept-picked (terms_at old) old.core name queue marks job queues notes recorded.kept front next keeps left_now,
          front.line.same_room,
          still_tasks old recorded name queue marks job queues front written unpolled its_view refl,
          λ (out : JobOut J) (at : Some (record { name = name; queue = queue; woken = marks.woken; job = job }) ≡ Some out). subst (λ out. HasTask meaning old.took (written ++ notes) out.queue out.name out.job) (same_Some _ out at) task,
        )

    pick_is : core_says.return_reason queue old.core ≡ None → IsPick old name queue marks.started job (stepped old its_view written)
    pick_is keeps = record {
      nobody_out = front.free;
      turn_left = left_now;
      runtime = runtime;
      right = right_pick (terms_at old) old.core name queue marks job queues notes recorded.kept front next;
      others = names_of front.others;
      first = is.first_in_line;
      kept = is.reason_told ∙ keeps;
      started = is.start_told;
      journal = refl;
      out = λ i. Some (record { name = name; queue = queue; woken = is.wake_is i; job = job });
      took = refl;
    }

    abbrev back : Reason → List (Note T)
    back reason = Returned name reason ∷ Pick queue runtime ∷ []

    unpolled_back : (reason : Reason) (which : JobId) → polls_made which (back reason ++ notes) ≡ polls_made which notes
    unpolled_back reason which = add-zero (polls_made which notes + 0) ∙ add-zero (polls_made which notes)

    going_on : is_told name_ended name notes ≡ false
    going_on = ((known_of (terms_at old) notes recorded.kept.notes).line_inside queue name
        (ap (among name) (is.first_in_line) ∙ rw (same_as_itself name) refl)).going_on

    handed : (reason : Reason) → core_says.return_reason queue old.core ≡ Some reason →
        IsQuietStep old (returned_view old.core queue queues) (back reason) meaning everyone (λ sender. if_from sender name (name, outcomes.Returned reason))
    handed reason returns =
        let task = its_task old recorded name queue marks job queues front (back reason) (unpolled_back reason) in
        let ungiven = λ (sender : ℕ) (inward : Inward J T) (is : IsInOf sender old inward). ungiven_if old sender inward is name (Job queue task.sent) task.task
        (not_given (note_taken old.took) name queue (ap (option_map without_job) task.task) sender notes recorded.as_sent going_on) (outcomes.Returned reason) in
        let given_more : sum_upto (given_count (back reason ++ notes)) old.core.cores ≤ sum_upto (given_count notes) old.core.cores + 1 =
        sum_upto-at_most_one (given_count notes) (given_count (back reason ++ notes)) name.from (λ from. length-with_last_if (given_outcomes from notes) _ (name.from == from)) old.core.cores in
        let now : inside_count (returned_view old.core queue queues) ≡ held_count queues + 0 = ap (λ out. held_count queues + number_if (is_some out)) front.free in
        let fewer : inside_count (returned_view old.core queue queues) + sum_upto (given_count (back reason ++ notes)) old.core.cores ≤ inside_count old.core + sum_upto (given_count notes) old.core.cores = omega (arith, given_more, now, one_less) in
        let out : (job : JobOut J) → old.core.out ≡ Some job → HasTask meaning old.took (back reason ++ notes) job.queue job.name job.job = λ out at. absurd (none-some out (sym front.free ∙ at)) in
        let kept_now = kept-returned (terms_at old) old.core name queue marks job queues notes recorded.kept front next reason returns left_now in
        assumption (front.line.same_room, still_tasks old recorded name queue marks job queues front (back reason) (unpolled_back reason) (returned_view old.core queue queues) refl)

    handed_is : (reason : Reason) → core_says.return_reason queue old.core ≡ Some reason → IsHandBack meaning old name reason (Job queue job) (stepped old (returned_view old.core queue queues) (back reason))
    handed_is reason returns =
        let task = its_task old recorded name queue marks job queues front (back reason) (unpolled_back reason) in
        record {
          nobody_out = front.free;
          turn_left = left_now;
          queue = queue;
          runtime = runtime;
          right = right_pick (terms_at old) old.core name queue marks job queues notes recorded.kept front next;
          others = names_of front.others;
          first = is.first_in_line;
          returns = is.reason_told ∙ returns;
          sent = task.sent;
          task = task.task;
          job = job;
          back = refl;
          same_task = task.same_task;
          journal = refl;
          out = front.free;
          took = refl;
        }

  module _ (core : CoreView J) where
    abbrev Did : Result (Turn J) PickError → List (Note T) → CoreView J → Type 0
    Did answer told core = HasDone meaning old core everyone (owed_back answer) 2 (λ old new. Picks meaning old answer new) told

    abbrev marks_of : Bool → Bool → Marks
    marks_of started woken = record { started = started; woken = woken }

    taken : {name : JobId} {queue : ℕ} {was_started : Bool} {job : J} (takes : TakesOut old.core name queue was_started job core) → LeavesFront old.core name queue (marks_of was_started takes.was_woken) job core.queues
    taken takes = record { free = takes.next.free; others = takes.others; first = takes.first; line = takes.line }

    given_back : {name : JobId} {queue : ℕ} {job : J} (hands : HandsBack old.core name queue job core) → LeavesFront old.core name queue hands.marks job core.queues
    given_back hands = record { free = hands.next.free; others = hands.others; first = hands.first; line = hands.line }

    -- whatever the pick answers
    pub picked_did : (answer : Result (Turn J) PickError) (told : List (Note T)) → CorePicks old.core answer core told → Did answer told core
    picked_did (Ok (Start name queue job)) told does = subst (Did (Ok (Start name queue job)) told) (sym does.0.rest)
        (done_so does.2 (picked name queue (marks_of false does.0.was_woken) job core.queues (taken does.0) does.0.next does.1) (omega arith) (pick_is name queue (marks_of false does.0.was_woken) job core.queues (taken does.0) does.0.next does.1))
    picked_did (Ok (Resume name queue job)) told does = subst (Did (Ok (Resume name queue job)) told) (sym does.0.rest)
        (done_so does.2 (picked name queue (marks_of true does.0.was_woken) job core.queues (taken does.0) does.0.next does.1) (omega arith) (pick_is name queue (marks_of true does.0.was_woken) job core.queues (taken does.0) does.0.next does.1))
    picked_did (Ok (Back name (Job queue job) reason)) told does = subst (Did (Ok (Back name (Job queue job) reason)) told) (sym does.0.rest)
        (done_so does.2 (handed name queue does.0.marks job core.queues (given_back does.0) does.0.next reason does.1) (omega arith) (handed_is name queue does.0.marks job core.queues (given_back does.0) does.0.next reason does.1))
    picked_did (Ok (Back name _ reason)) told does = absurd does
    picked_did (Ok Idle) told does = nothing_did recorded does.3 does.4 (idle old recorded does.0 does.2, refl)
    picked_did (Err Busy) told does = nothing_did recorded does.1 does.2 (none_picked old recorded Busy does.0)
    picked_did (Err Spent) told does = nothing_did recorded does.4 does.5 (none_picked old recorded Spent (does.0, does.1, does.2, does.3))
