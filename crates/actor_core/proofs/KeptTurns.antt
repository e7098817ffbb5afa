-- What a core tells of itself stays what its journal says, as a further job of the open turn goes out, and as the turn ends; the turn may go on in the core where it may in the journal.
use Rattle.actor_core.proofs.AgreementNames.{Agrees, AreMarked, Bool, CoreView, EachNote, IsJobOut, IsKept, IsOpenTurn, IsTurnOf, JobId, Journal, Marks, MayStand, None, Note, OpenTurn, Option, QueuesView, Reason, Some, Tally, Terms, [], ap, arith}
use Rattle.actor_core.proofs.AgreementNames.{begun_if_open, charge, clamped, cond, created_count, false, figures_told, floor-stays, get_or-set_other, get_or-set_same, has_bursts, has_work, inr, is_any, is_number, is_some, is_told, jobs_out}
use Rattle.actor_core.proofs.AgreementNames.{jobs_out-resume, jobs_out-start, length, length-set, line, line-stays, list_told, name_started, names_but_for, names_of, names_parked, nat_lt, no_tally, not, or_else, parked-stays, poll_note}
use Rattle.actor_core.proofs.AgreementNames.{polled_again, polls_in_turn, queue_begun_last, queue_count, queue_created, queue_in_turn, queue_just_picked, refl, return_reason, runtime_of, set, shares_of, subst, sym, tally_of, true, true≢false}
use Rattle.actor_core.proofs.AgreementNames.{virtual_runtime, virtual_runtime-stays, virtual_runtime-turned, virtual_runtime-turned_elsewhere, waiting_of, with_all, with_last, ℕ, ◌&&◌, ◌+◌, ◌<◌, ◌||◌, ◌∙◌, ◌∷◌, ◌≡◌, ◌≤◌}
use Rattle.std.proofs.lemmas.Bool.{ltb-true}
use Rattle.base_words.specs.declared.note.Note.TheVariants as writes
use Rattle.base_words.specs.Lawful.{GoesOn, IsTurnEnd, may_go_on}
use Rattle.base_words.proofs.Returning.{entered_there}
use Rattle.base_words.proofs.Told.{grows}
use Rattle.core_core.specs.Bursts as core
use Rattle.core_core.specs.State as state
use Rattle.actor_core.proofs.Figures.{figures-grow, figures-stays, one_turn, told-turned}
use Rattle.actor_core.proofs.FrontLeft.{KnowsFront, LeavesFront, TakesHead, its_out, knows_front, start_elsewhere}
use Rattle.actor_core.proofs.Kept.{closing-stays, kept_after, return_reason-agrees, turns-stays, working}
use Rattle.actor_core.proofs.Marks.{marks-elsewhere, marks-stay}
use Rattle.actor_core.proofs.Places.{everywhere}
use Rattle.actor_core.proofs.Turning.{open-ended, open-followed}

module _ {T : Type 0} (terms : Terms) where
  -- a queue that was picked is one that there is
  picked_there : (queue : ℕ) (journal : Journal T) → EachNote (MayStand terms) journal → queue_just_picked journal ≡ Some queue → queue ≤ created_count journal
  picked_there queue [] notes picked = cc
  picked_there queue (writes.Pick other runtime ∷ before) notes picked =
      let same : other ≡ queue = cc in
      subst (λ at. at ≤ created_count before) same
      (let work : has_work other before ≡ true = notes.0.may_follow.right.eligible.work in entered_there terms other before notes.1 (let more = ltb-true _ _ work in omega (arith, more)))
  picked_there queue (_ ∷ before) notes picked = cc

  -- so is one whose turn was begun
  begun_there : (queue : ℕ) (journal : Journal T) → EachNote (MayStand terms) journal → queue_begun_last journal ≡ Some queue → queue ≤ created_count journal
  begun_there queue [] notes begun = cc
  begun_there queue (note ∷ before) notes begun = by_note note (begun_there queue before notes.1) begun
    where
      by_pick : (picked : Option ℕ) → queue_just_picked before ≡ picked → (queue_begun_last before ≡ Some queue → queue ≤ created_count before) →
          or_else picked (queue_begun_last before) ≡ Some queue → queue ≤ created_count before
      by_pick None at was begun = was begun
      by_pick (Some other) at was begun = picked_there queue before notes.1 (at ∙ begun)

      more : (note : Note T) → created_count before ≤ created_count (note ∷ before)
      more note = grows (list_told (queue_created {T = T}) before) (queue_created note)

      by_note : (note : Note T) → (queue_begun_last before ≡ Some queue → queue ≤ created_count before) → queue_begun_last (note ∷ before) ≡ Some queue → queue ≤ created_count (note ∷ before)
      by_note (writes.Start name) was begun = by_pick (queue_just_picked before) refl was begun
      by_note (writes.Resume name) was begun = by_pick (queue_just_picked before) refl was begun
      by_note (writes.Pick other runtime) was begun = cc
      by_note (writes.Turned other time) was begun = cc
      by_note note was begun = omega (arith, more note, was begun)

with_none : (test : Bool) → (test || false) ≡ test
with_none true = refl
with_none false = refl

-- what a turn that may go on tells
may_parts : (left works : Bool) (reason : Option Reason) → (left && works && not (is_some reason)) ≡ true → (left ≡ true) × (reason ≡ None)
may_parts true true None may = (refl, refl)
may_parts true true (Some reason) may = absurd (true≢false (sym may))
may_parts true false reason may = absurd (true≢false (sym may))
may_parts false works reason may = absurd (true≢false (sym may))

module _ {J T : Type 0} (terms : Terms) (old : CoreView J) (journal : Journal T) (kept : IsKept terms old journal) (turn : OpenTurn) (at : old.bursts.open ≡ Some turn) (free : old.out ≡ None) where
  pub is_open : IsOpenTurn terms.burst (Some turn) journal
  is_open = subst (λ turn. IsOpenTurn terms.burst turn journal) at kept.agrees.turn

  nobody : jobs_out journal ≡ []
  nobody = subst (λ out. IsJobOut out journal) free kept.agrees.out

  -- an open turn may go on in the core where it may in the journal
  pub may_go_on-agrees : core.may_go_on old turn ≡ may_go_on terms.burst turn.queue journal
  may_go_on-agrees = λ i. nat_lt (is_open.1 i) (kept.agrees.burst_is i) && works i && not (is_some (return_reason-agrees old journal kept.agrees.closing turn.queue i))
    where
      works : is_any (waiting_of turn.queue old.queues) ≡ has_work turn.queue journal
      works = sym (with_none (is_any (waiting_of turn.queue old.queues)))
          ∙ (ap (λ out. is_any (waiting_of turn.queue old.queues) || is_number turn.queue (state.queue_out out)) (sym free) ∙ working old journal terms turn.queue kept.notes kept.agrees)

  -- its queue is one that there is
  turn_exists : turn.queue < queue_count old.queues
  turn_exists = let there = begun_there terms turn.queue journal kept.notes (begun_if_open terms.burst turn.queue journal is_open.0) in omega (arith, there, kept.agrees.last)

  -- turns have several polls
  form : has_bursts terms.burst ≡ true
  form = by_form (has_bursts terms.burst) is_open.0
    where
      by_form : (form : Bool) → cond form (queue_begun_last journal) None ≡ Some turn.queue → form ≡ true
      by_form true its = refl
      by_form false its = cc

  -- the turn ends
  module _ (time : ℕ) (over : core.may_go_on old turn ≡ false) (its_time : time ≡ turn.time) where
    abbrev charged_tally : Tally
    charged_tally = record (tally_of turn.queue old) {
      runtime = (tally_of turn.queue old).runtime + charge time (shares_of turn.queue old.queues);
      time = (tally_of turn.queue old).time + clamped time;
    }

    abbrev pub ended_view : CoreView J
    ended_view = record old { tallies = set old.tallies turn.queue charged_tally; bursts = record (old.bursts) { «open» = None } }

    abbrev ended : Journal T
    ended = writes.Turned turn.queue time ∷ journal

    within : turn.queue < length old.tallies
    within = omega (arith, turn_exists, kept.agrees.tallied)

    pub ends_turn : IsTurnEnd terms.burst turn.queue time journal
    ends_turn = record { in_turn = is_open.0; nobody_out = nobody; its_time = its_time ∙ is_open.2; over = sym may_go_on-agrees ∙ over }

    runtimes : (other : ℕ) → runtime_of other ended_view ≡ virtual_runtime terms.burst other ended
    runtimes = everywhere (λ at. runtime_of at ended_view ≡ virtual_runtime terms.burst at ended) turn.queue
        (ap (λ tally. tally.runtime) (get_or-set_same old.tallies turn.queue charged_tally no_tally within)
        ∙ ((λ i. kept.agrees.runtimes turn.queue i + charge time (kept.agrees.weights turn.queue turn_exists i)) ∙ sym (virtual_runtime-turned terms.burst turn.queue journal time form)))
        (λ other away. ap (λ tally. tally.runtime) (get_or-set_other old.tallies turn.queue other charged_tally no_tally away)
        ∙ (kept.agrees.runtimes other ∙ sym (virtual_runtime-turned_elsewhere terms.burst other journal time turn.queue away)))

    agrees_ended : Agrees terms.burst ended_view ended
    agrees_ended = record {
      burst_is = kept.agrees.burst_is;
      tallied = length-set old.tallies turn.queue charged_tally ∙ kept.agrees.tallied;
      senders = kept.agrees.senders;
      last = kept.agrees.last;
      lines = λ other. kept.agrees.lines other ∙ sym (line-stays other (writes.Turned turn.queue time) journal refl refl refl);
      parks = λ other. kept.agrees.parks other ∙ sym (parked-stays other (writes.Turned turn.queue time) journal refl refl refl);
      marks = λ other. marks-stay (writes.Turned turn.queue time) journal (λ name. refl) (waiting_of other old.queues) (kept.agrees.marks other);
      runtimes = runtimes;
      weights = kept.agrees.weights;
      the_floor = kept.agrees.the_floor ∙ sym (floor-stays (writes.Turned turn.queue time) journal refl);
      turns = kept.agrees.turns ∙ sym (turns-stays (writes.Turned turn.queue time) journal refl);
      out = subst (λ out. IsJobOut out ended) (sym free) nobody;
      turn = open-ended journal terms.burst turn.queue time;
      out_exists = kept.agrees.out_exists;
      delivered = kept.agrees.delivered;
      figures = figures-grow old ended_view turn.queue charged_tally within refl terms.burst journal ended (one_turn (clamped time)) refl kept.agrees.figures (λ other. told-turned terms.burst other turn.queue journal form time);
      closing = closing-stays old ended_view (writes.Turned turn.queue time) journal (λ other. refl) refl refl refl (assumption) kept.agrees.closing;
    }

    pub kept-ended : IsKept terms ended_view ended
    kept-ended = kept_after terms (writes.Turned turn.queue time) kept agrees_ended kept.is_core ends_turn refl tt refl refl

module _ {J T : Type 0} (terms : Terms) (old : CoreView J) (name : JobId) (queue : ℕ) (marks : Marks) (job : J) (queues : QueuesView J) (journal : Journal T)
    (kept : IsKept terms old journal) (front : LeavesFront old name queue marks job queues) (turn : OpenTurn) (goes : core.GoesOn old turn) (its_turn : queue ≡ turn.queue) where
  abbrev is : KnowsFront terms old name queue marks job queues front.others journal
  is = knows_front terms old name queue marks job queues journal kept front

  -- the core with the job out, whose turn has one poll more
  abbrev pub followed_view : CoreView J
  followed_view = record old { queues = queues; out = its_out name queue marks job; bursts = record (old.bursts) { «open» = Some (polled_again turn) } }

  the_turn : IsOpenTurn terms.burst (Some turn) journal
  the_turn = is_open terms old journal kept turn goes.going goes.free

  may : (nat_lt (polls_in_turn journal) terms.burst ≡ true) × (return_reason queue journal ≡ None)
  may = may_parts (nat_lt (polls_in_turn journal) terms.burst) (has_work queue journal) (return_reason queue journal)
      (ap (λ at. may_go_on terms.burst at journal) its_turn ∙ (sym (may_go_on-agrees terms old journal kept turn goes.going goes.free) ∙ goes.may))

  pub turn_goes_on : GoesOn terms.burst queue journal
  turn_goes_on = record { in_turn = the_turn.0 ∙ ap Some (sym its_turn); nobody_out = is.nobody; poll_left = ltb-true (polls_in_turn journal) terms.burst may.0 }

  pub goes_nowhere : return_reason queue journal ≡ None
  goes_nowhere = may.1

  due : IsTurnOf terms.burst name queue journal
  due = record { due = inr turn_goes_on; others = names_of front.others; first = is.first_in_line }

  -- in an open turn a poll takes the turn of no pick
  takes_none : false ≡ not (is_some (queue_in_turn terms.burst journal))
  takes_none = ap (λ turn. not (is_some turn)) (sym turn_goes_on.in_turn)

  module _ (note : Note T) (takes : TakesHead name note journal) where
    agrees_followed : ((other : ℕ) → figures_told terms.burst other (note ∷ journal) ≡ figures_told terms.burst other journal) → ((other : ℕ) → AreMarked (note ∷ journal) (waiting_of other queues)) →
        IsJobOut (its_out name queue marks job) (note ∷ journal) → IsOpenTurn terms.burst (Some (polled_again turn)) (note ∷ journal) → Agrees terms.burst followed_view (note ∷ journal)
    agrees_followed told marked_now out_is turn_is = record {
      burst_is = kept.agrees.burst_is;
      tallied = kept.agrees.tallied ∙ sym front.line.same_count;
      senders = kept.agrees.senders;
      last = front.line.same_count ∙ (kept.agrees.last ∙ ap (λ count. count + 1) (sym takes.plain.created));
      lines = λ other. is.lines_now other ∙ (λ i. with_all (with_last (names_but_for (sym takes.leaves i) (line other journal)) (sym (takes.joins other) i)) (sym (takes.ends other) i));
      parks = λ other. ap names_parked (front.line.same_parks other) ∙ (kept.agrees.parks other ∙ sym (parked-stays other note journal (takes.still other) takes.parks (takes.parks_here other)));
      marks = marked_now;
      runtimes = λ other. kept.agrees.runtimes other ∙ sym (virtual_runtime-stays terms.burst other journal note (takes.brings other) (takes.costs terms.burst other));
      weights = λ other there. front.line.same_shares other ∙ (kept.agrees.weights other (rw (← front.line.same_count) there) ∙ sym (takes.plain.weighs other));
      the_floor = kept.agrees.the_floor ∙ sym (floor-stays note journal takes.plain.picks);
      turns = kept.agrees.turns ∙ sym (turns-stays note journal takes.plain.turns_made);
      out = out_is;
      turn = turn_is;
      out_exists = is.out_exists;
      delivered = λ sender known. kept.agrees.delivered sender known ∙ ap length (sym (takes.plain.delivered sender));
      figures = λ other. kept.agrees.figures other ∙ sym (told other);
      closing = closing-stays old followed_view note journal front.line.same_modes refl refl refl takes.plain.opens kept.agrees.closing;
    }

  followed : (before : Bool) → is_told name_started name journal ≡ before → IsKept terms followed_view (poll_note name before ∷ journal)
  followed false told =
      let agrees = agrees_followed (writes.Start name) (assumption) (λ other. figures-stays terms.burst other (writes.Start name) journal refl)
      (λ other. marks-elsewhere (writes.Start name) journal name (start_elsewhere name journal) (waiting_of other queues) (is.apart_in other) (is.marks_then other)) (jobs_out-start name journal is.nobody, is.its_queue, is.wake_is)
      (open-followed journal terms.burst name false turn kept.no_pick the_turn) in
      let stands : MayStand terms (writes.Start name) journal = record { may_follow = (queue, due, goes_nowhere, told); turn = ap is_some kept.no_pick ∙ takes_none; effect = rw kept.no_answer tt; writer = kept.is_core } in
      record { is_core = kept.is_core; agrees = agrees; notes = (stands, kept.notes); no_pick = refl; no_answer = refl }
  followed true told =
      let agrees = agrees_followed (writes.Resume name) (assumption) (λ other. figures-stays terms.burst other (writes.Resume name) journal refl)
      is.marks_then (jobs_out-resume name journal is.nobody, is.its_queue, is.wake_is) (open-followed journal terms.burst name true turn kept.no_pick the_turn) in
      let stands : MayStand terms (writes.Resume name) journal = record { may_follow = (queue, due, goes_nowhere, told); turn = ap is_some kept.no_pick ∙ takes_none; effect = rw kept.no_answer tt; writer = kept.is_core } in
      record { is_core = kept.is_core; agrees = agrees; notes = (stands, kept.notes); no_pick = refl; no_answer = refl }

  pub kept-followed : IsKept terms followed_view (poll_note name marks.started ∷ journal)
  kept-followed = followed marks.started (sym is.start_told)
