-- What a core tells of itself stays what its journal says, as a pick takes a job out or hands it back; the pick is right, and its notes may stand.
use Rattle.actor_core.proofs.AgreementNames.{Marks, names_parked, parked-stays, with_all, length-set, none-some, max, CoreView, JobOut, runtime_of, tally_of, IsNext, Tally, jobs_out-resume, jobs_out-start, floor-stays, virtual_runtime-stays}
use Rattle.actor_core.proofs.AgreementNames.{right_pick_of_lines, return_reason, name_started, KeyAtMost, IsTurnOf, most_turns, names_but_for, IsRightPick, turns, virtual_runtime, Reason, Agrees, AreMarked, IsJobOut, IsKept, names_of, Figures}
use Rattle.actor_core.proofs.AgreementNames.{figures_in, figures_of, figures_told, poll_note, Bool, JobId, Journal, List, MayStand, None, Note, Option, Some, Terms, ap, arith, cond, false, is_told, length, refl, set, subst, sym, true, with_last, ℕ}
use Rattle.actor_core.proofs.AgreementNames.{◌+◌, ◌<◌, ◌==◌, ◌∙◌, ◌∷◌, ◌≡◌, QueuesView, Bursts, IsOpenTurn, begun, has_bursts, inl, is_some, none_either, not, queue_in_turn, [], line, queue_count, waiting_of}
use Rattle.base_words.specs.declared.note.Note.TheVariants as writes
use Rattle.core_core.specs.Closing as core
use Rattle.actor_core.proofs.Figures.{figures-grow, one_pick, one_return, set_runtime, told-polled, told-returned}
use Rattle.actor_core.proofs.Kept.{closing-stays, stands_behind, turns-stays}
use Rattle.actor_core.proofs.FrontLeft.{KnowsFront, LeavesFront, TakesHead, its_out, knows_front, start_elsewhere}
use Rattle.actor_core.proofs.Marks.{marks-elsewhere}
use Rattle.actor_core.proofs.Turning.{open-begun, open-returned}

-- the tally of a queue whose job is picked, and of one whose job goes back
abbrev pub tally_picked : {J : Type 0} → ℕ → CoreView J → Tally
tally_picked queue old = record (tally_of queue old) { selected = (tally_of queue old).selected + 1 }

abbrev pub tally_returned : {J : Type 0} → ℕ → CoreView J → Tally
tally_returned queue old = record (tally_of queue old) { selected = (tally_of queue old).selected + 1; returned = (tally_of queue old).returned + 1 }

-- the core with the job out, whose turn opens where a note of its own ends it, and the core that handed it back
abbrev pub picked_view : {J : Type 0} → CoreView J → JobId → ℕ → Bool → J → QueuesView J → CoreView J
picked_view old name queue woken job queues = record old {
  queues = queues;
  tallies = set old.tallies queue (tally_picked queue old);
  floor = max old.floor (runtime_of queue old);
  turns = old.turns + 1;
  out = Some (record { name = name; queue = queue; woken = woken; job = job });
  bursts = begun queue old.bursts;
}

abbrev pub returned_view : {J : Type 0} → CoreView J → ℕ → QueuesView J → CoreView J
returned_view old queue queues = record old {
  queues = queues;
  tallies = set old.tallies queue (tally_returned queue old);
  floor = max old.floor (runtime_of queue old);
  turns = old.turns + 1;
}

module _ {J T : Type 0} (terms : Terms) (old : CoreView J) (name : JobId) (queue : ℕ) (marks : Marks) (job : J) (queues : QueuesView J) (journal : Journal T)
    (kept : IsKept terms old journal) (front : LeavesFront old name queue marks job queues) (next : IsNext old queue) where
  abbrev is : KnowsFront terms old name queue marks job queues front.others journal
  is = knows_front terms old name queue marks job queues journal kept front

  abbrev runtime : ℕ
  runtime = runtime_of queue old

  abbrev picked : Journal T
  picked = writes.Pick queue runtime ∷ journal

  no_turn : queue_in_turn terms.burst journal ≡ None
  no_turn = subst (λ turn. IsOpenTurn terms.burst turn journal) next.no_turn kept.agrees.turn

  least : (other : ℕ) (first : JobId) (rest : List JobId) → line other journal ≡ first ∷ rest → KeyAtMost (virtual_runtime terms.burst queue journal) queue (virtual_runtime terms.burst other journal) other
  least other first rest there =
      subst (λ at. KeyAtMost at queue (virtual_runtime terms.burst other journal) other) (kept.agrees.runtimes queue)
      (subst (λ at. KeyAtMost (runtime_of queue old) queue at other) (kept.agrees.runtimes other) (next.least other some))
    where
      some : waiting_of other old.queues ≡ [] → ⊥
      some none = let empty : ◌≡◌ {A = List JobId} [] (first ∷ rest) = sym (ap names_of none) ∙ (kept.agrees.lines other ∙ there) in cc

  pub right_pick : IsRightPick terms.burst queue runtime journal
  right_pick =
      subst (λ at. IsRightPick terms.burst queue at journal) (sym (kept.agrees.runtimes queue))
      (right_pick_of_lines terms queue journal kept.notes is.nobody no_turn name (names_of front.others) is.first_in_line least)

  its_turn : IsTurnOf terms.burst name queue picked
  its_turn = record { due = inl refl; others = names_of front.others; first = is.first_in_line }

  -- behind the pick no turn is open, so what begins a poll takes the turn of the pick
  takes_it : true ≡ not (is_some (queue_in_turn terms.burst picked))
  takes_it = ap (λ turn. not (is_some turn)) (sym (none_either (has_bursts terms.burst)))

  -- the core after the pick and the note behind it: the queue has this tally, this job is out, and the turn is as told
  module _ (note : Note T) (follows : TakesHead name note picked) (tally : Tally) (grow : Figures → Figures) (out : Option (JobOut J)) (bursts : Bursts) where
    abbrev turned : CoreView J
    turned = record old { queues = queues; tallies = set old.tallies queue tally; floor = max old.floor runtime; turns = old.turns + 1; out = out; bursts = bursts }

    kept-turned : tally.runtime ≡ runtime → figures_in tally ≡ grow (figures_of queue old) →
        ((other : ℕ) → figures_told terms.burst other (note ∷ picked) ≡ cond (other == queue) (grow (figures_told terms.burst other journal)) (figures_told terms.burst other journal)) → ((other : ℕ) → AreMarked (note ∷ picked) (waiting_of other queues)) →
        IsJobOut out (note ∷ picked) → bursts.burst ≡ terms.burst → IsOpenTurn terms.burst bursts.open (note ∷ picked) → ((job : JobOut J) → out ≡ Some job → job.queue < queue_count queues) → turns journal < most_turns → MayStand terms note picked → IsKept terms turned (note ∷ picked)
    kept-turned same counts told marked_now out_is burst_is turn_is out_exists left stands =
        let within : queue < length old.tallies = omega (arith, is.exists, kept.agrees.tallied) in
        let agrees : Agrees terms.burst turned (note ∷ picked) = record {
          burst_is = burst_is;
          tallied = length-set old.tallies queue tally ∙ (kept.agrees.tallied ∙ sym front.line.same_count);
          senders = kept.agrees.senders;
          last = front.line.same_count ∙ (kept.agrees.last ∙ ap (λ count. count + 1) (sym follows.plain.created));
          lines = λ other. is.lines_now other ∙ (λ i. with_all (with_last (names_but_for (sym follows.leaves i) (line other journal)) (sym (follows.joins other) i)) (sym (follows.ends other) i));
          parks = λ other. ap names_parked (front.line.same_parks other) ∙ (kept.agrees.parks other ∙ sym (parked-stays other note picked (follows.still other) follows.parks (follows.parks_here other)));
          marks = marked_now;
          runtimes = λ other.
              set_runtime old.tallies queue tally within same other
              ∙ (kept.agrees.runtimes other
              ∙ (sym (virtual_runtime-stays terms.burst other journal (writes.Pick queue runtime) refl refl) ∙ sym (virtual_runtime-stays terms.burst other picked note (follows.brings other) (follows.costs terms.burst other))));
          weights = λ other there. front.line.same_shares other ∙ (kept.agrees.weights other (rw (← front.line.same_count) there) ∙ sym (follows.plain.weighs other));
          the_floor = ap (λ at. max at runtime) kept.agrees.the_floor ∙ sym (floor-stays note picked follows.plain.picks);
          turns = ap (λ count. count + 1) kept.agrees.turns ∙ sym (turns-stays note picked follows.plain.turns_made);
          out = out_is;
          turn = turn_is;
          out_exists = out_exists;
          delivered = λ sender known. kept.agrees.delivered sender known ∙ ap length (sym (follows.plain.delivered sender));
          figures = figures-grow old turned queue tally within refl terms.burst journal (note ∷ picked) grow counts kept.agrees.figures told;
          closing = closing-stays turned turned note picked (λ queue. refl) refl refl refl follows.plain.opens
              (closing-stays old turned (writes.Pick queue runtime) journal front.line.same_modes refl refl refl (assumption) kept.agrees.closing);
        } in
        let pick_stands = stands_behind terms (writes.Pick queue runtime) kept kept.is_core (record { right = right_pick; turn_left = left }) refl tt in
        assumption (agrees, stands, pick_stands, follows)

  -- the job is polled
  polled : (before : Bool) → return_reason queue journal ≡ None → is_told name_started name journal ≡ before → turns journal < most_turns → IsKept terms (picked_view old name queue marks.woken job queues) (poll_note name before ∷ picked)
  polled false keeps told left =
      kept-turned (writes.Start name) (assumption) (tally_picked queue old) one_pick (its_out name queue marks job) (begun queue old.bursts) refl refl (λ other. told-polled terms.burst other queue journal name runtime false)
      (λ other. marks-elsewhere (writes.Start name) picked name (start_elsewhere name picked) (waiting_of other queues) (is.apart_in other) (is.marks_then other)) (jobs_out-start name picked is.nobody, is.its_queue, is.wake_is)
      kept.agrees.burst_is (open-begun journal terms.burst queue runtime old.bursts kept.agrees.burst_is next.no_turn name false) is.out_exists left
      (record { may_follow = (queue, its_turn, keeps, told); turn = takes_it; effect = tt; writer = kept.is_core })
  polled true keeps told left =
      kept-turned (writes.Resume name) (assumption) (tally_picked queue old) one_pick (its_out name queue marks job) (begun queue old.bursts) refl refl (λ other. told-polled terms.burst other queue journal name runtime true)
      is.marks_then (jobs_out-resume name picked is.nobody, is.its_queue, is.wake_is) kept.agrees.burst_is (open-begun journal terms.burst queue runtime old.bursts kept.agrees.burst_is next.no_turn name true) is.out_exists left
      (record { may_follow = (queue, its_turn, keeps, told); turn = takes_it; effect = tt; writer = kept.is_core })

  pub kept-picked : core.return_reason queue old ≡ None → turns journal < most_turns → IsKept terms (picked_view old name queue marks.woken job queues) (poll_note name marks.started ∷ picked)
  kept-picked keeps left = polled marks.started (is.reason_told ∙ keeps) (sym is.start_told) left

  -- the job goes back
  pub kept-returned : (reason : Reason) → core.return_reason queue old ≡ Some reason → turns journal < most_turns → IsKept terms (returned_view old queue queues) (writes.Returned name reason ∷ picked)
  kept-returned reason returns left =
      subst (λ out. IsKept terms (record (returned_view old queue queues) { out = out }) (writes.Returned name reason ∷ picked)) (sym next.free)
      (kept-turned (writes.Returned name reason) (assumption) (tally_returned queue old) one_return None old.bursts refl refl (λ other. told-returned terms.burst other queue journal name is.its_queue runtime reason)
      is.marks_then is.nobody kept.agrees.burst_is (subst (λ turn. IsOpenTurn terms.burst turn (writes.Returned name reason ∷ picked)) (sym next.no_turn) (open-returned journal terms.burst queue runtime name reason))
      (λ out none. absurd (none-some out none)) left
      (record { may_follow = (queue, its_turn, is.reason_told ∙ returns); turn = refl; effect = tt; writer = kept.is_core }))
