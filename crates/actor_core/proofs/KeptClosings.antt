-- What a core tells of itself stays what its journal says, as a queue or the core is closed: in mode `Return` all parks that it has end.
use Rattle.actor_core.proofs.AgreementNames.{Agrees, All-append, AreMarked, Bool, CoreView, EachNote, HasClosed, IsJobOut, JobId, JobOut, Journal, List, MayStand, Mode, None, Note, Option, Parks, Some, Terms, [], among, ap, append-nil, arith, awake}
use Rattle.actor_core.proofs.AgreementNames.{brings_work, cond, core_mode, entry_runtime, false, final_count, figures_in, figures_of, is_any, is_number, is_return, keeps_wakes, length, line, map, map-append, marks_told, mode_of, names_of}
use Rattle.actor_core.proofs.AgreementNames.{names_parked, nat_lt, or_else, parked, parked_of, queue_count, queue_mode, refl, shares_of, runtime_of, started_of, subst, sym, tally_of, true, true≢false, virtual_runtime, waiting_of, with_all}
use Rattle.actor_core.proofs.AgreementNames.{with_all-append, ℕ, ◌&&◌, ◌++◌, ◌==◌, ◌||◌, ◌∙◌, ◌∷◌, ◌≡◌}
use Rattle.base_words.specs.Charge.{placed}
use Rattle.base_words.specs.declared.note.Note.TheVariants as writes
use Rattle.base_words.specs.declared.order.Mode.TheVariants.{Finish, Return}
use Rattle.core_core.specs.State as state
use Rattle.core_core.specs.Closing as core_says
use Rattle.actor_core.proofs.KeptParks.{IsStill, agrees_rearranged, runtime-brought, runtime-still}
use Rattle.actor_core.proofs.Marks.{is_marked, marks-stay, marks_awake, names-awake}

module _ {J : Type 0} (closed new : CoreView J) (ends : ℕ → Bool) where
  -- a closing in mode `Finish` ends no park
  pub ended_if : (returns : Bool) → core_says.EndsParksIf returns closed ends new → core_says.EndsParks closed (λ queue. returns && ends queue) new
  ended_if true ended = ended
  ended_if false same = subst (core_says.EndsParks closed (λ queue. false)) (sym same) (assumption (λ (queue : ℕ). sym (append-nil (waiting_of queue closed.queues))))

-- there are parked jobs where there are names of them
any_named : {J : Type 0} (parks : Parks J) → is_any parks ≡ nat_lt 0 (length (names_parked parks))
any_named [] = refl
any_named (first ∷ parks) = grind arith

-- the job that is out stays so behind a still note that leaves its wake
out-still : {J T : Type 0} (note : Note T) (before : Journal T) → IsStill note before → ((name : JobId) → marks_told name (note ∷ before) ≡ marks_told name before) →
    (out : Option (JobOut J)) → IsJobOut out before → IsJobOut out (note ∷ before)
out-still note before still marks None nobody = rw (still.settles, still.polls) nobody
out-still note before still marks (Some job) is = (rw (still.settles, still.polls) is.0, rw (still.takes job.name) is.1, is.2 ∙ sym (ap (λ marks. marks.woken) (marks job.name)))

-- a queue or the core is closed, and then the parks of these queues end
module _ {J T : Type 0} {burst : ℕ} (terms : Terms) (old closed new : CoreView J) (note : Note T) (before : Journal T) (notes : EachNote (MayStand terms) before) (agrees : Agrees burst old before)
    (still : IsStill note before) (same_marks : (name : JobId) → marks_told name (note ∷ before) ≡ marks_told name before) (ends : ℕ → Bool)
    (line_is : (queue : ℕ) → line queue (note ∷ before) ≡ with_all (line queue before) (cond (ends queue) (parked queue before) []))
    (parked_is : (queue : ℕ) → parked queue (note ∷ before) ≡ cond (ends queue) [] (parked queue before))
    (brings_is : (queue : ℕ) → brings_work queue note before ≡ nat_lt 0 (length (cond (ends queue) (parked queue before) [])))
    (same_gates : (sender : ℕ) → final_count sender (note ∷ before) ≡ final_count sender before)
    (is : closed ≡ record old { queues = closed.queues; mode = closed.mode })
    (same_lines : (queue : ℕ) → waiting_of queue closed.queues ≡ waiting_of queue old.queues) (same_parks : (queue : ℕ) → parked_of queue closed.queues ≡ parked_of queue old.queues)
    (ended : core_says.EndsParks closed ends new) where
  abbrev woken : ℕ → Parks J
  woken queue = core_says.unparked (ends queue) queue closed

  parks_before : (queue : ℕ) → names_parked (parked_of queue closed.queues) ≡ parked queue before
  parks_before queue = ap names_parked (same_parks queue) ∙ agrees.parks queue

  woken_names : (queue : ℕ) → names_parked (woken queue) ≡ cond (ends queue) (parked queue before) []
  woken_names queue = by_test (ends queue)
    where
      by_test : (test : Bool) → names_parked (core_says.unparked test queue closed) ≡ cond test (parked queue before) []
      by_test true = parks_before queue
      by_test false = refl

  still_names : (queue : ℕ) → names_parked (core_says.still_parked (ends queue) queue closed) ≡ cond (ends queue) [] (parked queue before)
  still_names queue = by_test (ends queue)
    where
      by_test : (test : Bool) → names_parked (core_says.still_parked test queue closed) ≡ cond test [] (parked queue before)
      by_test true = refl
      by_test false = parks_before queue

  lines : (queue : ℕ) → names_of (waiting_of queue new.queues) ≡ line queue (note ∷ before)
  lines queue =
      ap names_of (ended.lines queue)
      ∙ (map-append (λ entry. entry.0) (waiting_of queue closed.queues) (map awake (woken queue))
      ∙ (ap (λ names. names ++ names_of (map awake (woken queue))) (ap names_of (same_lines queue) ∙ agrees.lines queue)
      ∙ (ap (λ names. line queue before ++ names) (names-awake (woken queue) ∙ woken_names queue)
      ∙ (sym (with_all-append (line queue before) (cond (ends queue) (parked queue before) [])) ∙ sym (line_is queue)))))

  parks : (queue : ℕ) → names_parked (parked_of queue new.queues) ≡ parked queue (note ∷ before)
  parks queue = ap names_parked (ended.parks queue) ∙ (still_names queue ∙ sym (parked_is queue))

  -- who is woken has started, and no wake of it is kept
  woken_told : (queue : ℕ) (name : JobId) → among name (names_parked (woken queue)) ≡ true → record { started = true; woken = false } ≡ marks_told name (note ∷ before)
  woken_told queue name there = told_before ∙ sym (same_marks name)
    where
      by_test : (test : Bool) → among name (cond test (parked queue before) []) ≡ true → among name (parked queue before) ≡ true
      by_test true there = there
      by_test false there = absurd (true≢false (sym there))

      asleep : among name (parked queue before) ≡ true
      asleep = by_test (ends queue) (sym (ap (among name) (woken_names queue)) ∙ there)

      told_before : record { started = true; woken = false } ≡ marks_told name before
      told_before = λ i. record { started = sym ((started_of terms before notes).parked_started queue name asleep) i; woken = sym ((keeps_wakes terms before notes).not_parked queue name asleep) i }

  marks : (queue : ℕ) → AreMarked (note ∷ before) (waiting_of queue new.queues)
  marks queue =
      subst (AreMarked (note ∷ before)) (sym (ended.lines queue))
      (All-append (is_marked (note ∷ before)) (waiting_of queue closed.queues) (map awake (woken queue))
      (subst (AreMarked (note ∷ before)) (sym (same_lines queue)) (marks-stay note before same_marks (waiting_of queue old.queues) (agrees.marks queue)))
      (marks_awake (note ∷ before) (woken queue) (woken_told queue)))

  same_tally : (queue : ℕ) → tally_of queue closed ≡ tally_of queue old
  same_tally queue = ap (tally_of queue) is

  same_entry : (queue : ℕ) → entry_runtime queue closed ≡ entry_runtime queue old
  same_entry queue =
      ap (entry_runtime queue) is
      ∙ ap (λ waiting. cond (is_any waiting || is_number queue (state.queue_out old.out)) (runtime_of queue old) (placed (runtime_of queue old) old.floor)) (same_lines queue)

  -- a queue is placed where parks of it end
  any_brings : (queue : ℕ) → brings_work queue note before ≡ is_any (woken queue)
  any_brings queue = brings_is queue ∙ sym (any_named (woken queue) ∙ ap (λ names. nat_lt 0 (length names)) (woken_names queue))

  runtimes : (queue : ℕ) → (tally_of queue new).runtime ≡ virtual_runtime burst queue (note ∷ before)
  runtimes queue = ap (λ tally. tally.runtime) (ended.tallies queue) ∙ by_test (is_any (woken queue)) (any_brings queue)
    where
      by_test : (test : Bool) → brings_work queue note before ≡ test → (core_says.tally_woken test queue closed).runtime ≡ virtual_runtime burst queue (note ∷ before)
      by_test true brings = same_entry queue ∙ runtime-brought old before agrees note still terms notes queue brings
      by_test false brings = ap (λ tally. tally.runtime) (same_tally queue) ∙ runtime-still old before agrees note still queue brings

  figures : (queue : ℕ) → figures_in (tally_of queue new) ≡ figures_of queue old
  figures queue = ap figures_in (ended.tallies queue) ∙ by_test (is_any (woken queue))
    where
      by_test : (test : Bool) → figures_in (core_says.tally_woken test queue closed) ≡ figures_of queue old
      by_test true = ap figures_in (same_tally queue)
      by_test false = ap figures_in (same_tally queue)

  agrees-closed : queue_count closed.queues ≡ queue_count old.queues → ((queue : ℕ) → shares_of queue closed.queues ≡ shares_of queue old.queues) →
      ((queue : ℕ) → mode_of queue closed.queues ≡ queue_mode queue (note ∷ before)) → closed.mode ≡ core_mode (note ∷ before) → Agrees burst new (note ∷ before)
  agrees-closed same_count same_shares modes mode =
      subst (λ core. Agrees burst core (note ∷ before)) (sym (ended.rest ∙ ap (λ (core : CoreView J). record core { queues = new.queues; tallies = new.tallies }) is))
      (agrees_rearranged old before agrees note still new.queues new.tallies old.out closed.mode lines parks marks runtimes figures (ended.same_tallies ∙ ap (λ core. length core.tallies) is)
      (ended.same_count ∙ same_count) (λ queue. ended.same_shares queue ∙ same_shares queue) (out-still note before still same_marks old.out agrees.out) agrees.out_exists (record {
        modes = λ queue. ended.same_modes queue ∙ modes queue;
        mode = mode;
        gate_places = agrees.closing.gate_places;
        gates = λ sender. agrees.closing.gates sender ∙ sym (same_gates sender);
      }))

-- whether the parks of a queue end, as a journal and as a core ask
core_ends : (mode : Mode) → is_return mode ≡ (is_return mode && true)
core_ends Finish = refl
core_ends Return = refl

queue_ends : (queue other : ℕ) (mode : Mode) → (other == queue && is_return mode) ≡ (is_return mode && (queue == other))
queue_ends queue other mode = grind arith

module _ {J T : Type 0} {burst : ℕ} (terms : Terms) (old new : CoreView J) (before : Journal T) (notes : EachNote (MayStand terms) before) (agrees : Agrees burst old before) where
  -- the core is closed
  pub agrees-core_closed : (mode : Mode) → core_says.EndsParksIf (is_return mode) (record old { mode = Some mode }) (λ queue. true) new → Agrees burst new (writes.CoreClosed mode ∷ before)
  agrees-core_closed mode ended =
      agrees-closed terms old (record old { mode = Some mode }) new (writes.CoreClosed mode) before notes agrees (assumption) (λ name. refl) (λ queue. is_return mode && true)
      (λ queue. ap (λ test. with_all (line queue before) (cond test (parked queue before) [])) (core_ends mode)) (λ queue. ap (λ test. cond {A = List JobId} test [] (parked queue before)) (core_ends mode))
      (λ queue. ap (λ test. nat_lt 0 (length (cond {A = List JobId} test (parked queue before) []))) (core_ends mode)) (λ sender. refl) refl (λ queue. refl) (λ queue. refl)
      (ended_if (record old { mode = Some mode }) new (λ queue. true) (is_return mode) ended) refl (λ queue. refl) agrees.closing.modes refl

  -- a queue is closed
  pub agrees-queue_closed : (queue : ℕ) (mode : Mode) (closed : CoreView J) → HasClosed old queue mode closed → core_says.EndsParksIf (is_return mode) closed (λ other. queue == other) new →
      Agrees burst new (writes.QueueClosed queue mode ∷ before)
  agrees-queue_closed queue mode closed has ended =
      agrees-closed terms old closed new (writes.QueueClosed queue mode) before notes agrees (assumption) (λ name. refl) (λ other. is_return mode && (queue == other))
      (λ other. ap (λ test. with_all (line other before) (cond test (parked other before) [])) (queue_ends queue other mode)) (λ other. ap (λ test. cond {A = List JobId} test [] (parked other before)) (queue_ends queue other mode))
      (λ other. ap (λ test. nat_lt 0 (length (cond {A = List JobId} test (parked other before) []))) (queue_ends queue other mode)) (λ sender. refl)
      (has.rest ∙ ap (λ mode. record old { queues = closed.queues; mode = mode }) (sym (ap (λ core. core.mode) has.rest))) has.closed.same_lines has.closed.same_parks
      (ended_if closed new (λ other. queue == other) (is_return mode) ended) has.closed.same_count has.closed.same_shares modes (ap (λ core. core.mode) has.rest ∙ agrees.closing.mode)
    where
      modes : (other : ℕ) → mode_of other closed.queues ≡ or_else (cond (other == queue) (Some mode) None) (queue_mode other before)
      modes other = grind (arith, has.closed.changed, has.closed.others other, agrees.closing.modes other)
