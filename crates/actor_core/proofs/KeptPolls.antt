-- What a core tells of itself stays what its journal says, as a poll is settled: the job yields, is parked or stays, or is done.
use Rattle.actor_core.proofs.AgreementNames.{ChangesParks, Marks, MayFollow, alone_out, among, awake, false, false_from_ne_true, is_told, is_wake_kept, is_wake_kept-stayed, is_wake_kept-stayed_elsewhere, jobs_out-park, jobs_out-stayed, known_of}
use Rattle.actor_core.proofs.AgreementNames.{line-stayed, line-stayed_elsewhere, marks_told, name_started, names_parked, parked, parked-park, parked-park_elsewhere, parked_of, same_name, stays, virtual_runtime-park, virtual_runtime-park_elsewhere}
use Rattle.actor_core.proofs.AgreementNames.{virtual_runtime-stayed, virtual_runtime-stayed_elsewhere, get_or-set_other, length-set, none-some, CoreView, JobOut, runtime_of, tally_of, settled_view, Tally, jobs_out-done, jobs_out-yield, line-done}
use Rattle.actor_core.proofs.AgreementNames.{line-yield, line-yield_elsewhere, floor-stays, virtual_runtime-done, virtual_runtime-done_elsewhere, virtual_runtime-yield, virtual_runtime-yield_elsewhere, is_told-alone, jobs_out, shares}
use Rattle.actor_core.proofs.AgreementNames.{virtual_runtime, queue_of, Agrees, AreMarked, IsJobOut, IsKept, names_of, figures_told, JobId, Journal, None, Note, Some, Terms, [], ap, arith, cond, get_or-set_same, length, map-append, refl, subst, sym}
use Rattle.actor_core.proofs.AgreementNames.{true, ℕ, ◌++◌, ◌+◌, ◌<◌, ◌==◌, ◌∙◌, ◌∷◌, ◌≡◌, ◌≤◌, charge, clamped, ChangesLine, QueuesView, mode_of, line, queue_count, shares_of, waiting_of, Bool, IsOpenTurn, OpenTurn, Option, add-zero, added_now}
use Rattle.actor_core.proofs.AgreementNames.{brings_work, figures_in, figures_of, has_bursts, name_polled, no_tally, open_if_begun, parts_turns, poll_settled, queue_begun_last, settled_tally, turn_of_out, turn_told, virtual_runtime-in_turn}
use Rattle.core_core.specs.State as state
use Rattle.base_words.specs.declared.note.Note.TheVariants as writes
use Rattle.actor_core.proofs.Places.{everywhere}
use Rattle.actor_core.proofs.Figures.{figures-grow, one_poll, told-done, told-park, told-stayed, told-yield}
use Rattle.actor_core.proofs.Kept.{IsPlain, closing-stays, kept_after, queue_out-agrees, stays-agrees, turns-stays}
use Rattle.actor_core.proofs.Turning.{open-lasted}
use Rattle.actor_core.proofs.Marks.{marks-elsewhere, marks_longer}

module _ {J T : Type 0} (terms : Terms) (old : CoreView J) (job : JobOut J) (time : ℕ) (journal : Journal T) (kept : IsKept terms old journal) (at : old.out ≡ Some job) where
  is_out : (jobs_out journal ≡ job.name ∷ []) × (queue_of job.name journal ≡ Some job.queue) × (job.woken ≡ is_wake_kept job.name journal)
  is_out = subst (λ out. IsJobOut out journal) at kept.agrees.out

  exists : job.queue < queue_count old.queues
  exists = kept.agrees.out_exists job at

  started : is_told name_started job.name journal ≡ true
  started = is_told-alone terms job.name journal kept.notes is_out.0

  -- the marks of the job that comes back
  abbrev its_marks : Marks
  its_marks = record { started = true; woken = job.woken }

  its_told : its_marks ≡ marks_told job.name journal
  its_told = λ i. record { started = sym started i; woken = is_out.2 i }

  -- the job that is out waits nowhere
  nowhere : (queue : ℕ) → among job.name (names_of (waiting_of queue old.queues)) ≡ false
  nowhere queue =
      ap (among job.name) (kept.agrees.lines queue)
      ∙ false_from_ne_true _ ((known_of terms journal kept.notes).not_waiting queue job.name (alone_out job.name journal is_out.0))

  -- where turns may have several polls, the job that is out is of the open turn; so no turn is open exactly where its poll ends its turn
  added_is : (cost : ℕ) → added_now old.bursts.open cost ≡ cond (has_bursts terms.burst) 0 cost
  added_is cost = by_turn old.bursts.open kept.agrees.turn (has_bursts terms.burst) refl
    where
      begun_is : queue_begun_last journal ≡ Some job.queue
      begun_is = turn_of_out terms journal kept.notes job.queue (sym (queue_out-agrees old journal kept.agrees.out) ∙ ap state.queue_out at)

      by_turn : (turn : Option OpenTurn) → IsOpenTurn terms.burst turn journal → (form : Bool) → has_bursts terms.burst ≡ form → added_now turn cost ≡ cond form 0 cost
      by_turn None none true form = absurd (none-some job.queue (sym none ∙ (open_if_begun terms.burst journal form ∙ begun_is)))
      by_turn None none false form = refl
      by_turn (Some turn) is true form = refl
      by_turn (Some turn) is false form = absurd (none-some turn.queue (sym (ap (λ form. cond form (queue_begun_last journal) None) form) ∙ is.0))

  -- a note that settles a poll charges its queue where the poll ends its turn
  charged_by_form : (note : Note T) (cost : ℕ) → turn_told note ≡ None → brings_work job.queue note journal ≡ false →
      (has_bursts terms.burst ≡ false → virtual_runtime terms.burst job.queue (note ∷ journal) ≡ virtual_runtime terms.burst job.queue journal + cost) →
      virtual_runtime terms.burst job.queue (note ∷ journal) ≡ virtual_runtime terms.burst job.queue journal + cond (has_bursts terms.burst) 0 cost
  charged_by_form note cost goes_on nothing single = by_form (has_bursts terms.burst) refl
    where
      by_form : (form : Bool) → has_bursts terms.burst ≡ form → virtual_runtime terms.burst job.queue (note ∷ journal) ≡ virtual_runtime terms.burst job.queue journal + cond form 0 cost
      by_form true form = virtual_runtime-in_turn terms.burst job.queue journal note form goes_on nothing ∙ sym (add-zero (virtual_runtime terms.burst job.queue journal))
      by_form false form = single form

  -- and no other queue
  elsewhere_by_form : (other : ℕ) (note : Note T) → turn_told note ≡ None → brings_work other note journal ≡ false →
      (has_bursts terms.burst ≡ false → virtual_runtime terms.burst other (note ∷ journal) ≡ virtual_runtime terms.burst other journal) →
      virtual_runtime terms.burst other (note ∷ journal) ≡ virtual_runtime terms.burst other journal
  elsewhere_by_form other note goes_on nothing single = by_form (has_bursts terms.burst) refl
    where
      by_form : (form : Bool) → has_bursts terms.burst ≡ form → virtual_runtime terms.burst other (note ∷ journal) ≡ virtual_runtime terms.burst other journal
      by_form true form = virtual_runtime-in_turn terms.burst other journal note form goes_on nothing
      by_form false form = single form

  -- the core with its poll settled, by which so many jobs are done
  module _ (done : ℕ) (queues : QueuesView J) where
    abbrev new : CoreView J
    new = settled_view old job time done queues

    abbrev tally_now : Tally
    tally_now = settled_tally old.bursts.open time (shares_of job.queue old.queues) done (tally_of job.queue old)

    within : job.queue < length old.tallies
    within = omega (arith, exists, kept.agrees.tallied)

    -- the queue of the job is charged where the poll ends its turn, and no other queue is
    runtime_charged : runtime_of job.queue new ≡ virtual_runtime terms.burst job.queue journal + cond (has_bursts terms.burst) 0 (charge time (shares job.queue journal))
    runtime_charged =
        ap (λ tally. tally.runtime) (get_or-set_same old.tallies job.queue tally_now no_tally within)
        ∙ (λ i. kept.agrees.runtimes job.queue i + (added_is (charge time (shares_of job.queue old.queues)) ∙ ap (λ weight. cond (has_bursts terms.burst) 0 (charge time weight)) (kept.agrees.weights job.queue exists)) i)

    runtime_same : (other : ℕ) → (other ≡ job.queue → ⊥) → runtime_of other new ≡ virtual_runtime terms.burst other journal
    runtime_same other away = ap (λ tally. tally.runtime) (get_or-set_other old.tallies job.queue other tally_now no_tally away) ∙ kept.agrees.runtimes other

    -- its time is counted there too, and the jobs that are done
    counts_now : figures_in tally_now ≡ one_poll (cond (has_bursts terms.burst) 0 (clamped time)) done (figures_of job.queue old)
    counts_now = ap (λ added. one_poll added done (figures_of job.queue old)) (added_is (clamped time))

    -- it agrees with the note of that
    agrees_settled : (note : Note T) (plain : IsPlain note journal) →
        ((other : ℕ) → figures_told terms.burst other (note ∷ journal) ≡ cond (other == job.queue) (one_poll (cond (has_bursts terms.burst) 0 (clamped time)) done (figures_told terms.burst other journal)) (figures_told terms.burst other journal)) →
        queue_count queues ≡ queue_count old.queues → ((other : ℕ) → shares_of other queues ≡ shares_of other old.queues) → ((other : ℕ) → mode_of other queues ≡ mode_of other old.queues) →
        ((other : ℕ) → names_of (waiting_of other queues) ≡ line other (note ∷ journal)) → ((other : ℕ) → names_parked (parked_of other queues) ≡ parked other (note ∷ journal)) → ((other : ℕ) → AreMarked (note ∷ journal) (waiting_of other queues)) →
        virtual_runtime terms.burst job.queue (note ∷ journal) ≡ virtual_runtime terms.burst job.queue journal + cond (has_bursts terms.burst) 0 (charge time (shares job.queue journal)) →
        ((other : ℕ) → (other ≡ job.queue → ⊥) → virtual_runtime terms.burst other (note ∷ journal) ≡ virtual_runtime terms.burst other journal) → jobs_out (note ∷ journal) ≡ [] →
        parts_turns note ≡ false → name_polled note ≡ None → poll_settled note ≡ Some (job.name, time) → Agrees terms.burst new (note ∷ journal)
    agrees_settled note plain told same_count same_shares same_modes lines parks marks charged elsewhere nobody goes_on unpolled settles =
        let tallied = length-set old.tallies job.queue tally_now ∙ (kept.agrees.tallied ∙ sym same_count) in
        let last = same_count ∙ (kept.agrees.last ∙ ap (λ count. count + 1) (sym plain.created)) in
        let weights = λ (other : ℕ) (there : other < queue_count queues).
        same_shares other ∙ (kept.agrees.weights other (subst (λ count. other < count) same_count there) ∙ sym (plain.weighs other)) in
        let runtimes = everywhere (λ at. runtime_of at new ≡ virtual_runtime terms.burst at (note ∷ journal)) job.queue (runtime_charged ∙ sym charged) (λ other away. runtime_same other away ∙ sym (elsewhere other away)) in
        let floor_now = kept.agrees.the_floor ∙ sym (floor-stays note journal plain.picks) in
        let turns_now = kept.agrees.turns ∙ sym (turns-stays note journal plain.turns_made) in
        let none : (out : JobOut J) → None ≡ Some out → out.queue < queue_count queues = λ out none. absurd (none-some out none) in
        let delivered = λ (sender : ℕ) (known : sender ≤ old.cores). kept.agrees.delivered sender known ∙ ap length (sym (plain.delivered sender)) in
        let closing = closing-stays old new note journal same_modes refl refl refl plain.opens kept.agrees.closing in
        let turn = open-lasted journal terms.burst note goes_on unpolled job.name time settles old.bursts.open kept.agrees.turn in
        assumption (figures-grow old new job.queue tally_now within refl terms.burst journal (note ∷ journal) (one_poll (cond (has_bursts terms.burst) 0 (clamped time)) done) counts_now kept.agrees.figures told, nobody, kept.agrees.burst_is)

  -- the job goes to the end of its line
  pub kept-yield : (queues : QueuesView J) (back : J) → ChangesLine old.queues queues job.queue (waiting_of job.queue old.queues ++ (job.name, record { started = true; woken = job.woken }, back) ∷ []) →
      IsKept terms (settled_view old job time 0 queues) (writes.Yield job.name time ∷ journal)
  kept-yield queues back changes =
      kept_after terms (writes.Yield job.name time) kept
      (agrees_settled 0 queues (writes.Yield job.name time) (assumption) (λ other. told-yield terms.burst other job.queue journal job.name is_out.1 time)
      changes.same_count changes.same_shares changes.same_modes lines (λ other. ap names_parked (changes.same_parks other) ∙ kept.agrees.parks other) (marks_longer journal job.name its_marks back its_told changes kept.agrees.marks)
      (charged_by_form (writes.Yield job.name time) (charge time (shares job.queue journal)) refl refl (λ form. virtual_runtime-yield terms.burst job.queue journal job.name time form is_out.1))
      (λ other away. elsewhere_by_form other (writes.Yield job.name time) refl refl (λ form. virtual_runtime-yield_elsewhere terms.burst other journal job.name time job.queue form is_out.1 away))
      (jobs_out-yield job.name time journal is_out.0) refl refl refl) kept.is_core is_out.0 refl tt refl refl
    where
      lines : (other : ℕ) → names_of (waiting_of other queues) ≡ line other (writes.Yield job.name time ∷ journal)
      lines other =
          let longer = map-append (λ (entry : JobId × Marks × J). entry.0) (waiting_of job.queue old.queues) ((job.name, its_marks, back) ∷ []) in
          let here = line-yield job.queue time job.name journal is_out.1 in
          grind (arith, longer, here, kept.agrees.lines other, changes.others other, line-yield_elsewhere other job.queue time job.name journal is_out.1)

  -- a job that asks to be parked and stays goes there too, and uses up its wake
  pub kept-stayed : (queues : QueuesView J) (back : J) → stays job old ≡ true → ChangesLine old.queues queues job.queue (waiting_of job.queue old.queues ++ awake (job.name, back) ∷ []) →
      IsKept terms (settled_view old job time 0 queues) (writes.Stayed job.name time ∷ journal)
  kept-stayed queues back staying changes =
      kept_after terms (writes.Stayed job.name time) kept
      (agrees_settled 0 queues (writes.Stayed job.name time) (assumption) (λ other. told-stayed terms.burst other job.queue journal job.name is_out.1 time)
      changes.same_count changes.same_shares changes.same_modes lines (λ other. ap names_parked (changes.same_parks other) ∙ kept.agrees.parks other)
      (marks_longer (writes.Stayed job.name time ∷ journal) job.name (record { started = true; woken = false }) back stayed_told changes others_marked)
      (charged_by_form (writes.Stayed job.name time) (charge time (shares job.queue journal)) refl refl (λ form. virtual_runtime-stayed terms.burst job.queue journal job.name time form is_out.1))
      (λ other away. elsewhere_by_form other (writes.Stayed job.name time) refl refl (λ form. virtual_runtime-stayed_elsewhere terms.burst other journal job.name time job.queue form is_out.1 away))
      (jobs_out-stayed job.name time journal is_out.0) refl refl refl) kept.is_core (is_out.0, sym (stays-agrees old journal kept.agrees job at) ∙ staying) refl tt refl refl
    where
      stayed_told : record { started = true; woken = false } ≡ marks_told job.name (writes.Stayed job.name time ∷ journal)
      stayed_told = λ i. record { started = sym started i; woken = sym (is_wake_kept-stayed job.name journal time) i }

      elsewhere : (other : JobId) → same_name other job.name ≡ false → marks_told other (writes.Stayed job.name time ∷ journal) ≡ marks_told other journal
      elsewhere other apart = λ i. record { started = is_told name_started other journal; woken = is_wake_kept-stayed_elsewhere other journal job.name time apart i }

      others_marked : (other : ℕ) → AreMarked (writes.Stayed job.name time ∷ journal) (waiting_of other old.queues)
      others_marked other = marks-elsewhere (writes.Stayed job.name time) journal job.name elsewhere (waiting_of other old.queues) (nowhere other) (kept.agrees.marks other)

      lines : (other : ℕ) → names_of (waiting_of other queues) ≡ line other (writes.Stayed job.name time ∷ journal)
      lines = everywhere (λ at. names_of (waiting_of at queues) ≡ line at (writes.Stayed job.name time ∷ journal)) job.queue
          (ap names_of changes.changed
          ∙ (map-append (λ (entry : JobId × Marks × J). entry.0) (waiting_of job.queue old.queues) (awake (job.name, back) ∷ [])
          ∙ (ap (λ names. names ++ job.name ∷ []) (kept.agrees.lines job.queue) ∙ sym (line-stayed job.queue time job.name journal is_out.1))))
          (λ other away. ap names_of (changes.others other away) ∙ (kept.agrees.lines other ∙ sym (line-stayed_elsewhere other job.queue time job.name journal is_out.1 away)))

  -- a job that is parked comes behind those that are
  pub kept-park : (queues : QueuesView J) (back : J) → stays job old ≡ false → ChangesParks old.queues queues job.queue (parked_of job.queue old.queues ++ (job.name, back) ∷ []) →
      IsKept terms (settled_view old job time 0 queues) (writes.Park job.name time ∷ journal)
  kept-park queues back asleep changes =
      kept_after terms (writes.Park job.name time) kept
      (agrees_settled 0 queues (writes.Park job.name time) (assumption) (λ other. told-park terms.burst other job.queue journal job.name is_out.1 time)
      changes.same_count changes.same_shares changes.same_modes (λ other. ap names_of (changes.same_lines other) ∙ kept.agrees.lines other) parks
      (λ other. subst (AreMarked journal) (sym (changes.same_lines other)) (kept.agrees.marks other))
      (charged_by_form (writes.Park job.name time) (charge time (shares job.queue journal)) refl refl (λ form. virtual_runtime-park terms.burst job.queue journal job.name time form is_out.1))
      (λ other away. elsewhere_by_form other (writes.Park job.name time) refl refl (λ form. virtual_runtime-park_elsewhere terms.burst other journal job.name time job.queue form is_out.1 away))
      (jobs_out-park job.name time journal is_out.0) refl refl refl) kept.is_core law refl tt refl refl
    where
      law : MayFollow terms (writes.Park job.name time) journal
      law = (is_out.0, sym (stays-agrees old journal kept.agrees job at) ∙ asleep)

      parks : (other : ℕ) → names_parked (parked_of other queues) ≡ parked other (writes.Park job.name time ∷ journal)
      parks = everywhere (λ at. names_parked (parked_of at queues) ≡ parked at (writes.Park job.name time ∷ journal)) job.queue
          (ap names_parked changes.changed
          ∙ (map-append (λ (entry : JobId × J). entry.0) (parked_of job.queue old.queues) ((job.name, back) ∷ [])
          ∙ (ap (λ names. names ++ job.name ∷ []) (kept.agrees.parks job.queue) ∙ sym (parked-park terms journal kept.notes job.queue time job.name law is_out.1))))
          (λ other away. ap names_parked (changes.others other away)
          ∙ (kept.agrees.parks other ∙ sym (parked-park_elsewhere terms journal kept.notes other job.queue time job.name law is_out.1 away)))

  -- the job is gone
  pub kept-done : (value : T) → IsKept terms (settled_view old job time 1 old.queues) (writes.Done job.name time value ∷ journal)
  kept-done value =
      kept_after terms (writes.Done job.name time value) kept
      (agrees_settled 1 old.queues (writes.Done job.name time value) (assumption) (λ other. told-done terms.burst other job.queue journal job.name is_out.1 time value) refl (λ other. refl) (λ other. refl)
      (λ other. kept.agrees.lines other ∙ sym (line-done terms journal kept.notes other time value job.name is_out.0)) kept.agrees.parks kept.agrees.marks
      (charged_by_form (writes.Done job.name time value) (charge time (shares job.queue journal)) refl refl (λ form. virtual_runtime-done terms.burst job.queue journal job.name time value form is_out.1))
      (λ other away. elsewhere_by_form other (writes.Done job.name time value) refl refl (λ form. virtual_runtime-done_elsewhere terms.burst other journal job.name time value job.queue form is_out.1 away))
      (jobs_out-done job.name time value journal is_out.0) refl refl refl) kept.is_core is_out.0 refl tt refl refl
