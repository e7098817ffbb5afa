-- What a core tells of itself stays what its journal says, as a job is woken: its wake is kept, or its park ends.
use Rattle.actor_core.proofs.AgreementNames.{Agrees, AgreesOnClosing, All-append, All-cons, All-head, All-nil, All-tail, AreMarked, Bool, CoreView, Distinct, EachNote, IsInside, IsJobOut, JobId, JobOut, Journal, Known, Line, List, Marks, MayStand}
use Rattle.actor_core.proofs.AgreementNames.{Moves, Sleeps, Mode, None, Note, Option, QueuesView, Some, Tally, Terms, [], add-zero, alone_out, among, ap, apart_of, arith, awake, brings_work, charge_noted, cond, created_count, delivered_names}
use Rattle.actor_core.proofs.AgreementNames.{entry_runtime, false, false_from_ne_true, get_or-set_other, get_or-set_same, figures_noted, figures_of, floor-stays, has_work, is_inside, is_parked, is_parked_in, is_told, is_wake_kept}
use Rattle.actor_core.proofs.AgreementNames.{is_wake_kept-elsewhere, is_wake_kept-ended, is_wake_kept-woken, is_working, jobs_out, keeps_wakes, known_of, length, length-set, line, line-woken, line_not_parked, map-append, marks_told, max, mode_of}
use Rattle.actor_core.proofs.AgreementNames.{name_polled, name_settled, name_started, names_but, names_like-none, names_like-one, names_of, name_ended, no_tally, not, names_parked, nat_lt, no_figures, one_name, parked, parked_of, pick_count}
use Rattle.actor_core.proofs.AgreementNames.{queue_count, queue_entered, queue_of, refl, runtime_of, and_parts, parts_turns, entered_somewhere, is_name, is_some, ⊎_elim, ◌||◌, runtime_picked, same_Some, same_name, set, shares, shares_of, started_of}
use Rattle.actor_core.proofs.AgreementNames.{subst, sym, tally_of, true, true≢false, virtual_runtime, virtual_runtime-brought, virtual_runtime-busy, virtual_runtime-stays, waiting_of, woken_elsewhere, ℕ, ◌&&◌, ◌++◌, ◌+◌, ◌<◌, ◌∙◌, ◌∷◌, ◌≡◌, ◌≤◌}
use Rattle.base_words.specs.declared.note.Note.TheVariants as writes
use Rattle.core_core.specs.Waking.{EndsPark, IsAbsent, KeepsLineWake, KeepsOutWake, name_out}
use Rattle.core_queues.specs.Waking.{KeepsWake, WakesParked}
use Rattle.actor_core.proofs.Figures.{figures-same, figures-stays}
use Rattle.actor_core.proofs.Kept.{closing-stays, turns-stays, working}
use Rattle.actor_core.proofs.Marks.{among-middle, is_marked, marks-elsewhere, marks-middle, names_but-middle, parked-middle}
use Rattle.actor_core.proofs.Places.{each_line, everywhere}
use Rattle.actor_core.proofs.Turning.{open-stays}

-- a queue that works keeps its runtime, and one that doesn't is placed at the floor at least
pub entering : (works busy : Bool) (runtime told floor_now floor_told entered : ℕ) → works ≡ busy → runtime ≡ told → floor_now ≡ floor_told →
    (busy ≡ true → entered ≡ told) → (busy ≡ false → entered ≡ max told floor_told) → cond works runtime (max runtime floor_now) ≡ entered
entering works busy runtime told floor_now floor_told entered same_work same_runtime same_floor at_work at_rest = grind arith

-- a note by which nobody is polled or settled or enters, and nothing is picked, charged, created, weighed, delivered or counted
pub record IsStill {T : Type 0} (note : Note T) (before : Journal T) : Type 0 where
  pub polls : name_polled note ≡ None
  pub settles : name_settled note ≡ None
  pub takes : (name : JobId) → queue_entered name note ≡ None
  pub costs : (burst queue : ℕ) → charge_noted burst queue note before ≡ 0
  pub counts : (burst queue : ℕ) → figures_noted burst queue note before ≡ no_figures
  pub picks : runtime_picked note ≡ 0
  pub turns_made : pick_count note ≡ 0
  pub goes_on : parts_turns note ≡ false
  pub created : created_count (note ∷ before) ≡ created_count before
  pub weighs : (queue : ℕ) → shares queue (note ∷ before) ≡ shares queue before
  pub delivered : (sender : ℕ) → delivered_names sender (note ∷ before) ≡ delivered_names sender before

module _ {J T : Type 0} {burst : ℕ} (old : CoreView J) (before : Journal T) (agrees : Agrees burst old before) (note : Note T) (still : IsStill note before) where
  -- a queue to which no work comes stands where it stood
  pub runtime-still : (queue : ℕ) → brings_work queue note before ≡ false → runtime_of queue old ≡ virtual_runtime burst queue (note ∷ before)
  runtime-still queue nothing = agrees.runtimes queue ∙ sym (virtual_runtime-stays burst queue before note nothing (still.costs burst queue))

  -- and one to which work comes, where its core places it
  pub runtime-brought : (terms : Terms) → EachNote (MayStand terms) before → (queue : ℕ) → brings_work queue note before ≡ true → entry_runtime queue old ≡ virtual_runtime burst queue (note ∷ before)
  runtime-brought terms notes queue brings =
      entering (is_working queue old) (has_work queue before) _ _ _ _ _ (working old before terms queue notes agrees) (agrees.runtimes queue) agrees.the_floor
      (λ busy. virtual_runtime-busy burst queue before note busy ∙ (ap (λ cost. virtual_runtime burst queue before + cost) (still.costs burst queue) ∙ add-zero (virtual_runtime burst queue before)))
      (λ idle. virtual_runtime-brought burst queue before note brings (still.costs burst queue) idle)

  -- a core that holds the same jobs, at other places or with other marks, agrees with a still note
  pub agrees_rearranged : (queues : QueuesView J) (tallies : List Tally) (out : Option (JobOut J)) (mode : Option Mode) →
      ((queue : ℕ) → names_of (waiting_of queue queues) ≡ line queue (note ∷ before)) → ((queue : ℕ) → names_parked (parked_of queue queues) ≡ parked queue (note ∷ before)) →
      ((queue : ℕ) → AreMarked (note ∷ before) (waiting_of queue queues)) → ((queue : ℕ) → runtime_of queue (record old { tallies = tallies }) ≡ virtual_runtime burst queue (note ∷ before)) →
      ((queue : ℕ) → figures_of queue (record old { tallies = tallies }) ≡ figures_of queue old) → length tallies ≡ length old.tallies → queue_count queues ≡ queue_count old.queues →
      ((queue : ℕ) → shares_of queue queues ≡ shares_of queue old.queues) → IsJobOut out (note ∷ before) → ((job : JobOut J) → out ≡ Some job → job.queue < queue_count old.queues) →
      AgreesOnClosing (record old { queues = queues; tallies = tallies; out = out; mode = mode }) (note ∷ before) → Agrees burst (record old { queues = queues; tallies = tallies; out = out; mode = mode }) (note ∷ before)
  agrees_rearranged queues tallies out mode lines parks marks runtimes figures tallied count weights out_is there closing = assumption (
    agrees.burst_is,
    agrees.senders,
    tallied ∙ (agrees.tallied ∙ sym count),
    count ∙ (agrees.last ∙ ap (λ number. number + 1) (sym still.created)),
    λ (queue : ℕ) (within : queue < queue_count queues). weights queue ∙ (agrees.weights queue (subst (λ number. queue < number) count within) ∙ sym (still.weighs queue)),
    agrees.the_floor ∙ sym (floor-stays note before still.picks),
    agrees.turns ∙ sym (turns-stays note before still.turns_made),
    open-stays before burst note still.goes_on still.polls still.settles old.bursts.open agrees.turn,
    λ (job : JobOut J) (at : out ≡ Some job). subst (λ number. job.queue < number) (sym count) (there job at),
    λ (sender : ℕ) (known : sender ≤ old.cores). agrees.delivered sender known ∙ ap length (sym (still.delivered sender)),
    λ (queue : ℕ). figures queue ∙ (agrees.figures queue ∙ sym (figures-stays burst queue note before (still.counts burst queue))),
  )

module _ {J T : Type 0} {burst : ℕ} (terms : Terms) (old : CoreView J) (name : JobId) (before : Journal T) (notes : EachNote (MayStand terms) before) (agrees : Agrees burst old before) where
  abbrev longer : Journal T
  longer = writes.Woken name ∷ before

  is_still : IsStill (writes.Woken name) before
  is_still = assumption

  known : Known before
  known = known_of terms before notes

  -- a job that is inside
  told_inside : IsInside name before → is_inside name before ≡ true
  told_inside inside = ap (λ test. test && not (is_told name_ended name before)) inside.entered ∙ ap not inside.going_on

  -- so is the one that is out, one that waits, and one that is parked
  out_there : (out : JobOut J) → old.out ≡ Some out → name ≡ out.name → among name (jobs_out before) ≡ true
  out_there out at named = subst (λ one. among one (jobs_out before) ≡ true) (sym named) (alone_out out.name before (subst (λ out. IsJobOut out before) at agrees.out).0)

  line_there : {queues : QueuesView J} (keeps : KeepsWake old.queues queues name) → among name (line keeps.queue before) ≡ true
  line_there keeps = ap (among name) (sym (agrees.lines keeps.queue) ∙ ap names_of keeps.was) ∙ among-middle keeps.before (name, keeps.marks, keeps.job) keeps.behind

  parked_there : {queues : QueuesView J} (queue : ℕ) (wakes : WakesParked old.queues queues name queue) → among name (parked queue before) ≡ true
  parked_there queue wakes = ap (among name) (sym (agrees.parks queue) ∙ ap names_parked wakes.was) ∙ parked-middle wakes.before (name, wakes.job) wakes.behind

  pub inside-out : (out : JobOut J) → old.out ≡ Some out → name ≡ out.name → is_inside name before ≡ true
  inside-out out at named = told_inside (known.out_inside name (out_there out at named))

  pub inside-line : {queues : QueuesView J} → KeepsWake old.queues queues name → is_inside name before ≡ true
  inside-line keeps = told_inside (known.line_inside keeps.queue name (line_there keeps))

  pub inside-parked : {queues : QueuesView J} (queue : ℕ) → WakesParked old.queues queues name queue → is_inside name before ≡ true
  inside-parked queue wakes = told_inside (known.parked_inside queue name (parked_there queue wakes))

  -- no work comes to a queue in which the job isn't parked
  brings_nothing : (queue : ℕ) → among name (parked queue before) ≡ false → brings_work queue (writes.Woken name) before ≡ false
  brings_nothing queue apart = ap (λ names. nat_lt 0 (length names)) (names_like-none name (parked queue before) apart)

  -- a job that isn't parked in its queue isn't parked
  is_awake : (queue : ℕ) → queue_of name before ≡ Some queue → among name (parked queue before) ≡ false → is_parked name before ≡ false
  is_awake queue its apart = ap (λ at. is_parked_in at name before) its ∙ apart

  -- the marks of the other jobs stay
  others_told : (other : JobId) → same_name other name ≡ false → marks_told other longer ≡ marks_told other before
  others_told other apart = λ i. record { started = is_told name_started other before; woken = is_wake_kept-elsewhere other before name apart i }

  -- and so does the wake of a job that is out
  other_out : (among name (jobs_out before) ≡ true → ⊥) → (out : Option (JobOut J)) → IsJobOut out before → IsJobOut out longer
  other_out away None nobody = nobody
  other_out away (Some job) is = (
    is.0,
    is.1,
    is.2
        ∙ sym (is_wake_kept-elsewhere job.name before name
        (false_from_ne_true _ (λ same. away (subst (λ one. among one (jobs_out before) ≡ true) (one_name job.name name same) (alone_out job.name before is.0))))),
  )

  closing_now : (queues : QueuesView J) (tallies : List Tally) (out : Option (JobOut J)) → ((queue : ℕ) → mode_of queue queues ≡ mode_of queue old.queues) →
      AgreesOnClosing (record old { queues = queues; tallies = tallies; out = out }) longer
  closing_now queues tallies out modes = closing-stays old (record old { queues = queues; tallies = tallies; out = out }) (writes.Woken name) before modes refl refl refl (assumption) agrees.closing

  -- the job is out, and its wake is kept
  module _ (new : CoreView J) (keeps : KeepsOutWake old name new) where
    out_is : IsJobOut (Some keeps.out) before
    out_is = subst (λ out. IsJobOut out before) keeps.was_out agrees.out

    out_among : among name (jobs_out before) ≡ true
    out_among = out_there keeps.out keeps.was_out keeps.named

    out_queue : queue_of name before ≡ Some keeps.out.queue
    out_queue = subst (λ one. queue_of one before ≡ Some keeps.out.queue) (sym keeps.named) out_is.1

    out_unparked : (queue : ℕ) → among name (parked queue before) ≡ false
    out_unparked queue = false_from_ne_true _ (known.out_not_parked queue name out_among)

    out_unwaiting : (queue : ℕ) → among name (line queue before) ≡ false
    out_unwaiting queue = false_from_ne_true _ (known.not_waiting queue name out_among)

    out_sleeps : (queue : ℕ) → Sleeps queue longer before
    out_sleeps queue = woken_elsewhere terms before notes queue name (out_unparked queue)

    pub agrees-out_woken : Agrees burst new longer
    agrees-out_woken =
        subst (λ core. Agrees burst core longer) (sym keeps.rest)
        (agrees_rearranged old before agrees (writes.Woken name) is_still old.queues old.tallies (Some (record keeps.out { woken = true })) old.mode
        (λ queue. agrees.lines queue ∙ sym (out_sleeps queue).line) (λ queue. agrees.parks queue ∙ sym (out_sleeps queue).parked)
        (λ queue. marks-elsewhere (writes.Woken name) before name others_told (waiting_of queue old.queues) (ap (among name) (agrees.lines queue) ∙ out_unwaiting queue) (agrees.marks queue))
        (λ queue. runtime-still old before agrees (writes.Woken name) is_still queue (brings_nothing queue (out_unparked queue))) (λ queue. refl) refl refl (λ queue. refl)
        (out_is.0, out_is.1, sym (subst (λ one. is_wake_kept one longer ≡ true) keeps.named (is_wake_kept-woken name before (is_awake keeps.out.queue out_queue (out_unparked keeps.out.queue)))))
        (λ job at. subst (λ its. its < queue_count old.queues) (ap (λ out. out.queue) (same_Some _ job at)) (agrees.out_exists keeps.out keeps.was_out))
        (closing_now old.queues old.tallies (Some (record keeps.out { woken = true })) (λ queue. refl)))

  -- the job waits, and its wake is kept
  module _ (new : CoreView J) (wakes : KeepsLineWake old name new) where
    abbrev held : KeepsWake old.queues new.queues name
    held = wakes.keeps

    abbrev now_marks : Marks
    now_marks = record held.marks { woken = true }

    waits_there : among name (line held.queue before) ≡ true
    waits_there = line_there held

    waits_unparked : (queue : ℕ) → among name (parked queue before) ≡ false
    waits_unparked queue = false_from_ne_true _ (line_not_parked before known held.queue queue name waits_there)

    waits_sleep : (queue : ℕ) → Sleeps queue longer before
    waits_sleep queue = woken_elsewhere terms before notes queue name (waits_unparked queue)

    same_line : (front : Line J) → names_of (front ++ (name, now_marks, held.job) ∷ held.behind) ≡ names_of (front ++ (name, held.marks, held.job) ∷ held.behind)
    same_line [] = refl
    same_line (first ∷ front) = ap (λ names. first.0 ∷ names) (same_line front)

    line_here : names_of (held.before ++ (name, now_marks, held.job) ∷ held.behind) ≡ line held.queue longer
    line_here = same_line held.before ∙ (ap names_of (sym held.was) ∙ (agrees.lines held.queue ∙ sym (waits_sleep held.queue).line))

    line_distinct : Distinct (names_of (held.before ++ (name, held.marks, held.job) ∷ held.behind))
    line_distinct = subst Distinct (sym (agrees.lines held.queue) ∙ ap names_of held.was) ((apart_of terms before notes).distinct held.queue)

    line_marked : AreMarked before (held.before ++ (name, held.marks, held.job) ∷ held.behind)
    line_marked = subst (AreMarked before) held.was (agrees.marks held.queue)

    waits_told : now_marks ≡ marks_told name longer
    waits_told = λ i. record { started = (marked_middle held.before line_marked i).started; woken = sym kept_now i }
      where
        kept_now : is_wake_kept name longer ≡ true
        kept_now = is_wake_kept-woken name before (is_awake held.queue (known.line_queue held.queue name waits_there) (waits_unparked held.queue))

        marked_middle : (front : Line J) → AreMarked before (front ++ (name, held.marks, held.job) ∷ held.behind) → held.marks ≡ marks_told name before
        marked_middle [] line_marked = All-head (is_marked before) (name, held.marks, held.job) held.behind line_marked
        marked_middle (first ∷ front) line_marked = marked_middle front (All-tail (is_marked before) first (front ++ (name, held.marks, held.job) ∷ held.behind) line_marked)

    marks_there : (queue : ℕ) → AreMarked longer (waiting_of queue new.queues)
    marks_there = everywhere (λ at. AreMarked longer (waiting_of at new.queues)) held.queue
        (subst (AreMarked longer) (sym held.line.changed)
        (marks-middle (writes.Woken name) before name others_told held.marks now_marks held.job held.behind waits_told held.before line_distinct line_marked))
        (λ other away. subst (AreMarked longer) (sym (held.line.others other away))
        (marks-elsewhere (writes.Woken name) before name others_told (waiting_of other old.queues)
        (ap (among name) (agrees.lines other)
        ∙ false_from_ne_true _ (λ there. away (same_Some other held.queue (sym (known.line_queue other name there) ∙ known.line_queue held.queue name waits_there)))) (agrees.marks other)))

    pub agrees-line_woken : Agrees burst new longer
    agrees-line_woken =
        subst (λ core. Agrees burst core longer) (sym wakes.rest)
        (agrees_rearranged old before agrees (writes.Woken name) is_still new.queues old.tallies old.out old.mode
        (each_line (λ at entries. names_of entries ≡ line at longer) held.line line_here (λ queue. agrees.lines queue ∙ sym (waits_sleep queue).line))
        (λ queue. ap names_parked (held.line.same_parks queue) ∙ (agrees.parks queue ∙ sym (waits_sleep queue).parked)) marks_there
        (λ queue. runtime-still old before agrees (writes.Woken name) is_still queue (brings_nothing queue (waits_unparked queue))) (λ queue. refl) refl held.line.same_count held.line.same_shares
        (other_out (λ out. known.not_waiting held.queue name out waits_there) old.out agrees.out) agrees.out_exists (closing_now new.queues old.tallies old.out held.line.same_modes))

  -- the job is parked, and comes to the tail of its queue
  module _ (new : CoreView J) (ends : EndsPark old name new) where
    abbrev at_queue : ℕ
    at_queue = ends.queue

    abbrev woke : WakesParked old.queues new.queues name at_queue
    woke = ends.wakes

    abbrev moves : Moves old.queues new.queues at_queue (waiting_of at_queue old.queues ++ awake (name, woke.job) ∷ []) (woke.before ++ woke.behind)
    moves = woke.moves

    abbrev placed_tally : Tally
    placed_tally = record (tally_of at_queue old) { runtime = entry_runtime at_queue old }

    tally_there : at_queue < length old.tallies
    tally_there = omega (arith, ends.exists, agrees.tallied)

    is_asleep : among name (parked at_queue before) ≡ true
    is_asleep = parked_there at_queue woke

    not_elsewhere : (other : ℕ) → (other ≡ at_queue → ⊥) → among name (parked other before) ≡ false
    not_elsewhere other away = false_from_ne_true _ (λ tally_there. away (same_Some other at_queue (sym (known.parked_queue other name tally_there) ∙ known.parked_queue at_queue name is_asleep)))

    parked_unwaiting : (other : ℕ) → among name (line other before) ≡ false
    parked_unwaiting other = false_from_ne_true _ (λ waits. line_not_parked before known other at_queue name waits is_asleep)

    lines_then : (other : ℕ) → names_of (waiting_of other new.queues) ≡ line other longer
    lines_then = everywhere (λ at. names_of (waiting_of at new.queues) ≡ line at longer) at_queue
        (ap names_of moves.waits
        ∙ (map-append (λ entry. entry.0) (waiting_of at_queue old.queues) (awake (name, woke.job) ∷ [])
        ∙ (ap (λ names. names ++ name ∷ []) (agrees.lines at_queue) ∙ sym (line-woken terms before notes at_queue name is_asleep))))
        (λ other away. ap names_of (moves.others other away) ∙ (agrees.lines other ∙ sym (woken_elsewhere terms before notes other name (not_elsewhere other away)).line))

    parks_then : (other : ℕ) → names_parked (parked_of other new.queues) ≡ parked other longer
    parks_then = everywhere (λ at. names_parked (parked_of at new.queues) ≡ parked at longer) at_queue
        (ap names_parked moves.parks_left
        ∙ (sym (names_but-middle woke.before (name, woke.job) woke.behind (subst Distinct (sym (agrees.parks at_queue) ∙ ap names_parked woke.was) ((apart_of terms before notes).parked_distinct at_queue)))
        ∙ ap (names_but name) (ap names_parked (sym woke.was) ∙ agrees.parks at_queue)))
        (λ other away. ap names_parked (moves.other_parks other away) ∙ (agrees.parks other ∙ sym (woken_elsewhere terms before notes other name (not_elsewhere other away)).parked))

    awake_told : record { started = true; woken = false } ≡ marks_told name longer
    awake_told = λ i. record { started = sym has_started i; woken = sym unkept i }
      where
        has_started : is_told name_started name before ≡ true
        has_started = (started_of terms before notes).parked_started at_queue name is_asleep

        unkept : is_wake_kept name longer ≡ false
        unkept = is_wake_kept-ended name before (ap (λ at. is_parked_in at name before) (known.parked_queue at_queue name is_asleep) ∙ is_asleep)
            ∙ (keeps_wakes terms before notes).not_parked at_queue name is_asleep

    others_stay : (other : ℕ) → AreMarked longer (waiting_of other old.queues)
    others_stay other = marks-elsewhere (writes.Woken name) before name others_told (waiting_of other old.queues) (ap (among name) (agrees.lines other) ∙ parked_unwaiting other) (agrees.marks other)

    marks_then : (other : ℕ) → AreMarked longer (waiting_of other new.queues)
    marks_then = everywhere (λ at. AreMarked longer (waiting_of at new.queues)) at_queue
        (subst (AreMarked longer) (sym moves.waits)
        (All-append (is_marked longer) (waiting_of at_queue old.queues) (awake (name, woke.job) ∷ []) (others_stay at_queue)
        (All-cons (is_marked longer) (awake (name, woke.job)) [] awake_told (All-nil (is_marked longer)))))
        (λ other away. subst (AreMarked longer) (sym (moves.others other away)) (others_stay other))

    brings_here : brings_work at_queue (writes.Woken name) before ≡ true
    brings_here = ap (λ names. nat_lt 0 (length names)) (names_like-one name (parked at_queue before) ((apart_of terms before notes).parked_distinct at_queue) is_asleep)

    runtimes_then : (other : ℕ) → runtime_of other (record old { tallies = set old.tallies at_queue placed_tally }) ≡ virtual_runtime burst other longer
    runtimes_then = everywhere (λ at. runtime_of at (record old { tallies = set old.tallies at_queue placed_tally }) ≡ virtual_runtime burst at longer) at_queue
        (ap (λ tally. tally.runtime) (get_or-set_same old.tallies at_queue placed_tally no_tally tally_there) ∙ runtime-brought old before agrees (writes.Woken name) is_still terms notes at_queue brings_here)
        (λ other away. ap (λ tally. tally.runtime) (get_or-set_other old.tallies at_queue other placed_tally no_tally away)
        ∙ runtime-still old before agrees (writes.Woken name) is_still other (brings_nothing other (not_elsewhere other away)))

    pub agrees-park_ended : Agrees burst new longer
    agrees-park_ended =
        subst (λ core. Agrees burst core longer) (sym ends.rest)
        (agrees_rearranged old before agrees (writes.Woken name) is_still new.queues (set old.tallies at_queue placed_tally) old.out old.mode lines_then parks_then marks_then runtimes_then
        (figures-same old (record old { tallies = set old.tallies at_queue placed_tally }) at_queue placed_tally tally_there refl refl) (length-set old.tallies at_queue placed_tally) moves.same_count moves.same_shares
        (other_out (λ out. known.out_not_parked at_queue name out is_asleep) old.out agrees.out) agrees.out_exists (closing_now new.queues (set old.tallies at_queue placed_tally) old.out moves.same_modes))

  -- a job that isn't out and neither waits nor is parked isn't inside
  pub absent_outside : IsAbsent name old → is_inside name before ≡ false
  absent_outside absent = false_from_ne_true _
      (λ inside.
      let parts = and_parts (is_some (queue_of name before)) (not (is_told name_ended name before)) inside in
      nowhere (queue_of name before) refl parts.0 parts.1)
    where
      not_out : (out : Option (JobOut J)) → is_name name (name_out out) ≡ false → IsJobOut out before → among name (jobs_out before) ≡ false
      not_out None away nobody = ap (among name) nobody
      not_out (Some job) away is = ap (among name) is.0 ∙ (by_test (same_name name job.name) ∙ away)
        where
          by_test : (test : Bool) → (test || false) ≡ test
          by_test true = refl
          by_test false = refl

      nowhere : (at : Option ℕ) → queue_of name before ≡ at → is_some at ≡ true → not (is_told name_ended name before) ≡ true → ⊥
      nowhere None its there going = true≢false (sym there)
      nowhere (Some queue) its there going =
          ⊎_elim (λ waits. true≢false (sym waits ∙ (ap (among name) (sym (agrees.lines queue)) ∙ absent.1.waits queue)))
          (⊎_elim (λ out. true≢false (sym out ∙ not_out old.out absent.0 agrees.out))
          (⊎_elim (λ ended. true≢false (sym going ∙ ap not ended)) (λ parks. true≢false (sym parks ∙ (ap (among name) (sym (agrees.parks queue)) ∙ absent.1.parks queue)))))
          (entered_somewhere name queue before its)
