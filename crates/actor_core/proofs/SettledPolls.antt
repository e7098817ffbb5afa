-- A core beside its journal settles the poll of the job that is out, and the end of the job's sender gets the outcome.
use Rattle.actor_core.proofs.Names.{◌≡◌, ℕ, ◌+◌, ◌≤◌, Bool, true, false, List, [], ◌∷◌, ◌++◌, length, refl, sym, ◌∙◌, ap, subst, arith, add-zero, ◌==◌, Option, Some, None, All, is_some, unwrap_or, false_from_ne_true, length-append, All-append}
use Rattle.actor_core.proofs.Names.{All-cons, All-nil, JobId, Note, same_name, Journal, jobs_out, number_if, alone_out, among, same_as_itself, Step, Call, Meaning, AfterPoll, IsMeaning, IfDone, IfUndone, OwesOn, waiting_of, held_count, ChangesLine}
use Rattle.actor_core.proofs.Names.{Settled, Yielded, CoreView, JobOut, inside_count, IsTaskOut, settled_view, IsJobOut, polls_made, settle_note, RecordedView, terms_at, IsRecorded, HasTask, note_taken, OwesAfter, sum_upto, given_count, IsOut}
use Rattle.actor_core.proofs.Names.{IsPolled, Settles, Job, without_job, known_of, option_map, Inward, IsInOf, IsUngiven, told_under, outcome_note, outcome_settled, length-with_last_if, given_outcomes, ChangesParks, HaveTasks, Marks, Parked, Stayed}
use Rattle.actor_core.proofs.Names.{names_parked, parked_of, settled_of, stays, stays_in_line, with_last, QueuesView, none-some, Finished, CoreSettles, names_of}
use Rattle.base_jobs.specs.declared.job.Step.TheVariants as steps
use Rattle.actor_core.proofs.Places.{each_line, each_parks}
use Rattle.actor_core.proofs.Sums.{sum_upto-at_most_one, sum_upto-same}
use Rattle.actor_core.specs.Agreement.{IsKept}
use Rattle.actor_core.proofs.Inside.{HoldsOfAll}
use Rattle.actor_core.proofs.Kept.{stays-agrees}
use Rattle.actor_core.proofs.KeptPolls.{kept-done, kept-park, kept-stayed, kept-yield}
use Rattle.actor_core.proofs.Marks.{among-place, other_way, parked-place}
use Rattle.base_words.specs.declared.note.OutcomeNote.TheVariants as outcomes
use Rattle.actor_core.proofs.EndsKept.{ungiven_if, not_given}
use Rattle.actor_core.proofs.Received.{task_stays}
use Rattle.actor_core.proofs.QuietSteps.{given_settled, quiet-settled, IsQuietStep, stepped, everyone, HasDone, done_so}

-- what is given by the note is the outcome that the caller is told
pub given_told : (J : Type 0) {T : Type 0} (name : JobId) (settled : Settled T) (sender : ℕ) →
    given_settled name settled sender ≡ told_under name (option_map outcome_note (outcome_settled {J = J} settled)) sender
given_told J name (Finished answer) sender = refl
given_told J name Yielded sender = refl
given_told J name Parked sender = refl
given_told J name Stayed sender = refl

pub task_out : {J T : Type 0} {meaning : Meaning J T} → IsMeaning meaning → (who : Option (JobOut J)) (job : J) → IsOut who job → IsTaskOut meaning who job
task_out laws None job is = absurd is
task_out {meaning = meaning} laws (Some out) job is = subst (meaning.same out.job) is (laws.same_task.itself out.job)

module _ {J T : Type 0} {meaning : Meaning J T} (laws : IsMeaning meaning)
    (old : RecordedView J T) (recorded : IsRecorded meaning old) (out : JobOut J) (was_out : old.core.out ≡ Some out)
    (core : CoreView J) (ran : AfterPoll J T) (its_job : out.job ≡ ran.before) (polled : IsPolled meaning ran) (spent : ℕ) where
  abbrev time : ℕ
  time = unwrap_or ran.told spent

  is_out : jobs_out old.journal.notes ≡ out.name ∷ []
  is_out = (subst (λ job. IsJobOut job old.journal.notes) was_out recorded.kept.agrees.out).0

  -- the job that is out waits nowhere
  apart : (queue : ℕ) → among out.name (names_of (waiting_of queue old.core.queues)) ≡ false
  apart queue =
      ap (among out.name) (recorded.kept.agrees.lines queue)
      ∙ false_from_ne_true _ ((known_of (terms_at old) old.journal.notes recorded.kept.notes).not_waiting queue out.name (alone_out out.name old.journal.notes is_out))

  -- and isn't parked
  awake : (queue : ℕ) → among out.name (names_parked (parked_of queue old.core.queues)) ≡ false
  awake queue =
      ap (among out.name) (recorded.kept.agrees.parks queue)
      ∙ false_from_ne_true _ ((known_of (terms_at old) old.journal.notes recorded.kept.notes).out_not_parked queue out.name (alone_out out.name old.journal.notes is_out))

  its_task : HasTask meaning old.took old.journal.notes out.queue out.name out.job
  its_task = recorded.out out was_out

  inside_old : inside_count old.core ≡ held_count old.core.queues + 1
  inside_old = ap (λ job. held_count old.core.queues + number_if (is_some job)) was_out

  module _ (settled : Settled T) where
    abbrev longer : Journal T
    longer = settle_note out.name time settled ∷ old.journal.notes

    abbrev Task : ℕ → JobId → J → Type 0
    Task queue name job = HasTask meaning old.took longer queue name job

    polls_now : (which : JobId) → polls_made which longer ≡ polls_made which old.journal.notes + number_if (same_name which out.name)
    polls_now which = grind arith

    -- who wasn't polled keeps its task and its count
    unpolled : {queue : ℕ} {name : JobId} {job : J} → same_name out.name name ≡ false → HasTask meaning old.took old.journal.notes queue name job → Task queue name job
    unpolled {name = name} other = task_stays (λ order at. at)
        (polls_now name ∙ (ap (λ test. polls_made name old.journal.notes + number_if test) (other_way out.name name other) ∙ add-zero (polls_made name old.journal.notes)))

    still_waiting : (queue : ℕ) → All (λ entry. Task queue entry.0 entry.2) (waiting_of queue old.core.queues)
    still_waiting queue place default within =
        unpolled (among-place out.name (waiting_of queue old.core.queues) (apart queue) place default within) (recorded.tasks.waiting queue place default within)

    still_parked : (queue : ℕ) → All (λ entry. Task queue entry.0 entry.1) (parked_of queue old.core.queues)
    still_parked queue place default within =
        unpolled (parked-place out.name (parked_of queue old.core.queues) (awake queue) place default within) (recorded.tasks.parked queue place default within)

    -- where nothing is given, nothing more is counted as given
    given_none : ((sender : ℕ) → given_settled out.name settled sender ≡ None) → sum_upto (given_count longer) old.core.cores ≡ sum_upto (given_count old.journal.notes) old.core.cores
    given_none silent = sum_upto-same (given_count longer) (given_count old.journal.notes) old.core.cores
        (λ sender. ap length ((quiet-settled old.journal.notes out.name time settled).given sender ∙ ap (with_last (given_outcomes sender old.journal.notes)) (silent sender)))

    abbrev SettlesIt : CoreView J → Type 0
    SettlesIt core = IsQuietStep old core (settle_note out.name time settled ∷ []) meaning everyone (given_settled out.name settled)

    -- the core that settled the poll: no job is out, and so many more of this queue are done
    settled_step : (done : ℕ) (queues : QueuesView J) → IsKept (terms_at old) (settled_view old.core out time done queues) longer → queues.room ≡ old.core.queues.room →
        held_count queues + 0 + sum_upto (given_count longer) old.core.cores ≤ inside_count old.core + sum_upto (given_count old.journal.notes) old.core.cores →
        HoldsOfAll Task queues → SettlesIt (settled_view old.core out time done queues)
    settled_step done queues kept room fewer held =
        let ungiven = λ (sender : ℕ) (inward : Inward J T) (is : IsInOf sender old inward). ungiven_settled sender inward is settled in
        let nobody : (job : JobOut J) → None ≡ Some job → HasTask meaning old.took longer job.queue job.name job.job = λ job none. absurd (none-some job none) in
        let tasks : HaveTasks meaning (stepped old (settled_view old.core out time done queues) (settle_note out.name time settled ∷ [])) = record { waiting = held.waiting; parked = held.parked } in
        assumption (quiet-settled old.journal.notes out.name time settled)
      where
        -- the job that is out was given nothing yet
        ungiven_settled : (sender : ℕ) (inward : Inward J T) → IsInOf sender old inward → (settled : Settled T) → IsUngiven (given_settled out.name settled sender) inward.given
        ungiven_settled sender inward is Yielded = tt
        ungiven_settled sender inward is Parked = tt
        ungiven_settled sender inward is Stayed = tt
        ungiven_settled sender inward is (Finished value) =
            let going_on = ((known_of (terms_at old) old.journal.notes recorded.kept.notes).out_inside out.name (alone_out out.name old.journal.notes is_out)).going_on in
            ungiven_if old sender inward is out.name (Job out.queue its_task.sent) its_task.task
            (not_given (note_taken old.took) out.name out.queue (ap (option_map without_job) its_task.task) sender old.journal.notes recorded.as_sent going_on) (outcomes.Finished value)

  -- the job wants another poll: it has its task still, with one more poll
  module _ (same_task : meaning.same out.job ran.job) (later : OwesOn meaning out.job ran.job) (settled : Settled T) where
    task_now : Task settled out.queue out.name ran.job
    task_now = record { sent = its_task.sent; task = its_task.task; same_task = laws.same_task.along its_task.sent out.job ran.job its_task.same_task same_task; owes = subst (λ count. OwesAfter meaning its_task.sent count ran.job) (sym one_more) owes_on }
      where
        one_more : polls_made out.name (longer settled) ≡ polls_made out.name old.journal.notes + 1
        one_more = polls_now settled out.name ∙ ap (λ test. polls_made out.name old.journal.notes + number_if test) (same_as_itself out.name)

        assoc : (a b : ℕ) → a + 1 + b ≡ a + (1 + b)
        assoc a b = omega arith

        owes_on : OwesAfter meaning its_task.sent (polls_made out.name old.journal.notes + 1) ran.job
        owes_on more calls step told owed_now =
            let first : meaning.polls out.job (meaning.made out.job + (1 + more)) calls step told = subst (λ place. meaning.polls out.job place calls step told) (assoc (meaning.made out.job) more) (later more calls step told owed_now) in
            subst (λ place. meaning.polls its_task.sent (meaning.made its_task.sent + place) calls step told) (sym (assoc (polls_made out.name old.journal.notes) more)) (its_task.owes (1 + more) calls step told first)

    -- it goes to the end of its line
    rejoined : (marks : Marks) → ChangesLine old.core.queues core.queues out.queue (waiting_of out.queue old.core.queues ++ (out.name, marks, ran.job) ∷ []) →
        ((sender : ℕ) → given_settled out.name settled sender ≡ None) → IsKept (terms_at old) (settled_view old.core out time 0 core.queues) (longer settled) → SettlesIt settled (settled_view old.core out time 0 core.queues)
    rejoined marks changes silent kept =
        let waiting = each_line (λ at. All (λ entry. Task settled at entry.0 entry.2)) changes
        (All-append (λ entry. Task settled out.queue entry.0 entry.2) (waiting_of out.queue old.core.queues) ((out.name, marks, ran.job) ∷ []) (still_waiting settled out.queue)
        (All-cons (λ entry. Task settled out.queue entry.0 entry.2) (out.name, marks, ran.job) [] task_now (All-nil (λ entry. Task settled out.queue entry.0 entry.2)))) (still_waiting settled) in
        let parked = λ (queue : ℕ). subst (All (λ entry. Task settled queue entry.0 entry.1)) (sym (changes.same_parks queue)) (still_parked settled queue) in
        settled_step settled 0 core.queues kept changes.same_room
        (omega (arith, given_none settled silent, inside_old, changes.held, length-append (waiting_of out.queue old.core.queues) ((out.name, marks, ran.job) ∷ [])))
        (record { waiting = waiting; parked = parked })

    -- or is parked, behind those that are
    laid_down : ChangesParks old.core.queues core.queues out.queue (parked_of out.queue old.core.queues ++ (out.name, ran.job) ∷ []) →
        ((sender : ℕ) → given_settled out.name settled sender ≡ None) → IsKept (terms_at old) (settled_view old.core out time 0 core.queues) (longer settled) → SettlesIt settled (settled_view old.core out time 0 core.queues)
    laid_down changes silent kept =
        let parked = each_parks (λ at. All (λ entry. Task settled at entry.0 entry.1)) changes
        (All-append (λ entry. Task settled out.queue entry.0 entry.1) (parked_of out.queue old.core.queues) ((out.name, ran.job) ∷ []) (still_parked settled out.queue)
        (All-cons (λ entry. Task settled out.queue entry.0 entry.1) (out.name, ran.job) [] task_now (All-nil (λ entry. Task settled out.queue entry.0 entry.1)))) (still_parked settled) in
        let waiting = λ (queue : ℕ). subst (All (λ entry. Task settled queue entry.0 entry.2)) (sym (changes.same_lines queue)) (still_waiting settled queue) in
        settled_step settled 0 core.queues kept changes.same_room
        (omega (arith, given_none settled silent, inside_old, changes.held, length-append (parked_of out.queue old.core.queues) ((out.name, ran.job) ∷ [])))
        (record { waiting = waiting; parked = parked })

  -- the job is done
  ended : (value : T) → SettlesIt (Finished value) (settled_view old.core out time 1 old.core.queues)
  ended value =
      let given_more = sum_upto-at_most_one (given_count old.journal.notes) (given_count (longer (Finished value))) out.name.from
      (λ from. length-with_last_if (given_outcomes from old.journal.notes) _ (out.name.from == from)) old.core.cores in
      settled_step (Finished value) 1 old.core.queues (kept-done (terms_at old) old.core out time old.journal.notes recorded.kept was_out value) refl
      (omega (arith, inside_old, given_more)) (record { waiting = still_waiting (Finished value); parked = still_parked (Finished value) })

  -- whatever the step
  module _ (settled : Settled T) (notes : List (Note T)) (settles : CoreSettles old.core out ran spent ran.step settled core notes) where
    its_step : (notes ≡ settle_note out.name time settled ∷ []) × (core.out ≡ None) × (settled ≡ settled_of ran.step (stays_in_line out.name old.journal.notes))
    its_step = by_step ran.step settled settles
      where
        told : (staying : Bool) → stays out old.core ≡ staying → stays_in_line out.name old.journal.notes ≡ staying
        told staying core_says = sym (stays-agrees old.core old.journal.notes recorded.kept.agrees out was_out) ∙ core_says

        by_step : (step : Step T) (settled : Settled T) → CoreSettles old.core out ran spent step settled core notes →
            (notes ≡ settle_note out.name time settled ∷ []) × (core.out ≡ None) × (settled ≡ settled_of step (stays_in_line out.name old.journal.notes))
        by_step (steps.Done value) (Finished answer) does = (does.2 ∙ ap (λ value. settle_note out.name time (Finished value) ∷ []) (sym does.0), ap (λ core. core.out) does.1, ap Finished does.0)
        by_step (steps.Done value) _ does = absurd does
        by_step steps.Yield Yielded does = (does.2, ap (λ core. core.out) does.1, refl)
        by_step steps.Yield _ does = absurd does
        by_step steps.Park Parked does = (does.3, ap (λ core. core.out) does.2, ap (settled_of steps.Park) (sym (told false does.0)))
        by_step steps.Park Stayed does = (does.3, ap (λ core. core.out) does.2, ap (settled_of steps.Park) (sym (told true does.0)))
        by_step steps.Park _ does = absurd does

    answered : IfDone ran.step (meaning.answers its_task.sent)
    answered = grind (arith, laws.answers_same out.job its_task.sent, laws.same_task.back its_task.sent out.job)

    owed : (calls : List (Call J T)) → meaning.polls ran.before (meaning.made ran.before) calls ran.step ran.told →
        meaning.polls its_task.sent (meaning.made its_task.sent + polls_made out.name old.journal.notes) calls ran.step ran.told
    owed calls owes = subst (λ place. meaning.polls its_task.sent place calls ran.step ran.told) (ap (λ count. meaning.made its_task.sent + count) (add-zero (polls_made out.name old.journal.notes)))
        (its_task.owes 0 calls ran.step ran.told (subst (λ place. meaning.polls out.job place calls ran.step ran.told) (sym (add-zero (meaning.made out.job)))
        (subst (λ job. meaning.polls job (meaning.made job) calls ran.step ran.told) (sym its_job) owes)))

    pub settled_did : HasDone meaning old core everyone (given_settled out.name settled) 1 (λ old new. Settles meaning old ran spent settled new) notes
    settled_did = done_so its_step.0
        (by_step ran.step (subst (λ job. IfUndone ran.step (meaning.same job ran.job)) (sym its_job) polled.same_task) (subst (λ job. IfUndone ran.step (OwesOn meaning job ran.job)) (sym its_job) polled.later) settled settles)
        (omega arith) (record { out = out; was_out = was_out; sent = its_task.sent; task = its_task.task; owed = owed; answered = answered; tells = its_step.2; journal = refl; out_now = its_step.1; took = refl })
      where
        by_step : (step : Step T) → IfUndone step (meaning.same out.job ran.job) → IfUndone step (OwesOn meaning out.job ran.job) → (settled : Settled T) → CoreSettles old.core out ran spent step settled core notes → SettlesIt settled core
        by_step (steps.Done value) task later (Finished answer) settles = subst (SettlesIt (Finished answer)) (sym settles.1) (ended answer)
        by_step (steps.Done value) task later _ settles = absurd settles
        by_step steps.Yield task later Yielded settles = subst (SettlesIt Yielded) (sym settles.1) (rejoined task later Yielded (record { started = true; woken = out.woken }) settles.0 (λ sender. refl)
            (kept-yield (terms_at old) old.core out time old.journal.notes recorded.kept was_out core.queues ran.job settles.0))
        by_step steps.Yield task later _ settles = absurd settles
        by_step steps.Park task later Parked settles = subst (SettlesIt Parked) (sym settles.2) (laid_down task later Parked settles.1 (λ sender. refl)
            (kept-park (terms_at old) old.core out time old.journal.notes recorded.kept was_out core.queues ran.job settles.0 settles.1))
        by_step steps.Park task later Stayed settles = subst (SettlesIt Stayed) (sym settles.2) (rejoined task later Stayed (record { started = true; woken = false }) settles.1 (λ sender. refl)
            (kept-stayed (terms_at old) old.core out time old.journal.notes recorded.kept was_out core.queues ran.job settles.0 settles.1))
        by_step steps.Park task later _ settles = absurd settles
