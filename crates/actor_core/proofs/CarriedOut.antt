-- What a core does with an order that is delivered to it, case by case, told in one form.
use Rattle.actor_core.proofs.Names.{Line, Marks, MayStand, Wake, ◌&&◌, is_inside, is_return, job_at, out_told, suc, ⊎_elim, All-append, ◌≡◌, ℕ, ◌+◌, ◌≤◌, true, false, List, [], ◌∷◌, ◌++◌, length, refl, sym, ◌∙◌, ap, subst, arith}
use Rattle.actor_core.proofs.Names.{add-zero, cond, ◌==◌, Option, Some, None, is_some, All, length-append, All-cons, All-nil, InRange, JobId, Note, Order, Job, Create, SetShares, Reason, Answer, Journal, EachNote, with_last, delivered_names}
use Rattle.actor_core.proofs.Names.{given_outcomes, number_if, refusal, IsAnswer, has_effect, IsNextDelivered, length-with_last_if, queue_count, waiting_of, held_count, CoreView, inside_count, Enters, Creates, Weighs, counted, without_job}
use Rattle.actor_core.proofs.Names.{polls_made, IsDelivery, entry_note, IsKept, DeliversAs, GivesMore, told_under, OutcomeNote, RecordedView, terms_at, sum_upto, delivered_count, given_count, le-leb, Close, CloseCore, Mode, closes, queue_mode}
use Rattle.actor_core.proofs.Names.{core_mode, created_count, mode_of, HasClosed, Agrees, inl, ◌≢◌, IfSome, reverse, IsMeaning, Fits, option_map, outcome_note, outcome_delivered, lt-leb, IsSpelledOrder, Delivered, Took}
use Rattle.base_words.specs.declared.note.Note.TheVariants as writes
use Rattle.base_words.specs.declared.order.Answer.TheVariants as answers
pub use Rattle.actor_core.specs.Ends.{KeepsLists}
use Rattle.base_words.specs.declared.note.OutcomeNote.TheVariants as outcome
use Rattle.actor_core.proofs.KeptDeliveries.{kept-took, kept-back, kept-answered, agrees-answered, kept-effect, kept-created, kept-weighed}
use Rattle.actor_core.proofs.KeptClosings.{agrees-core_closed, agrees-queue_closed, ended_if}
use Rattle.actor_core.proofs.KeptParks.{absent_outside, agrees-line_woken, agrees-out_woken, agrees-park_ended, inside-line, inside-out, inside-parked}
pub use Rattle.actor_core.proofs.Inside.{HoldsOfAll, HoldsSame, SameOut, same_out, same_out-holds, same_out-some, same_out-told}
use Rattle.actor_core.proofs.Inside.{carries-kept_wake, carries-same, carries-woken, holds-closed}
use Rattle.core_core.specs.Closing as core_says
use Rattle.core_core.specs.Waking.{EndsPark, IsAbsent, KeepsLineWake, KeepsOutWake, WakesJob}
use Rattle.actor_core.proofs.Marks.{unmarked}
use Rattle.actor_core.proofs.Places.{each_line}
use Rattle.actor_core.proofs.Sums.{sum_upto-at_most_one}
use Rattle.core_core.specs.Deliveries.{Delivers as CarriesOut}
use Rattle.core_core.specs.declared.delivery.Delivered.TheVariants.{Back, Answered}
use Rattle.actor_core.proofs.Kept.{refusal-agrees, stands_behind}
use Rattle.base_jobs.specs.Meanings.{Meaning}

-- what holds of the jobs that were inside, and of the one that came, holds of all
abbrev pub EntersAlone : {J : Type 0} → CoreView J → JobId → Order J → CoreView J → Type 1
EntersAlone {J} old name order core =
    (P : ℕ → JobId → J → Type 0) → HoldsOfAll P old.queues → ((queue : ℕ) (job : J) → order ≡ Job queue job → P queue name job) → HoldsOfAll P core.queues

-- what a core did with an order: these notes, and at most one job more is inside or one outcome is given
pub record IsCarriedOut {J T : Type 0} (old : RecordedView J T) (name : JobId) (order : Order J) (told : Option (OutcomeNote T)) (core : CoreView J) (written : List (Note T)) : Type 1 where
  pub kept : IsKept (terms_at old) core (written ++ old.journal.notes)
  pub number : core.core ≡ old.core.core
  pub cores : core.cores ≡ old.core.cores
  pub burst : core.bursts.burst ≡ old.core.bursts.burst
  pub room : core.queues.room ≡ old.core.queues.room
  pub out : core.out ≡ out_told (written ++ old.journal.notes) old.core.out
  pub same_out : SameOut old.core.out core.out
  pub lists : KeepsLists old.journal.notes (written ++ old.journal.notes)
  pub given : GivesMore (told_under name told) old.journal.notes (written ++ old.journal.notes)
  pub delivered : (sender : ℕ) → delivered_count (written ++ old.journal.notes) sender ≡ delivered_count old.journal.notes sender + number_if (name.from == sender)
  pub held : inside_count core + sum_upto (given_count (written ++ old.journal.notes)) old.core.cores
      ≤ inside_count old.core + sum_upto (given_count old.journal.notes) old.core.cores + 1
  pub polls : (which : JobId) → polls_made which (written ++ old.journal.notes) ≡ polls_made which old.journal.notes
  pub delivery : IsDelivery name order old.journal.notes written
  pub as_sent : (under : JobId → Option (Order (Unit {0}))) → under name ≡ Some (without_job order) →
      EachNote (DeliversAs under) old.journal.notes → EachNote (DeliversAs under) (written ++ old.journal.notes)
  pub entered : EntersAlone old.core name order core
  pub few : length written ≤ 2

module _ {J T : Type 0} (old : RecordedView J T) (name : JobId)
    (kept : IsKept (terms_at old) old.core old.journal.notes) (next : IsNextDelivered (terms_at old) name old.journal.notes) (sender : name.from ≤ old.core.cores) where
  abbrev journal : Journal T
  journal = old.journal.notes

  -- as many jobs are inside and outcomes are given as before, or one more
  abbrev Held : CoreView J → List (Note T) → Type 0
  Held core written = inside_count core + sum_upto (given_count (written ++ journal)) old.core.cores ≤ inside_count old.core + sum_upto (given_count journal) old.core.cores + 1

  counted_one : (from : ℕ) → length (with_last (delivered_names from journal) (cond (name.from == from) (Some name) None)) ≡ delivered_count journal from + number_if (name.from == from)
  counted_one from = length-with_last_if (delivered_names from journal) name (name.from == from)

  unpolled : (which : JobId) → polls_made which journal + 0 ≡ polls_made which journal
  unpolled which = add-zero (polls_made which journal)

  unpolled_twice : (which : JobId) → polls_made which journal + 0 + 0 ≡ polls_made which journal
  unpolled_twice which = add-zero (polls_made which journal + 0) ∙ unpolled which

  -- a job that isn't refused enters its queue
  enters_queue : (queue : ℕ) (job : J) (core : CoreView J) → refusal queue journal ≡ None → Enters old.core name queue job core → IsCarriedOut old name (Job queue job) None core (writes.Took name queue ∷ [])
  enters_queue queue job core accepted enters =
      let inside : inside_count core ≡ held_count core.queues + number_if (is_some old.core.out) = ap (λ core_now. held_count core.queues + number_if (is_some core_now.out)) enters.rest in
      let held : Held core (writes.Took name queue ∷ []) = omega (arith, inside, enters.line.held, length-append (waiting_of queue old.core.queues) ((name, unmarked, job) ∷ [])) in
      let few : 1 ≤ 2 = omega arith in
      let entered : EntersAlone old.core name (Job queue job) core = λ P was came. record {
        waiting = each_line (λ at. All (λ entry. P at entry.0 entry.2)) enters.line
            (All-append (λ entry. P queue entry.0 entry.2) (waiting_of queue old.core.queues) ((name, unmarked, job) ∷ []) (was.waiting queue)
            (All-cons (λ entry. P queue entry.0 entry.2) (name, unmarked, job) [] (came queue job refl) (All-nil (λ entry. P queue entry.0 entry.2)))) was.waiting;
        parked = λ other. subst (All (λ entry. P other entry.0 entry.1)) (sym (enters.line.same_parks other)) (was.parked other);
      } in
      let kept_now = kept-took (terms_at old) old.core name queue job journal kept next sender accepted enters.exists core.queues enters.line enters.rest in
      let stays : SameOut old.core.out core.out = subst (SameOut old.core.out) (sym (ap (λ core. core.out) enters.rest)) (same_out old.core.out) in
      assumption (
        kept_now,
        stays,
        same_out-told (writes.Took name queue ∷ journal) old.core.out core.out stays kept_now.agrees.out,
        ap (λ core. core.core) enters.rest,
        ap (λ core. core.cores) enters.rest,
        ap (λ core. core.bursts.burst) enters.rest,
        enters.line.same_room,
        counted_one,
        unpolled,
        ap (λ reason. entry_note {T = T} name queue reason ∷ []) (sym accepted),
      )

  -- a core that holds the same jobs gives this outcome to the sender
  moves_none : (order : Order J) (what : OutcomeNote T) (written : List (Note T)) (core : CoreView J) → IsKept (terms_at old) core (written ++ journal) → HoldsSame old.core core →
      KeepsLists journal (written ++ journal) → GivesMore (told_under name (Some what)) journal (written ++ journal) →
      ((from : ℕ) → delivered_count (written ++ journal) from ≡ delivered_count journal from + number_if (name.from == from)) →
      ((which : JobId) → polls_made which (written ++ journal) ≡ polls_made which journal) → IsDelivery name order journal written →
      ((under : JobId → Option (Order (Unit {0}))) → under name ≡ Some (without_job order) → EachNote (DeliversAs under) journal → EachNote (DeliversAs under) (written ++ journal)) →
      length written ≤ 2 → IsCarriedOut old name order (Some what) core written
  moves_none order what written core kept_now holds lists given delivered polls delivery as_sent few =
      let inside : inside_count core ≡ inside_count old.core = λ i. holds.same_held i + number_if (same_out-some old.core.out core.out holds.out i) in
      let one_given = sum_upto-at_most_one (given_count journal) (given_count (written ++ journal)) name.from
      (λ from. ap length (given from) ∙ length-with_last_if (given_outcomes from journal) _ (name.from == from)) old.core.cores in
      let held : Held core written = omega (arith, inside, one_given) in
      let entered : EntersAlone old.core name order core = λ P was came. holds.carries P was in
      assumption (same_out-told (written ++ journal) old.core.out core.out holds.out kept_now.agrees.out)

  -- the core that has counted the delivery
  abbrev middle : CoreView J
  middle = record old.core { delivered = counted name old.core }

  -- the core that has counted the delivery holds the same jobs as before
  holds_middle : HoldsSame old.core middle
  holds_middle = record { number = refl; cores = refl; burst = refl; room = refl; same_held = refl; carries = λ P was. was; out = same_out old.core.out }

  -- a job that is refused goes back
  goes_back : (queue : ℕ) (job : J) (reason : Reason) → refusal queue journal ≡ Some reason → IsCarriedOut old name (Job queue job) (Some (outcome.Returned reason)) middle (writes.Back name reason ∷ [])
  goes_back queue job reason refused =
      moves_none (Job queue job) (outcome.Returned reason) (writes.Back name reason ∷ []) middle (kept-back (terms_at old) old.core middle name journal kept next sender refl queue reason refused) holds_middle (assumption)
      (λ from. refl) counted_one unpolled (ap (λ reason. entry_note {T = T} name queue reason ∷ []) (sym refused)) (λ under at before. ((queue, at, refused), before)) (omega arith)

  -- a command is answered, and has no effect
  answers_alone : (order : Order J) (answer : Answer) → IsAnswer name.to (without_job order) answer journal → has_effect answer ≡ false →
      (IsAnswer name.to (without_job order) answer journal → IsDelivery name order journal (writes.Answered name answer ∷ [])) → IsCarriedOut old name order (Some (outcome.Answered answer)) middle (writes.Answered name answer ∷ [])
  answers_alone order answer right plain tells =
      moves_none order (outcome.Answered answer) (writes.Answered name answer ∷ []) middle (kept-answered (terms_at old) old.core middle name journal kept next sender refl (without_job order) answer right plain) holds_middle (assumption)
      (λ from. refl) counted_one unpolled (tells right) (λ under at before. ((without_job order, at, right), before)) (omega arith)

  module _ (core : CoreView J) where
    -- a queue is created
    creates_queue : (queue weight : ℕ) → InRange weight → queue ≡ queue_count old.core.queues → Creates old.core weight core → core.delivered ≡ counted name old.core →
        IsCarriedOut old name (Create weight) (Some (outcome.Answered (answers.Created queue))) core (writes.Created queue weight ∷ writes.Answered name (answers.Created queue) ∷ [])
    creates_queue queue weight in_range number_is creates now =
        let answered = kept-created (terms_at old) old.core core name queue weight journal kept next sender in_range now number_is creates in
        let holds : HoldsSame old.core core = subst (HoldsSame old.core) (sym creates.rest)
        (record { number = refl; cores = refl; burst = refl; room = creates.added.same_room; same_held = creates.added.same_held; carries = carries-same creates.added.same_lines creates.added.same_parks; out = same_out old.core.out }) in
        moves_none (Create weight) (outcome.Answered (answers.Created queue)) (writes.Created queue weight ∷ writes.Answered name (answers.Created queue) ∷ []) core answered.1 holds (assumption)
        (λ from. refl) counted_one unpolled_twice (answers.Created queue, answered.0, refl) (λ under at before. (λ has. (Create weight, at, refl), ((Create weight, at, answered.0), before))) (omega arith)

    -- a queue gets shares
    sets_shares : (queue weight : ℕ) → InRange weight → Weighs old.core queue weight core → core.delivered ≡ counted name old.core →
        IsCarriedOut old name (SetShares queue weight) (Some (outcome.Answered answers.SharesSet)) core (writes.SharesSet queue weight ∷ writes.Answered name answers.SharesSet ∷ [])
    sets_shares queue weight in_range weighs now =
        let answered = kept-weighed (terms_at old) old.core core name queue weight journal kept next sender in_range now weighs in
        let holds : HoldsSame old.core core = subst (HoldsSame old.core) (sym weighs.rest)
        (record { number = refl; cores = refl; burst = refl; room = weighs.shares.same_room; same_held = weighs.shares.same_held; carries = carries-same weighs.shares.same_lines weighs.shares.same_parks; out = same_out old.core.out }) in
        moves_none (SetShares queue weight) (outcome.Answered answers.SharesSet) (writes.SharesSet queue weight ∷ writes.Answered name answers.SharesSet ∷ []) core answered.1 holds (assumption)
        (λ from. refl) counted_one unpolled_twice (answers.SharesSet, answered.0, refl) (λ under at before. (λ has. (SetShares queue weight, at, refl), ((SetShares queue weight, at, answered.0), before))) (omega arith)

  from_middle : (core : CoreView J) → HoldsSame middle core → HoldsSame old.core core
  from_middle core holds = record { number = holds.number; cores = holds.cores; burst = holds.burst; room = holds.room; same_held = holds.same_held; carries = holds.carries; out = holds.out }

  -- the answer to a command, which may stand
  module _ (order : Order (Unit {0})) (answer : Answer) (right : IsAnswer name.to order answer journal) where
    answered_notes : EachNote (MayStand (terms_at old)) (writes.Answered name answer ∷ journal)
    answered_notes = (stands_behind (terms_at old) (writes.Answered name answer) kept kept.is_core (next, (order, right)) refl tt, kept.notes)

  answered_agrees : (answer : Answer) → Agrees old.core.bursts.burst middle (writes.Answered name answer ∷ journal)
  answered_agrees answer = agrees-answered (terms_at old) old.core middle name journal kept next sender refl answer

  -- a queue is closed, and its parks may end
  closes_queue : (queue : ℕ) (mode : Mode) (closed core : CoreView J) → closes (mode_of queue old.core.queues) mode ≡ true → HasClosed middle queue mode closed →
      core_says.EndsParksIf (is_return mode) closed (λ other. queue == other) core →
      IsCarriedOut old name (Close queue mode) (Some (outcome.Answered answers.Closed)) core (writes.QueueClosed queue mode ∷ writes.Answered name answers.Closed ∷ [])
  closes_queue queue mode closed core changes has ended =
      let exists : queue ≤ created_count journal = omega (arith, has.exists, kept.agrees.last) in
      let changes_told : closes (queue_mode queue journal) mode ≡ true = ap (λ was. closes was mode) (sym (kept.agrees.closing.modes queue)) ∙ changes in
      let right : IsAnswer name.to (Close queue mode) answers.Closed journal = rw (le-leb queue (created_count journal) exists, changes_told) refl in
      let is = has.rest ∙ ap (λ mode. record middle { queues = closed.queues; mode = mode }) (sym (ap (λ core. core.mode) has.rest)) in
      let holds = holds-closed middle closed core (λ other. is_return mode && (queue == other)) is has.closed.same_lines has.closed.same_parks has.closed.same_room has.closed.same_held
      (ended_if closed core (λ other. queue == other) (is_return mode) ended) in
      let kept_now = kept-effect (terms_at old) old.core middle name journal kept next sender refl (Close queue mode) answers.Closed right (writes.QueueClosed queue mode)
      (agrees-queue_closed (terms_at old) middle core (writes.Answered name answers.Closed ∷ journal) (answered_notes (Close queue mode) answers.Closed right) (answered_agrees answers.Closed) queue mode closed has ended)
      (record { may_follow = (exists, changes_told); turn = refl; effect = refl; writer = kept.is_core }) refl refl in
      moves_none (Close queue mode) (outcome.Answered answers.Closed) (writes.QueueClosed queue mode ∷ writes.Answered name answers.Closed ∷ []) core kept_now (from_middle core holds) (assumption)
      (λ from. refl) counted_one unpolled_twice (answers.Closed, right, refl) (λ under at before. (λ has. (Close queue mode, at, refl), ((Close queue mode, at, right), before))) (omega arith)

  -- the core is closed, and all parks may end
  closes_core : (mode : Mode) (core : CoreView J) → closes old.core.mode mode ≡ true → core_says.EndsParksIf (is_return mode) (record middle { mode = Some mode }) (λ queue. true) core →
      IsCarriedOut old name (CloseCore mode) (Some (outcome.Answered answers.Closed)) core (writes.CoreClosed mode ∷ writes.Answered name answers.Closed ∷ [])
  closes_core mode core changes ended =
      let changes_told : closes (core_mode journal) mode ≡ true = ap (λ was. closes was mode) (sym kept.agrees.closing.mode) ∙ changes in
      let right : IsAnswer name.to (CloseCore mode) answers.Closed journal = rw changes_told refl in
      let holds = holds-closed middle (record middle { mode = Some mode }) core (λ queue. is_return mode && true) refl (λ queue. refl) (λ queue. refl) refl refl
      (ended_if (record middle { mode = Some mode }) core (λ queue. true) (is_return mode) ended) in
      let kept_now = kept-effect (terms_at old) old.core middle name journal kept next sender refl (CloseCore mode) answers.Closed right (writes.CoreClosed mode)
      (agrees-core_closed (terms_at old) middle core (writes.Answered name answers.Closed ∷ journal) (answered_notes (CloseCore mode) answers.Closed right) (answered_agrees answers.Closed) mode ended)
      (record { may_follow = changes_told; turn = refl; effect = refl; writer = kept.is_core }) refl refl in
      moves_none (CloseCore mode) (outcome.Answered answers.Closed) (writes.CoreClosed mode ∷ writes.Answered name answers.Closed ∷ []) core kept_now (from_middle core holds) (assumption)
      (λ from. refl) counted_one unpolled_twice (answers.Closed, right, refl) (λ under at before. (λ has. (CloseCore mode, at, refl), ((CloseCore mode, at, right), before))) (omega arith)

  -- a job that is inside is woken
  module _ (actor number : ℕ) where
    abbrev job : JobId
    job = job_at name.to actor number

    wakes_job : (core : CoreView J) → HoldsSame old.core core → Agrees old.core.bursts.burst core (writes.Woken job ∷ writes.Answered name answers.Woken ∷ journal) → is_inside job journal ≡ true →
        IsCarriedOut old name (Wake actor number) (Some (outcome.Answered answers.Woken)) core (writes.Woken job ∷ writes.Answered name answers.Woken ∷ [])
    wakes_job core holds agrees inside =
        let right : IsAnswer name.to (Wake actor number) answers.Woken journal = ap (λ test. cond test answers.Woken answers.NoJob) (sym inside) in
        let kept_now = kept-effect (terms_at old) old.core middle name journal kept next sender refl (Wake actor number) answers.Woken right (writes.Woken job) agrees
        (record { may_follow = inside; turn = refl; effect = refl; writer = kept.is_core }) refl refl in
        moves_none (Wake actor number) (outcome.Answered answers.Woken) (writes.Woken job ∷ writes.Answered name answers.Woken ∷ []) core kept_now holds (assumption)
        (λ from. refl) counted_one unpolled_twice (answers.Woken, right, refl) (λ under at before. (λ has. (Wake actor number, at, refl), ((Wake actor number, at, right), before))) (omega arith)

    woken_notes : is_inside job journal ≡ true → EachNote (MayStand (terms_at old)) (writes.Answered name answers.Woken ∷ journal)
    woken_notes inside = answered_notes (Wake actor number) answers.Woken (ap (λ test. cond test answers.Woken answers.NoJob) (sym inside))

    -- it is the one that is out, one that waits, or one that is parked
    wakes_out : (core : CoreView J) → KeepsOutWake middle job core → IsCarriedOut old name (Wake actor number) (Some (outcome.Answered answers.Woken)) core (writes.Woken job ∷ writes.Answered name answers.Woken ∷ [])
    wakes_out core keeps =
        let inside = inside-out (terms_at old) old.core job journal kept.notes kept.agrees keeps.out keeps.was_out keeps.named in
        let holds : HoldsSame old.core core = subst (HoldsSame old.core) (sym keeps.rest)
        (record { number = refl; cores = refl; burst = refl; room = refl; same_held = refl; carries = λ P was. was; out = subst (λ out. SameOut out (Some (record keeps.out { woken = true }))) (sym keeps.was_out) (true, refl) }) in
        wakes_job core holds (agrees-out_woken (terms_at old) middle job (writes.Answered name answers.Woken ∷ journal) (woken_notes inside) (answered_agrees answers.Woken) core keeps) inside

    wakes_line : (core : CoreView J) → KeepsLineWake middle job core → IsCarriedOut old name (Wake actor number) (Some (outcome.Answered answers.Woken)) core (writes.Woken job ∷ writes.Answered name answers.Woken ∷ [])
    wakes_line core wakes =
        let inside = inside-line (terms_at old) old.core job journal kept.notes kept.agrees wakes.keeps in
        let held : held_count core.queues ≡ held_count old.core.queues = omega (arith, wakes.keeps.line.held, ap length wakes.keeps.was, same_length wakes.keeps.before wakes.keeps.marks (record wakes.keeps.marks { woken = true }) wakes.keeps.job wakes.keeps.behind) in
        let holds : HoldsSame old.core core = subst (HoldsSame old.core) (sym wakes.rest) (record { number = refl; cores = refl; burst = refl; room = wakes.keeps.line.same_room; same_held = held; carries = carries-kept_wake job wakes.keeps; out = same_out old.core.out }) in
        wakes_job core holds (agrees-line_woken (terms_at old) middle job (writes.Answered name answers.Woken ∷ journal) (woken_notes inside) (answered_agrees answers.Woken) core wakes) inside
      where
        same_length : (front : Line J) (was now : Marks) (its : J) (rest : Line J) → length (front ++ (job, now, its) ∷ rest) ≡ length (front ++ (job, was, its) ∷ rest)
        same_length [] was now its rest = refl
        same_length (first ∷ front) was now its rest = ap suc (same_length front was now its rest)

    wakes_parked : (core : CoreView J) → EndsPark middle job core → IsCarriedOut old name (Wake actor number) (Some (outcome.Answered answers.Woken)) core (writes.Woken job ∷ writes.Answered name answers.Woken ∷ [])
    wakes_parked core ends =
        let inside = inside-parked (terms_at old) old.core job journal kept.notes kept.agrees ends.queue ends.wakes in
        let holds : HoldsSame old.core core = subst (HoldsSame old.core) (sym ends.rest)
        (record { number = refl; cores = refl; burst = refl; room = ends.wakes.moves.same_room; same_held = ends.wakes.moves.same_held; carries = carries-woken job ends.queue ends.wakes; out = same_out old.core.out }) in
        wakes_job core holds (agrees-park_ended (terms_at old) middle job (writes.Answered name answers.Woken ∷ journal) (woken_notes inside) (answered_agrees answers.Woken) core ends) inside

    wakes : (core : CoreView J) → WakesJob middle job core → IsCarriedOut old name (Wake actor number) (Some (outcome.Answered answers.Woken)) core (writes.Woken job ∷ writes.Answered name answers.Woken ∷ [])
    wakes core did = ⊎_elim (wakes_out core) (λ other. ⊎_elim (wakes_line core) (wakes_parked core) other.1) did

    -- a job that isn't inside is woken by nobody
    wakes_none : IsAbsent job middle → IsAnswer name.to (Wake actor number) answers.NoJob journal
    wakes_none absent =
        ap (λ test. cond test answers.Woken answers.NoJob) (sym (absent_outside (terms_at old) old.core job journal kept.notes kept.agrees absent))

    -- the core names the job by its own number
    same_job : job_at old.core.core actor number ≡ job
    same_job = ap (λ core. job_at core actor number) (sym next.receiver)

  -- a creation that is refused, by why
  closed_answer : old.core.mode ≢ None → (weight : ℕ) → IsAnswer name.to (Create weight) answers.CoreClosing journal
  closed_answer closed weight = grind (arith, kept.agrees.closing.mode)

  module _ (core : CoreView J) where
    abbrev Done : Order J → Delivered J → CoreView J → List (Note T) → Type 1
    Done order delivered core written = IsCarriedOut old name order (option_map outcome_note (outcome_delivered {T = T} delivered)) core (reverse written)

    -- this core and these notes are those of the step
    placed : (order : Order J) (delivered : Delivered J) {core_now : CoreView J} {notes written : List (Note T)} → core ≡ core_now → written ≡ notes → Done order delivered core_now notes → Done order delivered core written
    placed order delivered {notes = notes} core_is written_is done = subst (Done order delivered core) (sym written_is) (subst (λ core. Done order delivered core notes) (sym core_is) done)

    -- a command that is refused
    refused : (order : Order J) (answer : Answer) {written : List (Note T)} → core ≡ middle → written ≡ writes.Answered name answer ∷ [] → IsAnswer name.to (without_job order) answer journal → has_effect answer ≡ false →
        (IsAnswer name.to (without_job order) answer journal → IsDelivery name order journal (writes.Answered name answer ∷ [])) → Done order (Answered answer) core written
    refused order answer core_is written_is right plain tells = placed order (Answered answer) core_is written_is (answers_alone order answer right plain tells)

    -- whatever the core does with the order
    pub carries_out : (order : Order J) → IsSpelledOrder (without_job order) → (delivered : Delivered J) (written : List (Note T)) →
        CarriesOut old.core name order delivered core written → IsCarriedOut old name order (option_map outcome_note (outcome_delivered {T = T} delivered)) core (reverse written)
    carries_out (Job queue job) spelled Took written does =
        placed (Job queue job) Took refl does.2 (enters_queue queue job core (sym (refusal-agrees old.core journal kept.agrees.closing kept.agrees.last queue) ∙ does.0) does.1)
    carries_out (Job queue job) spelled (Back reason back) written does =
        placed (Job queue job) (Back reason back) does.2 does.3 (goes_back queue job reason (sym (refusal-agrees old.core journal kept.agrees.closing kept.agrees.last queue) ∙ does.0))
    carries_out (Job queue job) spelled (Answered answer) written does = absurd does
    carries_out (Create weight) spelled (Answered (answers.Created queue)) written does =
        placed (Create weight) (Answered (answers.Created queue)) refl does.3 (creates_queue core queue weight spelled does.0 does.1 does.2)
    carries_out (Create weight) spelled (Answered answers.CoreClosing) written does =
        refused (Create weight) answers.CoreClosing does.1 does.2 (closed_answer does.0 weight) refl (λ right. (answers.CoreClosing, right, refl))
    carries_out (Create weight) spelled (Answered answers.TooMany) written does =
        refused (Create weight) answers.TooMany does.2 does.3 (rw (sym kept.agrees.closing.mode ∙ does.0, le-leb 255 (created_count journal) (omega (arith, does.1, kept.agrees.last))) refl) refl (λ right. (answers.TooMany, right, refl))
    carries_out (Create weight) spelled (Answered answers.NoMemory) written does =
        refused (Create weight) answers.NoMemory does.2 does.3 (rw (sym kept.agrees.closing.mode ∙ does.0, lt-leb 255 (created_count journal) (omega (arith, does.1, kept.agrees.last))) (inl refl)) refl (λ right. (answers.NoMemory, right, refl))
    carries_out (Create weight) spelled _ written does = absurd does
    carries_out (SetShares queue weight) spelled (Answered answers.SharesSet) written does =
        placed (SetShares queue weight) (Answered answers.SharesSet) refl does.2 (sets_shares core queue weight spelled.1 does.0 does.1)
    carries_out (SetShares queue weight) spelled (Answered answers.NoQueue) written does =
        refused (SetShares queue weight) answers.NoQueue does.1 does.2 (rw (lt-leb queue (created_count journal) (omega (arith, does.0, kept.agrees.last))) refl) refl (λ right. (answers.NoQueue, right, refl))
    carries_out (SetShares queue weight) spelled _ written does = absurd does
    carries_out (Close queue mode) spelled (Answered answers.Closed) written does =
        placed (Close queue mode) (Answered answers.Closed) refl (does.2 ∙ ap (λ effect. writes.Answered name answers.Closed ∷ effect) does.1.2) (closes_queue queue mode does.1.1.0 core does.1.0 does.1.1.1 does.1.1.2)
    carries_out (Close queue mode) spelled (Answered answers.AlreadyClosed) written does =
        refused (Close queue mode) answers.AlreadyClosed does.1.2 (does.2 ∙ ap (λ effect. writes.Answered name answers.AlreadyClosed ∷ effect) does.1.3)
        (rw (le-leb queue (created_count journal) (omega (arith, does.1.0, kept.agrees.last)), ← kept.agrees.closing.modes queue, does.1.1) refl) refl (λ right. (answers.AlreadyClosed, right, refl))
    carries_out (Close queue mode) spelled (Answered answers.NoQueue) written does =
        refused (Close queue mode) answers.NoQueue does.1.1 (does.2 ∙ ap (λ effect. writes.Answered name answers.NoQueue ∷ effect) does.1.2)
        (rw (lt-leb queue (created_count journal) (omega (arith, does.1.0, kept.agrees.last))) refl) refl (λ right. (answers.NoQueue, right, refl))
    carries_out (Close queue mode) spelled (Answered _) written does = absurd does.1
    carries_out (Close queue mode) spelled _ written does = absurd does
    carries_out (CloseCore mode) spelled (Answered answers.Closed) written does =
        placed (CloseCore mode) (Answered answers.Closed) refl (does.2 ∙ ap (λ effect. writes.Answered name answers.Closed ∷ effect) does.1.2) (closes_core mode core does.1.0 does.1.1)
    carries_out (CloseCore mode) spelled (Answered answers.AlreadyClosed) written does =
        refused (CloseCore mode) answers.AlreadyClosed does.1.1 (does.2 ∙ ap (λ effect. writes.Answered name answers.AlreadyClosed ∷ effect) does.1.2)
        (rw (← kept.agrees.closing.mode, does.1.0) refl) refl (λ right. (answers.AlreadyClosed, right, refl))
    carries_out (CloseCore mode) spelled _ written does = absurd does
    carries_out (Wake actor number) spelled (Answered answers.Woken) written does =
        placed (Wake actor number) (Answered answers.Woken) refl (does.1 ∙ ap (λ job. writes.Answered name answers.Woken ∷ writes.Woken job ∷ []) (same_job actor number))
        (wakes actor number core (subst (λ job. WakesJob middle job core) (same_job actor number) does.0))
    carries_out (Wake actor number) spelled (Answered answers.NoJob) written does =
        refused (Wake actor number) answers.NoJob does.0.1 does.1 (wakes_none actor number (subst (λ job. IsAbsent job middle) (same_job actor number) does.0.0)) refl (λ right. (answers.NoJob, right, refl))
    carries_out (Wake actor number) spelled _ written does = absurd does

-- the outcome of a delivery fits its order
module _ {J T : Type 0} (meaning : Meaning J T) (laws : IsMeaning meaning) (old core : CoreView J) (name : JobId) (written : List (Note T)) where
  pub fits_delivered : (order : Order J) (delivered : Delivered J) → CarriesOut old name order delivered core written → IfSome (outcome_delivered {T = T} delivered) (Fits meaning order)
  fits_delivered order delivered does = grind (arith, laws.same_task.itself)
