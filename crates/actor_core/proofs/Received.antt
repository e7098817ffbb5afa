-- A core beside its journal stays recorded as an order is delivered to it: the orders by their names, the polls of a new job, and all else.
use Rattle.actor_core.proofs.Names.{same_name, cond, or_else, ◌==◌, ne_eqb, ◌≡◌, true, false, List, [], ◌∷◌, ◌++◌, refl, ◌∙◌, ap, ◌⊎◌, Option, Some, None, option_map, JobId, Note, Envelope, Order, Job, Journal, EachNote, one_name, same_as_itself}
use Rattle.actor_core.proofs.Names.{without_job, CarriesOut, DeliversAs, order_taken, note_taken, ◌+◌, sym, subst, arith, true≢false, false_from_ne_true, Terms, is_name, delivered_names, name_delivered, number_if, name_settled, MayFollow, MayStand}
use Rattle.actor_core.proofs.Names.{grows, alone_out, jobs_out, IsOld, known_of, polls_made, ℕ, ◌*◌, ◌<◌, ◌≤◌, length, ⊎_elim, zero-add, reverse, eq-eqb, given_outcomes, Meaning, IsMeaning, CoreView, inside_count, Delivered, IsSpelledOrder, IsKept}
use Rattle.actor_core.proofs.Names.{RecordedView, terms_at, IsRecorded, IsHeld, IsTaken, HasTask, OwesAfter, sum_upto, delivered_count, given_count, IsSameSeat, GivesMore, told_under, outcome_delivered, OutcomeNote, outcome_note, IsNextIn, Receives}
use Rattle.actor_core.proofs.Names.{CoreDelivers}
use Rattle.base_words.specs.declared.note.Note.TheVariants as writes
use Rattle.actor_core.proofs.Places.{everywhere}
use Rattle.actor_core.proofs.Sums.{sum_upto-one_more, sum_upto-room}
use Rattle.actor_core.proofs.CarriedOut.{HoldsOfAll, IsCarriedOut, carries_out, same_out-holds}

module _ {J : Type 0} (last : Envelope J) where
  -- under a name stands what stood there, and else the last one, if it has that name
  pub order_taken-with : (took : List (Envelope J)) (name : JobId) → order_taken (took ++ last ∷ []) name ≡ or_else (order_taken took name) (cond (same_name name last.name) (Some last.order) None)
  order_taken-with [] name = grind arith
  order_taken-with (envelope ∷ later) name = grind (arith, order_taken-with later name)

  -- what stands under a name stood there, or is the last one
  pub order_taken-parts : (took : List (Envelope J)) (name : JobId) (order : Order J) → order_taken (took ++ last ∷ []) name ≡ Some order →
      (order_taken took name ≡ Some order) ⊎ ((name ≡ last.name) × (last.order ≡ order))
  order_taken-parts [] name order at = grind (arith, one_name name last.name)
  order_taken-parts (envelope ∷ later) name order at = grind (arith, order_taken-parts later name order)

-- orders that stay under their names stay so as notes tell them
pub note_taken-stays : {J : Type 0} (old new : List (Envelope J)) (name : JobId) →
    ((order : Order J) → order_taken old name ≡ Some order → order_taken new name ≡ Some order) →
    (what : Order (Unit {0})) → note_taken old name ≡ Some what → note_taken new name ≡ Some what
note_taken-stays {J} old new name stays what at = grind (arith, stays)

-- where orders stay under their names, each delivery stays as its order calls for
pub as_sent-stays : {T : Type 0} (old new : JobId → Option (Order (Unit {0}))) →
    ((name : JobId) (order : Order (Unit {0})) → old name ≡ Some order → new name ≡ Some order) →
    (journal : Journal T) → EachNote (DeliversAs old) journal → EachNote (DeliversAs new) journal
as_sent-stays old new stays [] each = tt
as_sent-stays {T} old new stays (note ∷ before) each = (by_note note each.0, as_sent-stays old new stays before each.1)
  where
    carried : (note : Note T) (before : Journal T) → CarriesOut old note before → CarriesOut new note before
    carried note [] done = tt
    carried note (writes.Answered name answer ∷ rest) done = λ has. let was = done has in (was.0, stays name was.0 was.1, was.2)
    carried note (_ ∷ rest) done = tt

    by_note : (note : Note T) → DeliversAs old note before → DeliversAs new note before
    by_note (writes.Took name queue) sent = stays name (Job queue tt) sent
    by_note (writes.Back name reason) sent = (sent.0, stays name (Job sent.0 tt) sent.1, sent.2)
    by_note (writes.Answered name answer) sent = (sent.0, stays name sent.0 sent.1, sent.2)
    by_note (writes.Created queue weight) sent = carried (writes.Created queue weight) before sent
    by_note (writes.SharesSet queue weight) sent = carried (writes.SharesSet queue weight) before sent
    by_note (writes.QueueClosed queue mode) sent = carried (writes.QueueClosed queue mode) before sent
    by_note (writes.CoreClosed mode) sent = carried (writes.CoreClosed mode) before sent
    by_note (writes.Woken name) sent = carried (writes.Woken name) before sent
    by_note _ sent = tt

module _ {T : Type 0} (terms : Terms) where
  -- who is out was delivered before
  out_old : (name other : JobId) (before : Journal T) → EachNote (MayStand terms) before → jobs_out before ≡ other ∷ [] → same_name name other ≡ true → IsOld name before
  out_old name other before notes alone same =
      let known = known_of terms before notes in
      subst (λ one. IsOld one before) (sym (one_name name other same)) (known.entered_old other (known.out_inside other (alone_out other before alone)).entered)

  -- whose poll is settled was delivered before
  settled_old : (name : JobId) (note : Note T) (before : Journal T) → MayFollow terms note before → EachNote (MayStand terms) before →
      is_name name (name_settled note) ≡ true → IsOld name before
  settled_old name (writes.Yield other time) before law notes same = out_old name other before notes law same
  settled_old name (writes.Park other time) before law notes same = out_old name other before notes law.0 same
  settled_old name (writes.Stayed other time) before law notes same = out_old name other before notes law.0 same
  settled_old name (writes.Done other time value) before law notes same = out_old name other before notes law same
  settled_old name _ before law notes same = absurd (true≢false (sym same))

  pub polls_made-fresh : (name : JobId) (journal : Journal T) → EachNote (MayStand terms) journal → (IsOld name journal → ⊥) → polls_made name journal ≡ 0
  polls_made-fresh name [] notes fresh = refl
  polls_made-fresh name (note ∷ before) notes fresh =
      let rest = polls_made-fresh name before notes.1 (λ old. fresh (later old)) in
      let none : is_name name (name_settled note) ≡ false = false_from_ne_true _ (λ same. fresh (later (settled_old name note before notes.0.may_follow notes.1 same))) in
      ap (λ test. polls_made name before + number_if test) none ∙ (ap (λ count. count + 0) rest)
    where
      later : IsOld name before → IsOld name (note ∷ before)
      later old = omega (arith, old, grows (delivered_names name.from before) (name_delivered name.from note))

module _ {J T : Type 0} {meaning : Meaning J T} where
  -- a job keeps its task where its order stays under its name and no poll of it is told
  pub task_stays : {old new : List (Envelope J)} {before after : Journal T} {queue : ℕ} {name : JobId} {job : J} →
      ((order : Order J) → order_taken old name ≡ Some order → order_taken new name ≡ Some order) → polls_made name after ≡ polls_made name before →
      HasTask meaning old before queue name job → HasTask meaning new after queue name job
  task_stays {job = job} stays as_before task = record { sent = task.sent; task = stays (Job _ task.sent) task.task; same_task = task.same_task; owes = subst (λ count. OwesAfter meaning task.sent count job) (sym as_before) task.owes }

module _ {J T : Type 0} {meaning : Meaning J T} (old : RecordedView J T) (recorded : IsRecorded meaning old)
    (written : List (Note T)) (unpolled : (which : JobId) → polls_made which (written ++ old.journal.notes) ≡ polls_made which old.journal.notes) where
  -- all jobs keep their tasks behind notes by which no poll is settled
  pub tasks_stay : HoldsOfAll (λ queue name job. HasTask meaning old.took (written ++ old.journal.notes) queue name job) old.core.queues
  tasks_stay = record {
    waiting = λ queue place default within. task_stays (λ order at. at) (unpolled _) (recorded.tasks.waiting queue place default within);
    parked = λ queue place default within. task_stays (λ order at. at) (unpolled _) (recorded.tasks.parked queue place default within);
  }

module _ {J T : Type 0} {meaning : Meaning J T} (laws : IsMeaning meaning)
    (old : RecordedView J T) (recorded : IsRecorded meaning old) (envelope : Envelope J) (told : Option (OutcomeNote T)) (core : CoreView J) (written : List (Note T))
    (done : IsCarriedOut old envelope.name envelope.order told core written) (next : IsNextIn old envelope.name) where
  abbrev name : JobId
  name = envelope.name

  abbrev longer : Journal T
  longer = written ++ old.journal.notes

  abbrev pub received : RecordedView J T
  received = record { cap = old.cap; core = core; journal = record old.journal { notes = longer }; took = old.took ++ envelope ∷ []; lanes = old.lanes }

  counted_here : delivered_count longer name.from ≡ delivered_count old.journal.notes name.from + 1
  counted_here = done.delivered name.from ∙ ap (λ test. delivered_count old.journal.notes name.from + number_if test) (eq-eqb name.from name.from refl)

  fresh : order_taken old.took name ≡ None
  fresh = grind (arith, recorded.taken name)

  pub here : order_taken received.took name ≡ Some envelope.order
  here = order_taken-with envelope old.took name ∙ (λ i. or_else (fresh i) (cond (same_as_itself name i) (Some envelope.order) None))

  stays : (which : JobId) (order : Order J) → order_taken old.took which ≡ Some order → order_taken received.took which ≡ Some order
  stays which order at = order_taken-with envelope old.took which ∙ ap (λ found. or_else found (cond (same_name which name) (Some envelope.order) None)) at

  held_now : IsHeld core.cores old.cap (inside_count core) longer
  held_now = record { each = each; inside = subst (λ cores. inside_count core + sum_upto (given_count longer) cores ≤ sum_upto (delivered_count longer) cores) (sym done.cores) inside }
    where
      given_more : (from : ℕ) → given_count old.journal.notes from ≤ given_count longer from
      given_more from = omega (arith, ap length (done.given from), grows (given_outcomes from old.journal.notes) (told_under name told from))

      each : (from : ℕ) → from ≤ core.cores → delivered_count longer from ≤ given_count longer from + old.cap
      each = everywhere (λ at. at ≤ core.cores → delivered_count longer at ≤ given_count longer at + old.cap) name.from (λ there. omega (arith, counted_here, next.place, given_more name.from))
          (λ other away there.
          let none : number_if (name.from == other) ≡ 0 = ap number_if (ne_eqb name.from other (λ one. away (sym one))) in
          omega (arith, recorded.held.each other (omega (arith, there, done.cores)), none, done.delivered other, given_more other))

      inside : inside_count core + sum_upto (given_count longer) old.core.cores ≤ sum_upto (delivered_count longer) old.core.cores
      inside =
          grind (arith, sum_upto-one_more (delivered_count old.journal.notes) (delivered_count longer) name.from done.delivered old.core.cores next.sender, done.held, recorded.held.inside)

  taken_now : (which : JobId) (order : Order J) → order_taken received.took which ≡ Some order → IsTaken core.cores longer which
  taken_now which order at =
      ⊎_elim
      (λ was.
      let known = recorded.taken which order was in
      record { sender = rw done.cores known.sender; old = omega (arith, known.old, done.delivered which.from) })
      (λ last. subst (IsTaken core.cores longer) (sym last.0) (record { sender = rw done.cores next.sender; old = omega (arith, counted_here, next.next) }))
      (order_taken-parts envelope old.took which order at)

  abbrev Task : ℕ → JobId → J → Type 0
  Task queue which job = HasTask meaning received.took longer queue which job

  tasks_now : HoldsOfAll Task core.queues
  tasks_now = done.entered Task (record {
    waiting = λ queue place default within. task_stays (stays _) (done.polls _) (recorded.tasks.waiting queue place default within);
    parked = λ queue place default within. task_stays (stays _) (done.polls _) (recorded.tasks.parked queue place default within);
  }) came
    where
      came : (queue : ℕ) (job : J) → envelope.order ≡ Job queue job → Task queue name job
      came queue job is =
          let never = done.polls name ∙ polls_made-fresh (terms_at old) name old.journal.notes recorded.kept.notes (λ late. omega (arith, late, next.next)) in
          record {
            sent = job;
            task = here ∙ ap Some is;
            same_task = laws.same_task.itself job;
            owes = subst (λ count. OwesAfter meaning job count job) (sym never)
                (λ more calls step told owed. subst (λ place. meaning.polls job (meaning.made job + place) calls step told) (sym (zero-add more)) owed);
          }

  terms_now : terms_at old ≡ terms_at received
  terms_now = λ i. record { actor = sym done.number i; cores = sym done.cores i; cap = old.cap; burst = sym done.burst i }

  pub recorded_now : IsRecorded meaning received
  recorded_now = record {
    kept = subst (λ terms. IsKept terms core longer) terms_now done.kept;
    room = done.room ∙ (recorded.room ∙ ap (λ cores. (cores + 1) * old.cap) (sym done.cores));
    held = held_now;
    taken = taken_now;
    as_sent = done.as_sent (note_taken received.took) (ap (option_map without_job) here)
        (as_sent-stays (note_taken old.took) (note_taken received.took) (λ which. note_taken-stays old.took received.took which (stays which)) old.journal.notes recorded.as_sent);
    tasks = record { waiting = tasks_now.waiting; parked = tasks_now.parked };
    out = same_out-holds Task old.core.out core.out done.same_out (λ job at. task_stays (stays job.name) (done.polls job.name) (recorded.out job at));
  }

-- a core has room for what is delivered next
pub room_in : {J T : Type 0} {meaning : Meaning J T} (view : RecordedView J T) (name : JobId) →
    IsRecorded meaning view → IsNextIn view name → inside_count view.core < view.core.queues.room
room_in view name recorded next =
    let left : sum_upto (delivered_count view.journal.notes) view.core.cores < sum_upto (given_count view.journal.notes) view.core.cores + (view.core.cores + 1) * view.cap =
    sum_upto-room (delivered_count view.journal.notes) (given_count view.journal.notes) view.cap name.from view.core.cores next.sender recorded.held.each next.place in
    omega (arith, left, recorded.held.inside, recorded.room)

-- what a call leaves that received an order
pub record HasReceived {J T : Type 0} (meaning : Meaning J T) (envelope : Envelope J) (told : Option (OutcomeNote T)) (old new : RecordedView J T) : Type 0 where
  pub sound : IsRecorded meaning new
  pub seat : IsSameSeat old new
  pub receives : Receives old envelope new
  pub gives : GivesMore (told_under envelope.name told) old.journal.notes new.journal.notes
  pub stands : order_taken new.took envelope.name ≡ Some envelope.order

-- what a call that received an order knows of its parts
module _ {J T : Type 0} {meaning : Meaning J T} (laws : IsMeaning meaning)
    (old : RecordedView J T) (recorded : IsRecorded meaning old) (envelope : Envelope J) (next : IsNextIn old envelope.name)
    (spelled : IsSpelledOrder (without_job envelope.order)) (core : CoreView J) (delivered : Delivered J) (written : List (Note T))
    (does : CoreDelivers old.core envelope.name envelope.order delivered core written) where
  abbrev told : Option (OutcomeNote T)
  told = option_map outcome_note (outcome_delivered {T = T} delivered)

  pub done : IsCarriedOut old envelope.name envelope.order told core (reverse written)
  done = carries_out old envelope.name recorded.kept (assumption next) next.sender core envelope.order spelled delivered written does

  module _ (new : RecordedView J T) (is : new ≡ record { cap = old.cap; core = core; journal = record old.journal { notes = reverse written ++ old.journal.notes }; took = old.took ++ envelope ∷ []; lanes = old.lanes }) where
    pub received_now : HasReceived meaning envelope told old new
    received_now = subst (HasReceived meaning envelope told old) (sym is) (record {
      sound = recorded_now laws old recorded envelope told core (reverse written) done next;
      seat = record { number = done.number; cores = done.cores; cap = refl; burst = done.burst; room = refl; passed = refl };
      receives = record { notes = reverse written; delivery = done.delivery; journal = refl; took = refl; out = done.out; lists = done.lists; delivered = done.delivered };
      gives = done.given;
      stands = here laws old recorded envelope told core (reverse written) done next;
    })
