-- The head of a line goes out or back: what its journal tells of it, and what stays of all other jobs.
use Rattle.actor_core.proofs.AgreementNames.{Line, Marks, brings_work, is_wake_kept, marks_told, name_parked, name_parking, parked, still_parked, unparked, ⊎_elim, cases_lt, get_or_past, All-head, All-tail, same_Some, CoreView, JobOut, known_of}
use Rattle.actor_core.proofs.AgreementNames.{Distinct, apart_of, line-turn, line-turn_elsewhere, among, is_told-start_elsewhere, return_reason, name_started, jobs_out, name_joining, name_leaving, charge_noted, queue_of, AreMarked, IsJobOut, IsKept}
use Rattle.actor_core.proofs.AgreementNames.{names_of, JobId, Journal, None, Note, Option, Some, Terms, [], ap, arith, effect_awaited, false, false_from_ne_true, is_told, queue_just_picked, same_as_itself, same_name, subst, sym, ℕ, ◌<◌, ◌∙◌, ◌∷◌}
use Rattle.actor_core.proofs.AgreementNames.{◌≡◌, ChangesLine, QueuesView, no_queue, line, queue_count, waiting_of}
use Rattle.base_words.specs.declared.note.Note.TheVariants as writes
use Rattle.core_core.specs.Closing as core
use Rattle.actor_core.proofs.Places.{each_line, everywhere}
use Rattle.actor_core.proofs.Kept.{IsPlain, return_reason-agrees}
use Rattle.actor_core.proofs.Marks.{is_marked}

module _ {T : Type 0} (name : JobId) (before : Journal T) where
  -- who is another than the one that starts is marked as before
  pub start_elsewhere : (other : JobId) → same_name other name ≡ false → marks_told other (writes.Start name ∷ before) ≡ marks_told other before
  start_elsewhere other apart = λ i. record { started = is_told-start_elsewhere name other before apart i; woken = is_wake_kept other before }

-- a note that takes the job out of its line, and costs nothing
pub record TakesHead {T : Type 0} (name : JobId) (note : Note T) (before : Journal T) : Type 0 where
  pub leaves : name_leaving note ≡ Some name
  pub joins : (queue : ℕ) → name_joining queue note before ≡ None
  pub brings : (queue : ℕ) → brings_work queue note before ≡ false
  pub costs : (burst queue : ℕ) → charge_noted burst queue note before ≡ 0
  pub ends : (queue : ℕ) → unparked queue note (parked queue before) ≡ []
  pub still : (queue : ℕ) → still_parked queue note (parked queue before) ≡ parked queue before
  pub parks : name_parked note ≡ None
  pub parks_here : (queue : ℕ) → name_parking queue note before ≡ None
  pub plain : IsPlain note before
  pub no_pick : queue_just_picked (note ∷ before) ≡ None
  pub no_answer : effect_awaited (note ∷ before) ≡ None

-- no job is out, and the head of a line leaves it
pub record LeavesFront {J : Type 0} (old : CoreView J) (name : JobId) (queue : ℕ) (marks : Marks) (job : J) (queues : QueuesView J) : Type 0 where
  pub free : old.out ≡ None
  pub others : Line J
  pub first : waiting_of queue old.queues ≡ (name, marks, job) ∷ others
  pub line : ChangesLine old.queues queues queue others

-- the job goes out with the wake that is kept of it
abbrev pub its_out : {J : Type 0} → JobId → ℕ → Marks → J → Option (JobOut J)
its_out name queue marks job = Some (record { name = name; queue = queue; woken = marks.woken; job = job })

-- what is known of the job that leaves its line, and of all others
pub record KnowsFront {J T : Type 0} (terms : Terms) (old : CoreView J) (name : JobId) (queue : ℕ) (marks : Marks) (job : J) (queues : QueuesView J) (others : Line J) (journal : Journal T) : Type 0 where
  pub first_in_line : line queue journal ≡ name ∷ names_of others
  pub nobody : jobs_out journal ≡ []
  pub start_told : marks.started ≡ is_told name_started name journal
  pub wake_is : marks.woken ≡ is_wake_kept name journal
  pub reason_told : return_reason queue journal ≡ core.return_reason queue old
  pub its_queue : queue_of name journal ≡ Some queue
  pub exists : queue < queue_count old.queues
  pub lines_now : (other : ℕ) → names_of (waiting_of other queues) ≡ line other (writes.Start name ∷ journal)
  pub apart_in : (other : ℕ) → among name (names_of (waiting_of other queues)) ≡ false
  pub marks_then : (other : ℕ) → AreMarked journal (waiting_of other queues)
  pub out_exists : (out : JobOut J) → its_out name queue marks job ≡ Some out → out.queue < queue_count queues

module _ {J T : Type 0} (terms : Terms) (old : CoreView J) (name : JobId) (queue : ℕ) (marks : Marks) (job : J) (queues : QueuesView J) (journal : Journal T)
    (kept : IsKept terms old journal) (front : LeavesFront old name queue marks job queues) where
  first_in_line : line queue journal ≡ name ∷ names_of front.others
  first_in_line = sym (kept.agrees.lines queue) ∙ ap names_of front.first

  nobody : jobs_out journal ≡ []
  nobody = subst (λ out. IsJobOut out journal) front.free kept.agrees.out

  marked : AreMarked journal ((name, marks, job) ∷ front.others)
  marked = subst (AreMarked journal) front.first (kept.agrees.marks queue)

  -- it was started before exactly where the journal says so, and a wake of it is kept where the journal says so
  its_marks : marks ≡ marks_told name journal
  its_marks = All-head (is_marked journal) (name, marks, job) front.others marked

  start_told : marks.started ≡ is_told name_started name journal
  start_told = ap (λ marks. marks.started) its_marks

  wake_is : marks.woken ≡ is_wake_kept name journal
  wake_is = ap (λ marks. marks.woken) its_marks

  -- it goes back for the reason that the journal gives, if there is one
  reason_told : return_reason queue journal ≡ core.return_reason queue old
  reason_told = sym (return_reason-agrees old journal kept.agrees.closing queue)

  its_queue : queue_of name journal ≡ Some queue
  its_queue = (known_of terms journal kept.notes).line_queue queue name (rw (first_in_line, same_as_itself name))

  exists : queue < queue_count old.queues
  exists = ⊎_elim (λ within. within)
      (λ past. absurd (let same : (name, marks, job) ∷ front.others ≡ [] = sym front.first ∙ ap (λ view. view.waiting) (get_or_past old.queues.queues queue no_queue past) in cc)) (cases_lt queue (queue_count old.queues))

  lines_now : (other : ℕ) → names_of (waiting_of other queues) ≡ line other (writes.Start name ∷ journal)
  lines_now other =
      let here = line-turn terms journal kept.notes queue 0 name (names_of front.others) first_in_line in
      let there = line-turn_elsewhere terms journal kept.notes other queue 0 name (names_of front.others) first_in_line in
      grind (arith, here, there, front.line.others other, kept.agrees.lines other)

  apart_in : (other : ℕ) → among name (names_of (waiting_of other queues)) ≡ false
  apart_in = everywhere (λ at. among name (names_of (waiting_of at queues)) ≡ false) queue
      (let distinct : Distinct (name ∷ names_of front.others) = subst Distinct first_in_line ((apart_of terms journal kept.notes).distinct queue) in
      ap (λ waiting. among name (names_of waiting)) front.line.changed ∙ distinct.0)
      (λ other away.
      ap (λ waiting. among name (names_of waiting)) (front.line.others other away)
      ∙ (ap (among name) (kept.agrees.lines other)
      ∙ false_from_ne_true _ (λ there. away (same_Some other queue (sym ((known_of terms journal kept.notes).line_queue other name there) ∙ its_queue)))))

  marks_then : (other : ℕ) → AreMarked journal (waiting_of other queues)
  marks_then = each_line (λ at. AreMarked journal) front.line
      (All-tail (is_marked journal) (name, marks, job) front.others marked) kept.agrees.marks

  out_exists : (out : JobOut J) → its_out name queue marks job ≡ Some out → out.queue < queue_count queues
  out_exists out at = subst (λ from. from < queue_count queues) (ap (λ job. job.queue) (same_Some _ out at)) (rw front.line.same_count exists)

  pub knows_front : KnowsFront terms old name queue marks job queues front.others journal
  knows_front = assumption (first_in_line, nobody, start_told, wake_is, reason_told, its_queue, exists, lines_now, apart_in, marks_then, out_exists)
