-- The head of a line goes out or back: one job fewer is inside, and all others keep their tasks.
use Rattle.actor_core.proofs.Names.{◌≡◌, ℕ, List, ◌∷◌, sym, ◌∙◌, ap, subst, arith, JobId, Note, Meaning, waiting_of, CoreView, RecordedView, IsRecorded, ◌+◌, ◌++◌, length, All, is_some, All-head, All-tail, number_if, held_count, inside_count}
use Rattle.actor_core.proofs.Names.{polls_made, HasTask, QueuesView, HaveTasks, Marks, parked_of}
use Rattle.actor_core.proofs.Places.{each_line}
use Rattle.actor_core.proofs.FrontLeft.{LeavesFront}
use Rattle.actor_core.proofs.Inside.{HoldsOfAll}
use Rattle.actor_core.proofs.Received.{tasks_stay}
use Rattle.actor_core.proofs.QuietSteps.{stepped}

module _ {J T : Type 0} (old : RecordedView J T) (name : JobId) (queue : ℕ) (marks : Marks) (job : J) (queues : QueuesView J) (front : LeavesFront old.core name queue marks job queues) where
  pub one_fewer : held_count queues + 1 ≡ inside_count old.core
  one_fewer =
      let line : length (waiting_of queue old.core.queues) ≡ length front.others + 1 = ap length front.first ∙ omega arith in
      let inside : inside_count old.core ≡ held_count old.core.queues + 0 = ap (λ out. held_count old.core.queues + number_if (is_some out)) front.free in
      omega (arith, line, inside, front.line.held)

module _ {J T : Type 0} {meaning : Meaning J T} (old : RecordedView J T) (recorded : IsRecorded meaning old)
    (name : JobId) (queue : ℕ) (marks : Marks) (job : J) (queues : QueuesView J) (front : LeavesFront old.core name queue marks job queues)
    (written : List (Note T)) (unpolled : (which : JobId) → polls_made which (written ++ old.journal.notes) ≡ polls_made which old.journal.notes) where
  -- no poll is settled by these notes
  abbrev Task : ℕ → JobId × Marks × J → Type 0
  Task other entry = HasTask meaning old.took (written ++ old.journal.notes) other entry.0 entry.2

  stay : HoldsOfAll (λ other which job. HasTask meaning old.took (written ++ old.journal.notes) other which job) old.core.queues
  stay = tasks_stay old recorded written unpolled

  all_first : All (Task queue) ((name, marks, job) ∷ front.others)
  all_first = subst (All (Task queue)) front.first (stay.waiting queue)

  pub its_task : HasTask meaning old.took (written ++ old.journal.notes) queue name job
  its_task = All-head (Task queue) (name, marks, job) front.others all_first

  still_waiting : (other : ℕ) → All (Task other) (waiting_of other queues)
  still_waiting = each_line (λ at. All (Task at)) front.line (All-tail (Task queue) (name, marks, job) front.others all_first) stay.waiting

  pub still_tasks : (core : CoreView J) → core.queues ≡ queues → HaveTasks meaning (stepped old core written)
  still_tasks core is = record {
    waiting = subst (λ queues. (other : ℕ) → All (Task other) (waiting_of other queues)) (sym is) still_waiting;
    parked = λ other. subst (All (λ entry. HasTask meaning old.took (written ++ old.journal.notes) other entry.0 entry.1)) (sym (ap (parked_of other) is ∙ front.line.same_parks other)) (stay.parked other);
  }
