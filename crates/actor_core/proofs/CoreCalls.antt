-- A core beside its journal creates a queue before anything else is done, closes by itself, and shuts the gate of a sender, whose end stays beside it.
use Rattle.actor_core.proofs.Names.{HaveTasks, is_return, ◌&&◌, DeliversAs, EachNote, none-some, ◌≡◌, ℕ, ◌+◌, List, [], ◌∷◌, refl, sym, ◌∙◌, ap, subst, arith, add-zero, is_some, Result, Ok, Err, InRange, JobId}
use Rattle.actor_core.proofs.Names.{Note, Journal, IsOpening, number_if, Meaning, queue_count, CreateError, TooMany, Memory, CoreView, inside_count, Creates, polls_made, RecordedView, terms_at, IsRecorded, HasTask, CreatesQueue, Bool, true, false}
use Rattle.actor_core.proofs.Names.{cond, Option, Some, None, Mode, Order, closes, core_mode, effect_awaited, CarriesOut, ClosesCore, ClosesItself, ◌≤◌, length, reverse, ◌≢◌, IsSome, slice_set, eq-eqb, ne_eqb, true≢false, length-append, IsNextShut}
use Rattle.actor_core.proofs.Names.{final_count, or_else, gate_of, ShutsGate, Inward, SoundIn, Shuts, IsInOf, TellsShut, given_count, sum_upto, JobOut, CoreCreates}
use Rattle.base_words.specs.declared.note.Note.TheVariants as writes
use Rattle.actor_core.specs.Agreement.{IsKept}
use Rattle.actor_core.proofs.Kept.{kept_after}
use Rattle.core_core.specs.Closing as core_says
use Rattle.actor_core.proofs.Inside.{HoldsSame, carries-same, holds-closed, same_out, same_out-holds, same_out-some}
use Rattle.actor_core.proofs.KeptClosings.{agrees-core_closed, ended_if}
use Rattle.actor_core.proofs.KeptDeliveries.{agrees-created, agrees-shut}
use Rattle.actor_core.proofs.Received.{task_stays, tasks_stay}
use Rattle.actor_core.proofs.QuietSteps.{nobody, IsQuiet, IsQuietStep, everyone, HasDone, nothing_did, done_so, stepped}
use Rattle.actor_core.proofs.Sums.{sum_upto-same}
use Rattle.actor_core.proofs.EndsKept.{sees_more_in}

-- where no effect is awaited, a note is the effect of none
carries_none : {T : Type 0} (under : JobId → Option (Order (Unit {0}))) (note : Note T) (before : Journal T) → effect_awaited before ≡ None → CarriesOut under note before
carries_none under note [] none = tt
carries_none under note (writes.Answered name answer ∷ before) none = λ has. absurd (none-some answer (sym none ∙ ap (λ test. cond test (Some answer) None) has))
carries_none under note (_ ∷ before) none = tt

-- one note by which nothing is sent, delivered or given, and no poll settled, is a quiet step
module _ {J T : Type 0} {meaning : Meaning J T} (old : RecordedView J T) (recorded : IsRecorded meaning old) (core : CoreView J) (holds : HoldsSame old.core core) (note : Note T) where
  unmoved_step : {keeps : ℕ → Type 0} → IsKept (terms_at old) core (note ∷ old.journal.notes) → IsQuiet keeps nobody old.journal.notes (note ∷ old.journal.notes) →
      ((which : JobId) → polls_made which (note ∷ old.journal.notes) ≡ polls_made which old.journal.notes) → IsQuietStep old core (note ∷ []) meaning keeps nobody
  unmoved_step kept quiet unpolled =
      let inside : inside_count core ≡ inside_count old.core = λ i. holds.same_held i + number_if (same_out-some old.core.out core.out holds.out i) in
      let given = sum_upto-same (given_count (note ∷ old.journal.notes)) (given_count old.journal.notes) old.core.cores (λ sender. ap length (quiet.given sender)) in
      let fewer : inside_count core + sum_upto (given_count (note ∷ old.journal.notes)) old.core.cores ≤ inside_count old.core + sum_upto (given_count old.journal.notes) old.core.cores = omega (arith, inside, given) in
      let moved = holds.carries (λ queue name job. HasTask meaning old.took (note ∷ old.journal.notes) queue name job) (tasks_stay old recorded (note ∷ []) unpolled) in
      let tasks : HaveTasks meaning (stepped old core (note ∷ [])) = record { waiting = moved.waiting; parked = moved.parked } in
      let out : (job : JobOut J) → core.out ≡ Some job → HasTask meaning old.took (note ∷ old.journal.notes) job.queue job.name job.job =
      same_out-holds (λ queue name job. HasTask meaning old.took (note ∷ old.journal.notes) queue name job) old.core.out core.out holds.out (λ job at. task_stays (λ order at. at) (unpolled job.name) (recorded.out job at)) in
      assumption

module _ {J T : Type 0} {meaning : Meaning J T}
    (old : RecordedView J T) (recorded : IsRecorded meaning old) (opening : IsOpening old.journal.notes) (weight : ℕ) (in_range : InRange weight) (core : CoreView J) where
  module _ (queue : ℕ) (next : queue ≡ queue_count old.core.queues) (creates : Creates old.core weight core) (delivered : core.delivered ≡ old.core.delivered) where
    created : IsQuietStep old core (writes.Created queue weight ∷ []) meaning everyone nobody
    created =
        let kept = kept_after (terms_at old) (writes.Created queue weight) recorded.kept (agrees-created old.core core queue weight old.journal.notes recorded.kept.agrees next creates delivered)
        recorded.kept.is_core (record { next = next ∙ recorded.kept.agrees.last; in_range = omega (arith, next, creates.few); shares = in_range }) refl opening refl refl in
        let holds : HoldsSame old.core core = subst (HoldsSame old.core) (sym creates.rest)
        (record { number = refl; cores = refl; burst = refl; room = creates.added.same_room; same_held = creates.added.same_held; carries = carries-same creates.added.same_lines creates.added.same_parks; out = same_out old.core.out }) in
        let as_sent : (under : _) → EachNote (DeliversAs under) old.journal.notes → EachNote (DeliversAs under) (writes.Created queue weight ∷ old.journal.notes) = λ under before. (carries_none under (writes.Created queue weight) old.journal.notes recorded.kept.no_answer, before) in
        unmoved_step old recorded core holds (writes.Created queue weight) kept (assumption as_sent) (λ which. add-zero (polls_made which old.journal.notes))

  -- whatever the core answers
  pub created_did : (answer : Result ℕ CreateError) (notes : List (Note T)) → CoreCreates old.core weight answer core notes →
      HasDone meaning old core everyone nobody 1 (λ old new. CreatesQueue weight old answer new) notes
  created_did (Ok queue) notes does =
      done_so does.3 (created queue does.0 does.1 does.2) (omega arith)
      (does.0 ∙ recorded.kept.agrees.last, omega (arith, does.0, does.1.few), refl, ap (λ core. core.out) does.1.rest, refl)
  created_did (Err TooMany) notes does = nothing_did recorded does.1 does.2 (sym recorded.kept.agrees.last ∙ does.0, refl)
  created_did (Err Memory) notes does = nothing_did recorded does.1 does.2 (omega (arith, recorded.kept.agrees.last, does.0), refl)

module _ {J T : Type 0} {meaning : Meaning J T} (old : RecordedView J T) (recorded : IsRecorded meaning old) (mode : Mode) where
  closes_told : (test : Bool) → closes old.core.mode mode ≡ test → closes (core_mode old.journal.notes) mode ≡ test
  closes_told test changes = ap (λ was. closes was mode) (sym recorded.kept.agrees.closing.mode) ∙ changes

  closed_holds : (core : CoreView J) → core_says.EndsParksIf (is_return mode) (record old.core { mode = Some mode }) (λ queue. true) core → HoldsSame old.core core
  closed_holds core ended = holds-closed old.core (record old.core { mode = Some mode }) core (λ queue. is_return mode && true) refl (λ queue. refl) (λ queue. refl) refl refl
      (ended_if (record old.core { mode = Some mode }) core (λ queue. true) (is_return mode) ended)

  -- no job goes out or comes back
  closed_out : (core : CoreView J) → core_says.EndsParksIf (is_return mode) (record old.core { mode = Some mode }) (λ queue. true) core → core.out ≡ old.core.out
  closed_out core ended = ap (λ core. core.out) (ended_if (record old.core { mode = Some mode }) core (λ queue. true) (is_return mode) ended).rest

  close_step : (core : CoreView J) → closes old.core.mode mode ≡ true → core_says.EndsParksIf (is_return mode) (record old.core { mode = Some mode }) (λ queue. true) core →
      IsQuietStep old core (writes.CoreClosed mode ∷ []) meaning everyone nobody
  close_step core changes ended =
      let kept = kept_after (terms_at old) (writes.CoreClosed mode) recorded.kept (agrees-core_closed (terms_at old) old.core core old.journal.notes recorded.kept.notes recorded.kept.agrees mode ended) recorded.kept.is_core
      (closes_told true changes) refl tt refl refl in
      let as_sent : (under : _) → EachNote (DeliversAs under) old.journal.notes → EachNote (DeliversAs under) (writes.CoreClosed mode ∷ old.journal.notes) = λ under before. (carries_none under (writes.CoreClosed mode) old.journal.notes recorded.kept.no_answer, before) in
      unmoved_step old recorded core (closed_holds core ended) (writes.CoreClosed mode) kept (assumption as_sent) (λ which. add-zero (polls_made which old.journal.notes))

  -- whether or not that changes anything
  pub closed_did : (closed : Bool) (core : CoreView J) (notes : List (Note T)) → ClosesCore old.core mode closed core notes →
      HasDone meaning old core everyone nobody 1 (λ old new. ClosesItself old mode closed new) notes
  closed_did true core notes did = done_so did.2 (close_step core did.0 did.1) (omega arith) (closes_told true did.0, refl, closed_out core did.1, refl)
  closed_did false core notes did = nothing_did recorded did.1 did.2 (closes_told false did.0, refl)

module _ {J T : Type 0} (old : RecordedView J T) (from count : ℕ) (core : CoreView J) (is : core ≡ record old.core { gates = slice_set old.core.gates from (Some count) }) where
  abbrev written : List (Note T)
  written = writes.Shut from count ∷ []

  -- the gate of no other sender is shut
  pub shut_step : {meaning : Meaning J T} → IsRecorded meaning old → IsNextShut old.core.cores from count old.journal.notes →
      IsQuietStep old core written meaning (λ sender. sender ≡ from → ⊥) nobody
  shut_step recorded next =
      let kept = kept_after (terms_at old) (writes.Shut from count) recorded.kept (agrees-shut old.core core old.journal.notes recorded.kept.agrees from count next.known is) recorded.kept.is_core next
      refl tt refl refl in
      let gates = λ (sender : ℕ) (away : sender ≡ from → ⊥). ap (λ test. or_else (cond test (Some count) None) (final_count sender old.journal.notes)) (ne_eqb sender from away) in
      let holds : HoldsSame old.core core = subst (HoldsSame old.core) (sym is) (record { number = refl; cores = refl; burst = refl; room = refl; same_held = refl; carries = λ P was. was; out = same_out old.core.out }) in
      unmoved_step old recorded core holds (writes.Shut from count) kept (assumption gates) (λ which. add-zero (polls_made which old.journal.notes))

  -- the end of this sender is shut where the journal says so
  pub shut_beside : (before after : Inward J T) → IsInOf from old before → Shuts before after count → IsInOf from (stepped old core written) after
  shut_beside before after beside shuts =
      subst (λ core. IsInOf from (stepped old core written) after) (sym is) (subst (IsInOf from (stepped old (record old.core { gates = slice_set old.core.gates from (Some count) }) written)) (sym shuts.0) now)
    where
      seen : IsInOf from old (record before { seen = after.seen })
      seen = sees_more_in from old before (record before { seen = after.seen }) refl shuts.1 beside

      now : IsInOf from (stepped old (record old.core { gates = slice_set old.core.gates from (Some count) }) written) (record before { seen = after.seen; shut = true })
      now = assumption (
        seen,
        ap (λ test. or_else (cond test (Some count) None) (final_count from old.journal.notes)) (eq-eqb from from refl)
            ∙ ap Some (shuts.2 ∙ ap (λ base. base + length after.seen) (ap (λ end. end.base) shuts.0)),
      )

-- what a call that shut the gate knows of its parts
module _ {J T : Type 0} (old now : RecordedView J T) (view_is : old ≡ now) (from count : ℕ) (before after : Inward J T)
    (beside : IsInOf from now before) (shuts : Shuts before after count) (sound : SoundIn after) (closed : IsSome (core_mode now.journal.notes)) (untold : final_count from now.journal.notes ≡ None) where
  -- a gate that isn't shut may be, at the count of its end
  next_now : IsNextShut old.core.cores from count old.journal.notes
  next_now =
      let next : IsNextShut now.core.cores from count now.journal.notes = grind (arith, length-append before.seen) in
      subst (λ view. IsNextShut view.core.cores from count view.journal.notes) (sym view_is) next

  -- what the core asks
  pub core_asks : {meaning : Meaning J T} → IsRecorded meaning old → (from ≤ old.core.cores) × ((old.core.mode ≢ None) × (gate_of from old.core ≡ None))
  core_asks recorded = (
    next_now.known,
    (λ none. true≢false (sym next_now.closed ∙ ap is_some (sym recorded.kept.agrees.closing.mode ∙ none)), recorded.kept.agrees.closing.gates from ∙ next_now.not_shut),
  )

  module _ (core : CoreView J) (notes : List (Note T)) (gate : ShutsGate old.core from count core notes) where
    pub shut_did : {meaning : Meaning J T} → IsRecorded meaning old →
        HasDone meaning old core (λ sender. sender ≡ from → ⊥) nobody 1 (λ old new. TellsShut old from count new) notes
    shut_did recorded = done_so gate.1 (shut_step old from count core gate.0 recorded next_now) (omega arith) (record { journal = refl; took = refl; out = ap (λ core. core.out) gate.0 })

    pub beside_shut : IsInOf from (stepped old core (reverse notes)) after
    beside_shut =
        subst (λ notes. IsInOf from (stepped old core (reverse notes)) after) (sym gate.1)
        (shut_beside old from count core gate.0 before after (subst (λ view. IsInOf from view before) (sym view_is) beside) shuts)
