-- What the walk of the second rule knows after one more note, and when a start stands in order.
use Rattle.judge_audit.proofs.Names.{ap, arith, Assembly, Bool, cond, EachNote, EnteredAsSent, false, get_or, inl, inr, is_told, IsAbove, IsAcceptedInside, IsSome, JobId, Journal, KnowsNumbers, last_started, name_started, None, Numbers}
use Rattle.judge_audit.proofs.Names.{one_name, Option, or_cases, or_else, Order, order_of, queue_asked, queue_of, refl, replicate, same_name, Some, StandsInOrder, subst, suc, sym, true, true≢false, zero, ℕ, [], ◌<◌, ◌∙◌, ◌∷◌, ◌≡◌, ◌≤◌, ◌⊎◌}
use Rattle.base_words.specs.declared.note.Note.TheVariants.{Took, Start}
use Rattle.base_words.specs.declared.order.Order.TheVariants.{Job}

-- the order of a job
pub asked_job : (order : Option (Order (Unit {0}))) (queue : ℕ) → queue_asked order ≡ Some queue → order ≡ Some (Job queue tt)
asked_job (Some (Job other task)) queue asked = let one : other ≡ queue = cc in ap (λ (at : ℕ). Some (Job at tt)) one
asked_job _ queue asked = cc

-- two queues of one order are one
pub same_asked : (order : Option (Order (Unit {0}))) (queue other : ℕ) → queue_asked order ≡ Some queue → queue_asked order ≡ Some other → queue ≡ other
same_asked order queue other one another = cc

-- nothing is counted at first
pub zero_there : (count place : ℕ) → ◌≡◌ {A = ℕ} (get_or (replicate count 0) place 0) 0
zero_there zero place = refl
zero_there (suc count) zero = refl
zero_there (suc count) (suc place) = zero_there count place

module _ (assembly : Assembly ℕ) where
  -- where each note stands in order, each job is in the queue that it was sent to
  pub entered_as_sent : (journal : Journal ℕ) → EachNote (StandsInOrder assembly) journal → EnteredAsSent assembly journal
  entered_as_sent [] right name queue entered = cc
  entered_as_sent (Took other into ∷ before) right name queue entered =
      by_test (same_name name other) refl entered (entered_as_sent before right.1 name queue)
    where
      by_test : (test : Bool) → same_name name other ≡ test → or_else (cond test (Some into) None) (queue_of name before) ≡ Some queue →
          (queue_of name before ≡ Some queue → order_of name assembly ≡ Some (Job queue tt)) → order_of name assembly ≡ Some (Job queue tt)
      by_test false apart is rest = rest is
      by_test true same is rest =
          let one : into ≡ queue = cc in
          ap (λ one. order_of one assembly) (one_name name other same) ∙ (right.0 ∙ ap (λ (at : ℕ). Some (Job at tt)) one)
  entered_as_sent (note ∷ before) right name queue entered = entered_as_sent before right.1 name queue entered

  module _ (numbers : Numbers) (before : Journal ℕ) (knows : KnowsNumbers assembly numbers before) where
    -- a job above all that started starts in order
    pub start_stands : (name : JobId) → EnteredAsSent assembly before → IsAcceptedInside assembly name before →
        IsAbove numbers (order_of name assembly) name → StandsInOrder assembly (Start name) before
    start_stands name entered inside above other started sender same_queue =
        by_queue (queue_of name before) refl inside.has_entered
      where
        by_queue : (queue : Option ℕ) → queue_of name before ≡ queue → IsSome queue → other.number < name.number
        by_queue None at there = absurd (true≢false (sym there))
        by_queue (Some queue) at there =
            let asked : queue_asked (order_of name assembly) ≡ Some queue = ap queue_asked (entered name queue at) in
            let one : above.queue ≡ queue = same_asked (order_of name assembly) above.queue queue above.asked asked in
            let its : queue_asked (order_of other assembly) ≡ Some queue = ap queue_asked (entered other queue (same_queue ∙ at)) in
            let below : other.number ≤ last_started numbers name.from queue =
            subst (λ (from : ℕ). other.number ≤ last_started numbers from queue) sender (knows.started other queue started its) in
            let over : last_started numbers name.from queue < name.number =
            subst (λ (at : ℕ). last_started numbers name.from at < name.number) one above.above in
            omega arith

    module _ (new : Numbers) where
      -- a job starts
      pub next_start : (name : JobId) → ((sender other : ℕ) → last_started numbers sender other ≤ last_started new sender other) →
          ((queue : ℕ) → queue_asked (order_of name assembly) ≡ Some queue → name.number ≤ last_started new name.from queue) → new.sent ≡ numbers.sent →
          KnowsNumbers assembly new (Start name ∷ before)
      next_start name more here same = record {
        started = λ other queue told asked. by_told other queue asked (or_cases (same_name other name) (is_told name_started other before) told);
        sent = λ core. ap (λ counts. get_or counts core 0) same ∙ knows.sent core;
      }
        where
          by_told : (other : JobId) (queue : ℕ) → queue_asked (order_of other assembly) ≡ Some queue →
              (same_name other name ≡ true) ⊎ (is_told name_started other before ≡ true) → other.number ≤ last_started new other.from queue
          by_told other queue asked (inl now) =
              let one : name ≡ other = sym (one_name other name now) in
              subst (λ (it : JobId). it.number ≤ last_started new it.from queue) one (here queue (ap (λ it. queue_asked (order_of it assembly)) one ∙ asked))
          by_told other queue asked (inr was) = omega (arith, knows.started other queue was asked, more other.from queue)
