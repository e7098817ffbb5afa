-- Which queue is held from picks: that of the job that is out, or that of the open turn.
use Rattle.core_core.proofs.Names.{ap, Bool, CoreView, eqb-true, false, held_by, inl, inr, is_any, is_number, is_some, is_working, JobOut, None, OpenTurn, Option, queue_held, queue_open, queue_out, refl, Some, sym, true, true≢false}
use Rattle.core_core.proofs.Names.{waiting_of, ℕ, ◌||◌, ◌≡◌, ◌⊎◌}

-- the number that a queue is held under
pub held_number : (queue : ℕ) (held : Option ℕ) → is_number queue held ≡ true → held ≡ Some queue
held_number queue None here = absurd (true≢false (sym here))
held_number queue (Some other) here = ap Some (sym (eqb-true queue other here))

module _ {J : Type 0} where
  -- where no job is out and no turn is open, none is held
  pub held_none : (view : CoreView J) → view.out ≡ None → view.bursts.open ≡ None → queue_held view ≡ None
  held_none view free no_turn = λ i. held_by (free i) (no_turn i)

  -- the queue of the job that is out is
  pub held_out : (view : CoreView J) (out : JobOut J) → view.out ≡ Some out → queue_held view ≡ Some out.queue
  held_out view out is = ap (λ (job : Option (JobOut J)). held_by job view.bursts.open) is

  -- and where none is out, that of the open turn
  pub held_turn : (view : CoreView J) (turn : OpenTurn) → view.out ≡ None → view.bursts.open ≡ Some turn → queue_held view ≡ Some turn.queue
  held_turn view turn free is_open = λ i. held_by (free i) (is_open i)

  pub free_if_not_held : (out : Option (JobOut J)) (turn : Option OpenTurn) → is_some (held_by out turn) ≡ false → (out ≡ None) × (turn ≡ None)
  free_if_not_held None None none = (refl, refl)
  free_if_not_held None (Some turn) none = absurd (true≢false none)
  free_if_not_held (Some job) turn none = absurd (true≢false none)

  pub busy_if_held : (out : Option (JobOut J)) (turn : Option OpenTurn) → is_some (held_by out turn) ≡ true → (out ≡ None → ⊥) ⊎ (turn ≡ None → ⊥)
  busy_if_held None None some = absurd (true≢false (sym some))
  busy_if_held None (Some turn) some = inr (λ none. true≢false (ap is_some none))
  busy_if_held (Some job) turn some = inl (λ none. true≢false (ap is_some none))

  -- the queue of the job that is out is held, also among other reasons
  held_too : (queue : ℕ) (any : Bool) (out : Option (JobOut J)) (turn : Option OpenTurn) → (any || is_number queue (queue_out out)) ≡ true → (any || is_number queue (held_by out turn)) ≡ true
  held_too queue true out turn work = refl
  held_too queue false None turn work = absurd (true≢false (sym work))
  held_too queue false (Some job) turn work = work

  pub work_or_held : (view : CoreView J) (queue : ℕ) → is_working queue view ≡ true → (is_any (waiting_of queue view.queues) || is_number queue (queue_held view)) ≡ true
  work_or_held view queue work = held_too queue (is_any (waiting_of queue view.queues)) view.out view.bursts.open work

  pub not_held : (queue : ℕ) (out : Option (JobOut J)) (turn : Option OpenTurn) → is_number queue (queue_out out) ≡ false → is_number queue (queue_open turn) ≡ false → is_number queue (held_by out turn) ≡ false
  not_held queue None turn not_out not_open = not_open
  not_held queue (Some job) turn not_out not_open = not_out
