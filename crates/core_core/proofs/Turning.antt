-- What is known of the open turn, after each step.
use Rattle.core_core.proofs.Names.{ap, arith, begun, Bool, Bursts, cond, CoreView, false, has_bursts, held_by, IfSome, is_number, is_some, JobOut, KeepsTurn, None, OpenTurn, Option, queue_count, queue_held, queue_open, queue_out, refl}
use Rattle.core_core.proofs.Names.{Some, subst, sym, true, true≢false, ℕ, ◌<◌, ◌∙◌, ◌≡◌, ◌≤◌}

same_number : {one other : ℕ} → Some one ≡ Some other → one ≡ other
same_number same = cc

-- the turn that a pick opens
pub begun_single : (queue : ℕ) (bursts : Bursts) → has_bursts bursts.burst ≡ false → (begun queue bursts).open ≡ bursts.open
begun_single queue bursts single = ap (λ test. cond test (Some (record { queue = queue; polls = 1; time = 0 })) bursts.open) single

pub begun_open : (queue : ℕ) (bursts : Bursts) → has_bursts bursts.burst ≡ true → (begun queue bursts).open ≡ Some (record { queue = queue; polls = 1; time = 0 })
begun_open queue bursts has = ap (λ test. cond test (Some (record { queue = queue; polls = 1; time = 0 })) bursts.open) has

-- the queue of an open turn exists, also among more queues
turn_among_more : (turn : Option OpenTurn) (few many : ℕ) → few ≤ many → IfSome turn (λ one. one.queue < few) → IfSome turn (λ one. one.queue < many)
turn_among_more None few many more exists = exists
turn_among_more (Some turn) few many more exists = omega (arith, exists)

module _ {J : Type 0} where
  turn_of_out : (out : Option (JobOut J)) (found : Option OpenTurn) (turn : OpenTurn) → found ≡ Some turn → IfSome out (λ job. turn.queue ≡ job.queue) → IfSome out (λ job. queue_open found ≡ Some job.queue)
  turn_of_out None found turn is same = tt
  turn_of_out (Some job) found turn is same = ap queue_open is ∙ ap Some same

  -- the job that is out is of the open turn
  pub same_turn : (view : CoreView J) (job : JobOut J) (turn : OpenTurn) → KeepsTurn view → view.out ≡ Some job → view.bursts.open ≡ Some turn → turn.queue ≡ job.queue
  same_turn view job turn kept is_out is_open = by_form (has_bursts view.bursts.burst) refl
    where
      by_form : (form : Bool) → has_bursts view.bursts.burst ≡ form → turn.queue ≡ job.queue
      by_form true has =
          let here : queue_open view.bursts.open ≡ Some job.queue = subst (λ (out : Option (JobOut J)). IfSome out (λ one. queue_open view.bursts.open ≡ Some one.queue)) is_out (kept.polled has) in
          same_number (sym (ap queue_open is_open) ∙ here)
      by_form false single = absurd (true≢false (sym (ap is_some is_open) ∙ ap is_some (kept.single single)))

  -- a queue without work whose turn is open is held
  pub held_in_turn : (view : CoreView J) (queue : ℕ) → KeepsTurn view → is_number queue (queue_out view.out) ≡ false → is_number queue (queue_open view.bursts.open) ≡ true → is_number queue (queue_held view) ≡ true
  held_in_turn view queue kept not_out here = by_out view.out refl
    where
      by_turn : (job : JobOut J) → view.out ≡ Some job → (turn : Option OpenTurn) → view.bursts.open ≡ turn → is_number queue (queue_open turn) ≡ true → is_number queue (held_by (Some job) turn) ≡ true
      by_turn job is_out None is_open here = absurd (true≢false (sym here))
      by_turn job is_out (Some turn) is_open here = ap (λ number. is_number queue (Some number)) (sym (same_turn view job turn kept is_out is_open)) ∙ here

      by_out : (out : Option (JobOut J)) → view.out ≡ out → is_number queue (held_by out view.bursts.open) ≡ true
      by_out None is_out = here
      by_out (Some job) is_out = by_turn job is_out view.bursts.open refl here

  -- the same job is out, the same turn is open, and no queue went
  pub KeepsTurn-same : (old new : CoreView J) → new.out ≡ old.out → new.bursts ≡ old.bursts → queue_count old.queues ≤ queue_count new.queues → KeepsTurn old → KeepsTurn new
  KeepsTurn-same old new out bursts more kept = record {
    single = λ none. ap (λ (b : Bursts). b.open) bursts ∙ kept.single (sym (ap (λ (b : Bursts). has_bursts b.burst) bursts) ∙ none);
    polled = λ has.
        let was : IfSome old.out (λ job. queue_open old.bursts.open ≡ Some job.queue) = kept.polled (sym (ap (λ (b : Bursts). has_bursts b.burst) bursts) ∙ has) in
        subst (λ (held : Option (JobOut J)). IfSome held (λ job. queue_open new.bursts.open ≡ Some job.queue)) (sym out)
        (subst (λ (b : Bursts). IfSome old.out (λ job. queue_open b.open ≡ Some job.queue)) (sym bursts) was);
    exists = subst (λ (b : Bursts). IfSome b.open (λ turn. turn.queue < queue_count new.queues)) (sym bursts)
        (turn_among_more old.bursts.open (queue_count old.queues) (queue_count new.queues) more kept.exists);
  }

  -- no job is out, and no turn is open
  pub KeepsTurn-free : (view : CoreView J) → view.out ≡ None → view.bursts.open ≡ None → KeepsTurn view
  KeepsTurn-free view free no_turn = record {
    single = λ none. no_turn;
    polled = λ has. subst (λ (held : Option (JobOut J)). IfSome held (λ job. queue_open view.bursts.open ≡ Some job.queue)) (sym free) tt;
    exists = subst (λ (turn : Option OpenTurn). IfSome turn (λ one. one.queue < queue_count view.queues)) (sym no_turn) tt;
  }

  -- a job goes out by a pick
  pub KeepsTurn-taken : (old mid : CoreView J) (out : JobOut J) → old.bursts.open ≡ None → mid.out ≡ Some out → mid.bursts ≡ begun out.queue old.bursts → out.queue < queue_count mid.queues → KeepsTurn mid
  KeepsTurn-taken old mid out no_turn is_out bursts exists = record {
    single = λ none. open_is ∙ begun_single out.queue old.bursts (sym same_form ∙ none) ∙ no_turn;
    polled = λ has. subst (λ (held : Option (JobOut J)). IfSome held (λ job. queue_open mid.bursts.open ≡ Some job.queue)) (sym is_out) (ap queue_open (open_is ∙ begun_open out.queue old.bursts (sym same_form ∙ has)));
    exists = by_form (has_bursts old.bursts.burst) refl;
  }
    where
      open_is : mid.bursts.open ≡ (begun out.queue old.bursts).open
      open_is = ap (λ (b : Bursts). b.open) bursts

      same_form : has_bursts mid.bursts.burst ≡ has_bursts old.bursts.burst
      same_form = ap (λ (b : Bursts). has_bursts b.burst) bursts

      by_form : (form : Bool) → has_bursts old.bursts.burst ≡ form → IfSome mid.bursts.open (λ turn. turn.queue < queue_count mid.queues)
      by_form true has = subst (λ (turn : Option OpenTurn). IfSome turn (λ one. one.queue < queue_count mid.queues)) (sym (open_is ∙ begun_open out.queue old.bursts has)) exists
      by_form false none = subst (λ (turn : Option OpenTurn). IfSome turn (λ one. one.queue < queue_count mid.queues)) (sym (open_is ∙ begun_single out.queue old.bursts none ∙ no_turn)) tt

  -- a turn that was open still is
  pub KeepsTurn-open : (old new : CoreView J) (was turn : OpenTurn) → KeepsTurn old → old.bursts.open ≡ Some was → new.bursts.burst ≡ old.bursts.burst → new.bursts.open ≡ Some turn → turn.queue < queue_count new.queues →
      IfSome new.out (λ job. turn.queue ≡ job.queue) → KeepsTurn new
  KeepsTurn-open old new was turn kept was_open burst is_open exists same = record {
    single = λ none. absurd (true≢false (sym (ap is_some was_open) ∙ ap is_some (kept.single (ap has_bursts (sym burst) ∙ none))));
    polled = λ has. turn_of_out new.out new.bursts.open turn is_open same;
    exists = subst (λ (found : Option OpenTurn). IfSome found (λ one. one.queue < queue_count new.queues)) (sym is_open) exists;
  }
