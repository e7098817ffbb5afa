-- What each kind of note does to the virtual runtime and the shares of a queue, and to the floor.
use Rattle.base_words.proofs.Words.{among, arith, Bool, brings_work, charge, charge_noted, charge_of, cond, EachNote, eq-eqb, false, floor, has_bursts, has_work, IsRightPick, JobId, Journal, length, List, lt-ltb, max, MayStand, names_like}
use Rattle.base_words.proofs.Words.{nat_lt, ne_eqb, None, not, Note, or_else, parked, poll_settled, queue_of, refl, runtime_picked, shares, shares_told, Some, sym, Terms, true, true≢false, turn_told, virtual_runtime, ℕ, [], ◌&&◌, ◌+◌, ◌∷◌}
use Rattle.base_words.proofs.Words.{◌≡◌}
use Rattle.base_words.specs.declared.note.Note.TheVariants.{Took, Created, SharesSet, QueueClosed, CoreClosed, Woken, Pick, Yield, Park, Stayed, Done, Turned}
use Rattle.base_words.specs.declared.order.Mode.TheVariants.{Return}
use Rattle.base_words.proofs.NameLemmas.{among-like}
use Rattle.base_words.proofs.PicksNeverFall.{floor_below}
use Rattle.base_words.proofs.RuntimeBound.{poll_in_turn}

-- names among which one stands are some
some_there : (name : JobId) (names : List JobId) → among name names ≡ true → nat_lt 0 (length names) ≡ true
some_there name [] there = absurd (true≢false (sym there))
some_there name (first ∷ names) there = lt-ltb 0 (length (first ∷ names)) (omega arith)

module _ {T : Type 0} (burst queue : ℕ) (before : Journal T) where
  -- a note that brings no work, and costs the queue nothing
  pub virtual_runtime-stays : (note : Note T) → brings_work queue note before ≡ false → charge_noted burst queue note before ≡ 0 →
      virtual_runtime burst queue (note ∷ before) ≡ virtual_runtime burst queue before
  virtual_runtime-stays note nothing free = rw (nothing, free) (omega arith)

  -- work that comes to a queue without work places it at the floor
  pub virtual_runtime-brought : (note : Note T) → brings_work queue note before ≡ true → charge_noted burst queue note before ≡ 0 → has_work queue before ≡ false →
      virtual_runtime burst queue (note ∷ before) ≡ max (virtual_runtime burst queue before) (floor before)
  virtual_runtime-brought note brings free idle = rw (brings, free, idle) (omega arith)

  -- a queue with work moves by its charges alone
  pub virtual_runtime-busy : (note : Note T) → has_work queue before ≡ true →
      virtual_runtime burst queue (note ∷ before) ≡ virtual_runtime burst queue before + charge_noted burst queue note before
  virtual_runtime-busy note busy = rw busy (by_test (brings_work queue note before))
    where
      by_test : (test : Bool) → max (virtual_runtime burst queue before) (cond (test && not true) (floor before) 0) + charge_noted burst queue note before ≡ virtual_runtime burst queue before + charge_noted burst queue note before
      by_test true = omega arith
      by_test false = omega arith

  -- a job enters a queue without work, one with work, and another queue
  pub virtual_runtime-took_idle : (name : JobId) → has_work queue before ≡ false →
      virtual_runtime burst queue (Took name queue ∷ before) ≡ max (virtual_runtime burst queue before) (floor before)
  virtual_runtime-took_idle name idle = rw (eq-eqb queue queue refl, idle) (omega arith)

  -- one with work stays where it is
  pub virtual_runtime-took_busy : (name : JobId) → has_work queue before ≡ true → virtual_runtime burst queue (Took name queue ∷ before) ≡ virtual_runtime burst queue before
  virtual_runtime-took_busy name busy = rw (eq-eqb queue queue refl, busy) (omega arith)

  -- and so does each other queue
  pub virtual_runtime-took_elsewhere : (name : JobId) (into : ℕ) → (queue ≡ into → ⊥) →
      virtual_runtime burst queue (Took name into ∷ before) ≡ virtual_runtime burst queue before
  virtual_runtime-took_elsewhere name into other = rw (ne_eqb queue into other) (omega arith)

  -- a turn of this queue ends, and one of another
  pub virtual_runtime-turned : (time : ℕ) → has_bursts burst ≡ true →
      virtual_runtime burst queue (Turned queue time ∷ before) ≡ virtual_runtime burst queue before + charge time (shares queue before)
  virtual_runtime-turned time form = rw (form, eq-eqb queue queue refl) (omega arith)

  -- which pays nothing
  pub virtual_runtime-turned_elsewhere : (time other : ℕ) → (queue ≡ other → ⊥) →
      virtual_runtime burst queue (Turned other time ∷ before) ≡ virtual_runtime burst queue before
  virtual_runtime-turned_elsewhere time other apart = by_form (has_bursts burst)
    where
      by_form : (form : Bool) → max (virtual_runtime burst queue before) 0 + charge_of queue (or_else (cond form (Some (Some other, time)) None) None) before ≡ virtual_runtime burst queue before
      by_form true = rw (ne_eqb queue other apart) (omega arith)
      by_form false = omega arith

  -- a settled poll that doesn't end its turn costs nothing
  pub virtual_runtime-in_turn : (note : Note T) → has_bursts burst ≡ true → turn_told note ≡ None → brings_work queue note before ≡ false →
      virtual_runtime burst queue (note ∷ before) ≡ virtual_runtime burst queue before
  virtual_runtime-in_turn note form goes_on nothing = virtual_runtime-stays note nothing (rw (goes_on, poll_in_turn burst (poll_settled note) before form))

  -- one that ends its turn costs the queue of its job, and no other
  pub virtual_runtime-yield : (name : JobId) (time : ℕ) → has_bursts burst ≡ false → queue_of name before ≡ Some queue →
      virtual_runtime burst queue (Yield name time ∷ before) ≡ virtual_runtime burst queue before + charge time (shares queue before)
  virtual_runtime-yield name time form its = rw (form, its, eq-eqb queue queue refl) (omega arith)

  -- another queue pays nothing
  pub virtual_runtime-yield_elsewhere : (name : JobId) (time other : ℕ) → has_bursts burst ≡ false → queue_of name before ≡ Some other → (queue ≡ other → ⊥) →
      virtual_runtime burst queue (Yield name time ∷ before) ≡ virtual_runtime burst queue before
  virtual_runtime-yield_elsewhere name time other form its apart = rw (form, its, ne_eqb queue other apart) (omega arith)

  -- so does a poll after which its job is parked
  pub virtual_runtime-park : (name : JobId) (time : ℕ) → has_bursts burst ≡ false → queue_of name before ≡ Some queue →
      virtual_runtime burst queue (Park name time ∷ before) ≡ virtual_runtime burst queue before + charge time (shares queue before)
  virtual_runtime-park name time form its = rw (form, its, eq-eqb queue queue refl) (omega arith)

  -- another queue pays nothing
  pub virtual_runtime-park_elsewhere : (name : JobId) (time other : ℕ) → has_bursts burst ≡ false → queue_of name before ≡ Some other → (queue ≡ other → ⊥) →
      virtual_runtime burst queue (Park name time ∷ before) ≡ virtual_runtime burst queue before
  virtual_runtime-park_elsewhere name time other form its apart = rw (form, its, ne_eqb queue other apart) (omega arith)

  -- or after which it stays
  pub virtual_runtime-stayed : (name : JobId) (time : ℕ) → has_bursts burst ≡ false → queue_of name before ≡ Some queue →
      virtual_runtime burst queue (Stayed name time ∷ before) ≡ virtual_runtime burst queue before + charge time (shares queue before)
  virtual_runtime-stayed name time form its = rw (form, its, eq-eqb queue queue refl) (omega arith)

  -- another queue pays nothing
  pub virtual_runtime-stayed_elsewhere : (name : JobId) (time other : ℕ) → has_bursts burst ≡ false → queue_of name before ≡ Some other → (queue ≡ other → ⊥) →
      virtual_runtime burst queue (Stayed name time ∷ before) ≡ virtual_runtime burst queue before
  virtual_runtime-stayed_elsewhere name time other form its apart = rw (form, its, ne_eqb queue other apart) (omega arith)

  -- a parked job of a queue without work is woken
  pub virtual_runtime-woken_idle : (name : JobId) → among name (parked queue before) ≡ true → has_work queue before ≡ false →
      virtual_runtime burst queue (Woken name ∷ before) ≡ max (virtual_runtime burst queue before) (floor before)
  virtual_runtime-woken_idle name asleep idle =
      virtual_runtime-brought (Woken name) (some_there name (names_like (Some name) (parked queue before)) (among-like name (parked queue before) asleep)) refl idle

  -- a closing of the queue in mode `Return` wakes one
  pub virtual_runtime-closed_idle : (name : JobId) → among name (parked queue before) ≡ true → has_work queue before ≡ false →
      virtual_runtime burst queue (QueueClosed queue Return ∷ before) ≡ max (virtual_runtime burst queue before) (floor before)
  virtual_runtime-closed_idle name asleep idle =
      virtual_runtime-brought (QueueClosed queue Return) (rw (eq-eqb queue queue refl) (some_there name (parked queue before) asleep)) refl idle

  -- and so does one of the core
  pub virtual_runtime-core_closed_idle : (name : JobId) → among name (parked queue before) ≡ true → has_work queue before ≡ false →
      virtual_runtime burst queue (CoreClosed Return ∷ before) ≡ max (virtual_runtime burst queue before) (floor before)
  virtual_runtime-core_closed_idle name asleep idle =
      virtual_runtime-brought (CoreClosed Return) (some_there name (parked queue before) asleep) refl idle

  -- so does the last poll of a job
  pub virtual_runtime-done : (name : JobId) (time : ℕ) (value : T) → has_bursts burst ≡ false → queue_of name before ≡ Some queue →
      virtual_runtime burst queue (Done name time value ∷ before) ≡ virtual_runtime burst queue before + charge time (shares queue before)
  virtual_runtime-done name time value form its = rw (form, its, eq-eqb queue queue refl) (omega arith)

  -- another queue pays nothing
  pub virtual_runtime-done_elsewhere : (name : JobId) (time : ℕ) (value : T) (other : ℕ) → has_bursts burst ≡ false → queue_of name before ≡ Some other → (queue ≡ other → ⊥) →
      virtual_runtime burst queue (Done name time value ∷ before) ≡ virtual_runtime burst queue before
  virtual_runtime-done_elsewhere name time value other form its apart = rw (form, its, ne_eqb queue other apart) (omega arith)

module _ {T : Type 0} (queue : ℕ) (before : Journal T) where
  -- shares are those last given to the queue
  pub shares-stays : (note : Note T) → shares_told queue note ≡ None → shares queue (note ∷ before) ≡ shares queue before
  shares-stays note none = rw none

  -- a creation gives them
  pub shares-created : (weight : ℕ) → shares queue (Created queue weight ∷ before) ≡ weight
  shares-created weight = rw (eq-eqb queue queue refl)

  -- to no other queue
  pub shares-created_elsewhere : (other weight : ℕ) → (queue ≡ other → ⊥) → shares queue (Created other weight ∷ before) ≡ shares queue before
  shares-created_elsewhere other weight apart = rw (ne_eqb queue other apart)

  -- a later command gives them
  pub shares-set : (weight : ℕ) → shares queue (SharesSet queue weight ∷ before) ≡ weight
  shares-set weight = rw (eq-eqb queue queue refl)

  -- to no other queue
  pub shares-set_elsewhere : (other weight : ℕ) → (queue ≡ other → ⊥) → shares queue (SharesSet other weight ∷ before) ≡ shares queue before
  shares-set_elsewhere other weight apart = rw (ne_eqb queue other apart)

-- a note that is no pick leaves the floor
pub floor-stays : {T : Type 0} (note : Note T) (before : Journal T) → runtime_picked note ≡ 0 → floor (note ∷ before) ≡ floor before
floor-stays note before none = rw none (omega arith)

-- a right pick of a lawful journal is the floor from then on
pub floor-pick : {T : Type 0} (terms : Terms) (queue runtime : ℕ) (before : Journal T) → EachNote (MayStand terms) before → IsRightPick terms.burst queue runtime before →
    floor (Pick queue runtime ∷ before) ≡ runtime
floor-pick terms queue runtime before notes right =
    let below = floor_below terms queue before notes right.eligible.work in
    let at : runtime ≡ virtual_runtime terms.burst queue before = right.at in
    omega arith
