-- Queues, slips and turns that no call leaves, each refused by the definition that judges it.
use Rattle.std.specs.Prelude.{◌≡◌, ℕ, ◌≤◌, Bool, true, false, List, [], ◌∷◌, None}
use Rattle.std.proofs.Common.{ap, length, length-append, arith}
use Rattle.base_words.specs.declared.names.JobId.{JobId}
use Rattle.base_words.specs.declared.order.Mode.TheVariants.{Return}
use Rattle.base_jobs.specs.Calls.{Call, Makes}
use Rattle.base_jobs.specs.Meanings.{Meaning}
use Rattle.base_jobs.specs.declared.job.Step.{Step}
use Rattle.core_queues.specs.declared.queues.parks.Woke.TheVariants.{Moved, Absent}
use Rattle.core_queues.specs.Fronts.{HasFront, IsFrontReady, MakesCalls, PollsFront, RestsFront, TurnsFront, TurnsLine}
use Rattle.core_queues.specs.Slips.{AddsQueue, ChangesLine, ChangesMode, ChangesShares, IsWithinLimits, SlippedView, has_slip}
use Rattle.core_queues.specs.View.{Marks, QueuesView, first_queue}
use Rattle.core_queues.specs.Waking.{Wakes}

-- a core whose queue has no job, and one slip, which is there or not
abbrev pub idle : QueuesView ℕ
idle = first_queue 4

abbrev pub slip : Bool → SlippedView ℕ
slip there = record { queues = []; room = 0; slips = there ∷ [] }

-- a slip that was given out is there
pub given_slip_there : has_slip 0 (slip false) ≡ true → ⊥
given_slip_there has = let there : false ≡ true = has in cc

-- a slip is lost as a line, shares or a mode change, and a queue comes without one
pub slip_lost_by_line : ChangesLine (slip true) (slip false) 0 [] → ⊥
slip_lost_by_line changes = let slips : false ∷ [] ≡ true ∷ [] = changes.slips in cc

pub slip_lost_by_shares : ChangesShares (slip true) (slip false) 0 7 → ⊥
slip_lost_by_shares changes = let slips : false ∷ [] ≡ true ∷ [] = changes.slips in cc

pub slip_lost_by_mode : ChangesMode (slip true) (slip false) 0 Return → ⊥
slip_lost_by_mode changes = let slips : false ∷ [] ≡ true ∷ [] = changes.slips in cc

pub queue_without_slip : AddsQueue (slip true) (slip true) 1 7 → ⊥
queue_without_slip adds = let slips : true ∷ [] ≡ true ∷ true ∷ [] = adds.slips in cc

-- a core has no queue
pub no_queue_there : IsWithinLimits (slip true) → ⊥
no_queue_there limits = let some : 1 ≤ 0 = limits.some_queue in absurd (omega (arith, some))

-- a job moves that isn't parked, and the room grows where there is no such job
pub nobody_moves : (name : JobId) (new : QueuesView ℕ) → Wakes idle name (Moved 0) new → ⊥
nobody_moves name new wakes = absurd (omega (arith, ap length wakes.was, length-append wakes.before ((name, wakes.job) ∷ wakes.behind)))

pub room_grows : (name : JobId) → Wakes idle name Absent (first_queue 5) → ⊥
room_grows name wakes = absurd (omega (arith, ap (λ (view : QueuesView ℕ). view.room) wakes.1))

-- a post changes without a call
pub changed_without_a_call : MakesCalls {P = ℕ} {J = ℕ} {T = ℕ} (λ old call new. ⊥) 0 1 (λ calls. Unit {0}) → ⊥
changed_without_a_call makes = by_calls makes.0 makes.1
  where
    by_calls : (calls : List (Call ℕ ℕ)) → Makes {P = ℕ} {J = ℕ} {T = ℕ} (λ old call new. ⊥) calls 0 1 → ⊥
    by_calls [] made = absurd (omega (arith, made))
    by_calls (call ∷ calls) made = made.1

-- an empty line has no first job
pub no_first : {A : Type 0} {first : A} {others : List A} → [] ≡ first ∷ others → ⊥
no_first same = cc

-- an empty line has a head, may be polled, is turned, rests, and has a turn
pub empty_has_a_head : (name : JobId) (marks : Marks) → HasFront idle 0 name marks → ⊥
empty_has_a_head name marks has = no_first has.2

pub empty_is_ready : (meaning : Meaning ℕ ℕ) → IsFrontReady meaning [] → ⊥
empty_is_ready meaning ready = ready

pub empty_is_turned : (new : QueuesView ℕ) → TurnsLine idle new 0 → ⊥
empty_is_turned new turns = no_first turns.first

pub empty_rests : (new : QueuesView ℕ) → RestsFront idle new 0 → ⊥
empty_rests new rests = no_first rests.first

module _ (meaning : Meaning ℕ ℕ) (calls : List (Call ℕ ℕ)) (step : Step ℕ) (new : QueuesView ℕ) where
  pub empty_is_polled : PollsFront meaning idle 0 calls step None new → ⊥
  empty_is_polled polls = no_first polls.first

  pub empty_has_a_turn : TurnsFront meaning idle 0 calls step None new → ⊥
  empty_has_a_turn turns = no_first turns.first
