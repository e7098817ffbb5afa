-- Closings, turns and places that no core has, each refused by the definition that judges it.
use Rattle.std.specs.Prelude.{◌≡◌, ℕ, Bool, true, false, List, [], ◌∷◌, Err}
use Rattle.std.proofs.Common.{sym, ◌∙◌, arith}
use Rattle.base_words.specs.declared.names.JobId.{JobId}
use Rattle.base_words.specs.declared.note.Note.{Note}
use Rattle.base_words.specs.declared.note.Note.TheVariants as writes
use Rattle.base_words.specs.declared.order.Mode.TheVariants.{Finish}
use Rattle.base_words.specs.declared.order.Order.TheVariants.{Job}
use Rattle.base_jobs.specs.Calls.{Call}
use Rattle.base_jobs.specs.Meanings.{Meaning}
use Rattle.base_jobs.specs.Ready.{HasReadyJob, IsReady}
use Rattle.core_core.specs.declared.turn.Settled.{Settled}
use Rattle.core_core.specs.Closing.{ClosesCore, IsDrained, ShutsGate}
use Rattle.core_core.specs.Deliveries.{CreatesQueue}
use Rattle.core_core.specs.Further.{FollowsWhole, IsAheadInTurn}
use Rattle.core_core.specs.State.{CoreView, IsBounded, no_tally, opened}
use Rattle.core_core.specs.Whole.{IsAhead, TurnsWhole}
use Rattle.core_queues.specs.declared.queues.CreateError.TheVariants.{TooMany}
use Rattle.core_timeline.specs.Tree.{IsLow}
use Rattle.model_laws.specs.BadLanes.{none_some}
use Rattle.model_laws.specs.BadQueues.{no_first}

-- a core that was just opened, alone in its house
abbrev pub fresh : CoreView ℕ
fresh = opened 0 1 4 0 1

abbrev pub job : JobId
job = record { from = 1; to = 0; number = 1 }

-- a tree of no key has three levels
pub too_high : IsLow (record { keys = []; height = 3 }) → ⊥
too_high low = absurd (omega (arith, low 1 (omega arith)))

-- a core is bounded whose queue ran before its first turn, and one is drained whose gates are open
pub ran_before_its_first_turn : IsBounded (record fresh { tallies = record no_tally { runtime = 1 } ∷ [] }) → ⊥
ran_before_its_first_turn bounded = absurd (omega (arith, bounded 0))

pub drained_with_open_gates : IsDrained fresh → ⊥
drained_with_open_gates drained = none_some (drained.delivered_all 0 (omega arith))

-- a job is ready that is done, and so it is as an order hands it in
module _ (meaning : Meaning ℕ ℕ) where
  pub done_is_ready : meaning.done 7 ≡ true → IsReady meaning 7 → ⊥
  done_is_ready done ready = let both : true ≡ false = sym done ∙ ready.0 in cc

  pub done_is_handed_in : meaning.done 7 ≡ true → HasReadyJob meaning (Job 0 7) → ⊥
  done_is_handed_in done ready = done_is_ready done ready

module _ (new : CoreView ℕ) where
  -- an open core is told as closed already
  pub closed_already : ClosesCore {T = ℕ} fresh Finish false new [] → ⊥
  closed_already told = let open_core : true ≡ false = told.0 in cc

  -- a core is closed, a gate is shut, and no note says so
  pub closed_unnoted : ClosesCore {T = ℕ} fresh Finish true new [] → ⊥
  closed_unnoted told = let noted : ◌≡◌ {A = List (Note ℕ)} [] (writes.CoreClosed Finish ∷ []) = told.2 in cc

  pub shut_unnoted : ShutsGate {T = ℕ} fresh 1 0 new [] → ⊥
  shut_unnoted told = let noted : ◌≡◌ {A = List (Note ℕ)} [] (writes.Shut 1 0 ∷ []) = told.1 in cc

  -- a core that has one queue can't have more
  pub one_is_too_many : CreatesQueue {T = ℕ} fresh 1000 (Err TooMany) new [] → ⊥
  one_is_too_many told = absurd (omega (arith, told.0))

  -- a turn, and a further poll of one, of a job that isn't there
  module _ (meaning : Meaning ℕ ℕ) (calls : List (Call ℕ ℕ)) (notes written : List (Note ℕ)) (settled : Settled ℕ) where
    pub nobody_is_turned : TurnsWhole meaning fresh 5 calls job 0 false notes settled written new → ⊥
    nobody_is_turned turns = no_first turns.picks.0.first

    pub nobody_follows : FollowsWhole meaning fresh 5 calls job 0 false notes settled written new → ⊥
    nobody_follows follows = none_some follows.follows.0.goes.going

-- nobody is ahead where nobody waits, nor in a turn that isn't open
module _ (vr : ℕ) (started woken : Bool) where
  pub nobody_is_ahead : IsAhead fresh 0 vr job started woken → ⊥
  nobody_is_ahead ahead = no_first ahead.front.2

  pub nobody_is_ahead_in_turn : IsAheadInTurn fresh 0 vr job started woken → ⊥
  nobody_is_ahead_in_turn ahead = none_some ahead.goes.going
