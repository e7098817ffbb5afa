-- Lanes, ends and desks that no call leaves, each refused by the definition that judges it.
use Rattle.std.specs.Prelude.{◌≡◌, ℕ, false, List, [], ◌∷◌, Some, None}
use Rattle.std.proofs.Common.{ap, arith}
use Rattle.base_words.specs.declared.names.JobId.{JobId}
use Rattle.base_words.specs.declared.order.Order.{Order}
use Rattle.base_words.specs.declared.order.Outcome.{Outcome}
use Rattle.base_jobs.specs.Calls.{Call}
use Rattle.link_ends.specs.declared.ends.Outward.{Outward}
use Rattle.actor_desk.specs.Desks.{AreEndsOf, AreUnused, AtCore, Desk, IsFor}
use Rattle.actor_desk.specs.Held.{Adds}
use Rattle.actor_desk.specs.Lanes.{Lane, fresh_lane}
use Rattle.actor_desk.specs.Lent.{DoesLent}
use Rattle.actor_desk.specs.Posts.{IsLent, PostView, lends}
use Rattle.actor_desk.specs.Spending.{HoldsSome}
use Rattle.actor_desk.specs.Steps.{CollectsAll, CollectsNext}
use Rattle.actor_desk.specs.Submissions.{DeskView}

-- the desk of the outside actor of one core, whose journal has no room and which has no lane
abbrev pub empty : DeskView ℕ ℕ
empty = record { actor = 1; cores = 1; cap = 1; burst = 1; journal = record { notes = []; passed = []; room = 0 }; lanes = [] }

-- its submissions, with a lane, and without
abbrev pub desk : Desk ℕ ℕ
desk = record { actor = 1; lanes = fresh_lane 1 ∷ [] }

abbrev pub no_lanes : Desk ℕ ℕ
no_lanes = record { actor = 1; lanes = [] }

-- a submission to the core
abbrev pub job : JobId
job = record { from = 1; to = 0; number = 1 }

-- an end that shows an outcome which it hasn't got
abbrev pub showing : ℕ × Outcome ℕ ℕ → Outward ℕ ℕ
showing outcome = record { from = 1; to = 0; base = 0; capacity = 1; sent = []; seen = outcome ∷ []; got = 0; closed = false }

-- nothing is no entry
pub none_some : {A : Type 0} {value : A} → None ≡ Some value → ⊥
none_some same = cc

-- a number is added, and isn't there
pub added_nowhere : Adds {V = ℕ} [] [] 1 7 → ⊥
added_nowhere adds = none_some adds.here

-- a desk without a lane holds a submission, knows a name, and has a lane that changes
pub held_nowhere : HoldsSome job empty → ⊥
held_nowhere holds = none_some holds.1

pub name_of_no_core : IsFor no_lanes job → ⊥
name_of_no_core is = absurd (omega (arith, is.1))

-- a lane changes for nothing, and outcomes are left where all are collected
pub changed_for_nothing : (out later : Outward ℕ ℕ) → CollectsNext (fresh_lane 1) (fresh_lane 2) out later 0 0 None → ⊥
changed_for_nothing out later collects = absurd (omega (arith, ap (λ (lane : Lane ℕ ℕ). lane.room) collects.1))

pub shown_is_left : (out : Outward ℕ ℕ) (outcome : ℕ × Outcome ℕ ℕ) → CollectsAll (fresh_lane 1) (fresh_lane 1) out (showing outcome) 0 0 0 → ⊥
shown_is_left out outcome collects = absurd (omega (arith, collects.1))

module _ (fits : Order ℕ → Outcome ℕ ℕ → Type 0) (out : ℕ → Outward ℕ ℕ) (credited : ℕ → ℕ) where
  -- a lane has no end, and a core has none
  pub lane_without_end : AreEndsOf fits out credited desk [] → ⊥
  lane_without_end ends = absurd (omega (arith, ends.count))

  pub core_without_end : AreUnused out credited 1 1 [] → ⊥
  core_without_end unused = absurd (omega (arith, unused.count))

  pub changed_nowhere : (step : Lane ℕ ℕ → Lane ℕ ℕ → ℕ → ℕ → Type 0) → AtCore no_lanes no_lanes [] [] 0 step → ⊥
  changed_nowhere step changes = none_some changes.lane_was

  -- a desk is lent without room for a note
  pub lent_without_room : IsLent fits out credited (lends empty []) → ⊥
  lent_without_room lent = absurd (omega (arith, lent.spare))

  -- a call leaves another desk than the one that was lent
  pub another_desk : (untouched : ℕ → List ℕ) (post later : PostView ℕ ℕ ℕ) (call : Call ℕ ℕ) →
      DoesLent fits out credited untouched (record { lent = post; desk_at = 0; ends_at = 1 }) call (record { lent = later; desk_at = 2; ends_at = 1 }) → ⊥
  another_desk untouched post later call does = absurd (omega (arith, does.desk_at))
