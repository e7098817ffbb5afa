-- Answers that no call may give, each refused by the definition that judges it.
use Rattle.std.proofs.Common.{refl, arith, ap}
use Rattle.std.specs.Prelude.{ℕ, Option, Some, None, Result}
use Rattle.base_words.specs.declared.order.Order.{Order}
use Rattle.core_core.specs.State.{CoreView}
use Rattle.host_calls.specs.declared.code.Code.{Code}
use Rattle.host_calls.specs.declared.code.Code.TheVariants as code
use Rattle.host_core.specs.declared.job.HostJob.{HostJob}
use Rattle.host_calls.specs.declared.house.Config.{Config}
use Rattle.host_calls.specs.declared.member.Member.{Member}
use Rattle.host_calls.specs.declared.names.Name.{Name}
use Rattle.fairexec_c.specs.Handles.{OnCore}
use Rattle.fairexec_c.specs.Houses.{EndsInto, OpensOn, TakesFrom}
use Rattle.fairexec_c.specs.Opening.{Opens, OpensCore}
use Rattle.fairexec_c.specs.Running.{SettlesStep, step_of}
use Rattle.fairexec_c.specs.Seats.{Submits}
use Rattle.fairexec_c.specs.Waking.{WakesNumber}

-- an empty handle is told that all went well
pub empty_is_ok : (does : CoreView HostJob → Code → CoreView HostJob → Type 0) → OnCore None None 0 does → ⊥
empty_is_ok does told = cc told

-- a call loses the core
pub core_is_lost : (old : CoreView HostJob) (number : ℕ) (does : CoreView HostJob → Code → CoreView HostJob → Type 0) → OnCore (Some old) None number does → ⊥
core_is_lost old number does told = told

-- a core without room is told as a want of memory
pub no_room_is_no_memory : (new : Option (CoreView HostJob)) → OpensCore 0 code.NoMemory new → ⊥
no_room_is_no_memory new told = omega (arith, told.0)

-- a handle that has a core is opened
pub occupied_is_ok : (old new : CoreView HostJob) → Opens (Some old) 4 0 (Some new) → ⊥
occupied_is_ok old new told = cc told.0

-- an opening is told that the handle has no core
pub opening_is_empty : OpensCore 4 code.Empty None → ⊥
opening_is_empty told = told

-- a run comes to a step that isn't one
pub no_step_is_ok : (old new : CoreView HostJob) → SettlesStep old (step_of 3) 10 code.Ok new → ⊥
no_step_is_ok old new told = told

-- a wake is told as a park
pub wake_is_parked : (old new : CoreView HostJob) → WakesNumber old 1 code.Parked new → ⊥
wake_is_parked old new told = told

-- a seat goes out of an empty handle
pub empty_handle_gives_a_seat : (seat : Member) → TakesFrom None None 0 0 None (Some seat) 1 → ⊥
empty_handle_gives_a_seat seat told = cc told.0

-- an empty handle ends in a house
pub empty_handle_ends : (house new : Member) → EndsInto house None code.Ok new None → ⊥
empty_handle_ends house new told = cc told.0

-- a house is opened, and the handle stays empty
pub opened_is_empty : (config : Config) → OpensOn config code.Ok None → ⊥
opened_is_empty config told = told

-- an empty handle tells the name of a submission
pub empty_handle_names : (order : Result (Order ℕ) Code) → Submits None 0 order (record { number = 0; from = 0; to = 0 }) 12 (record { number = 1; from = 0; to = 0 }) None → ⊥
empty_handle_names order told = omega (arith, ap (λ (name : Name). name.number) (told.1 refl))

-- a submission loses the seat
pub seat_is_lost : (old : Member) (order : Result (Order ℕ) Code) (before after : Name) → Submits (Some old) 0 order before 0 after None → ⊥
seat_is_lost old order before after told = told.0
