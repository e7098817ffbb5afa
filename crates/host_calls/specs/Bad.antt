-- Answers that no call may give, each refused by the definition that judges it.
use Rattle.std.proofs.Common.{arith, inl, inr}
use Rattle.std.specs.Prelude.{◌≡◌, ℕ, List, [], Some, None, Ok, Err, true, false}
use Rattle.base_words.specs.declared.order.Mode.TheVariants.{Finish}
use Rattle.base_words.specs.declared.order.Order.{Order}
use Rattle.base_words.specs.Assembly.{Assembly}
use Rattle.host_core.specs.Hosted.{HostedView}
use Rattle.host_text.specs.Ended.{EndedView, ended_of}
use Rattle.host_calls.specs.declared.code.Code.{Code}
use Rattle.host_calls.specs.declared.code.Code.TheVariants as code
use Rattle.host_calls.specs.declared.figures.CoreFigures.{CoreFigures}
use Rattle.host_calls.specs.declared.house.Config.{Config}
use Rattle.host_calls.specs.declared.member.Member.{Member}
use Rattle.host_calls.specs.declared.member.Member.TheVariants as member
use Rattle.host_calls.specs.declared.verdicts.VerdictTold.{VerdictTold}
use Rattle.host_calls.specs.Ending.{Awaits, Becomes}
use Rattle.host_calls.specs.Houses.{OpensKept, TakesNone, TakesOut}
use Rattle.host_calls.specs.Kept.{KeptView}
use Rattle.host_calls.specs.Links.{IsTold}
use Rattle.host_calls.specs.Members.{OnCore}
use Rattle.host_calls.specs.Orders.{IsCoreOrder, IsJobOrder}
use Rattle.host_calls.specs.Passing.{PassesTold}
use Rattle.host_calls.specs.Stats.{SeatTells}
use Rattle.host_calls.specs.Turns.{SettlesTold, step_of}
use Rattle.host_calls.specs.Verdicts.{JudgesTold}

-- a house is told that it made a turn
pub house_makes_a_turn : (house : KeptView) (new : Member) (does : HostedView → Code → HostedView → Type 0) → OnCore (member.House house) (Unit {0}) code.Start new does → ⊥
house_makes_a_turn house new does told = cc told.0

-- a call loses the core
pub core_is_lost : (old : HostedView) (house : KeptView) (does : HostedView → Code → HostedView → Type 0)
    → OnCore (member.Core old) (Unit {0}) code.Ok (member.House house) does → ⊥
core_is_lost old house does told = told

-- a job for a queue that no core can have
pub far_queue_has_a_job : (it : Order ℕ) → IsJobOrder 256 7 (Ok it) → ⊥
far_queue_has_a_job it is = omega (arith, is.0)

-- a core that is to finish is told that there is no such mode
pub finish_is_no_mode : IsCoreOrder (Some Finish) (Err code.BadNumber) → ⊥
finish_is_no_mode is = cc is.0

-- a run comes to a step that isn't one
pub no_step_is_ok : (old new : HostedView) → SettlesTold old (step_of 3 0) 10 code.Ok new → ⊥
no_step_is_ok old new told = cc told.0

-- whether a core is drained is told as that it is idle
pub drained_is_idle : (view : HostedView) → IsTold view code.Idle → ⊥
drained_is_idle view told = told

-- a house is opened, and none is told
pub opening_is_empty : (config : Config) → OpensKept config (Err code.Empty) → ⊥
opening_is_empty config told = told

-- a house goes out of a house
pub house_goes_out : (old new inner : KeptView) → TakesOut old (member.House inner) 0 new → ⊥
house_goes_out old new inner told = told

-- all seats were taken, and that is told as a want of memory
pub taken_is_no_memory : (old new : KeptView) → old.outside ≡ None → old.left ≡ [] → TakesNone old code.NoMemory new → ⊥
taken_is_no_memory old new outside left told = told.0 (outside, left)

-- a house ends in a house
pub house_may_end : (house inner : KeptView) → Awaits house (member.House inner) code.Ok → ⊥
house_may_end house inner told = told.0

-- a house becomes a core
pub house_becomes_a_core : (house : KeptView) (core : HostedView) → Becomes house (member.Core core) → ⊥
house_becomes_a_core house core told = told

-- an audit is told that the host runs a job
pub audit_is_busy : (ended : EndedView) (before after : VerdictTold) → JudgesTold ended before code.Busy after → ⊥
audit_is_busy ended before after told = told

-- journals that lack notes are judged
pub parted_is_judged : (assembly : Assembly ℕ) (before after : VerdictTold) → JudgesTold (ended_of assembly true) before code.Ok after → ⊥
parted_is_judged assembly before after told = cc told.1.1.whole

-- journals that lack nothing are told as passed on
pub whole_is_passed_on : (assembly : Assembly ℕ) (before after : VerdictTold) → JudgesTold (ended_of assembly false) before code.PassedOn after → ⊥
whole_is_passed_on assembly before after told = cc told.1

-- a house hands on notes
pub house_hands_on : (house : KeptView) (new : Member) (before after : List ℕ) (count counted : ℕ) → PassesTold (member.House house) before count code.Ok new after counted → ⊥
house_hands_on house new before after count counted (inl told) = cc told.1
house_hands_on house new before after count counted (inr told) = told.0

-- statistics are told that the core is closed
pub counts_are_closed : (view : HostedView) (before after : CoreFigures) → SeatTells view before code.CoreClosed after → ⊥
counts_are_closed view before after told = told
