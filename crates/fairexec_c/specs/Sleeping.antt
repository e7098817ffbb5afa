-- What the calls on timers do: to the core alone, or to the core of a house, and to the handle of the timers.
use Rattle.std.specs.Prelude.{◌≡◌, ℕ, Option, Some, None}
use Rattle.base_jobs.specs.declared.job.Step.{Step}
use Rattle.core_core.specs.State.{CoreView}
use Rattle.core_timers.specs.Timers.{Timers}
use Rattle.host_core.specs.declared.job.HostJob.{HostJob}
use Rattle.host_core.specs.Hosted.{HostedView}
use Rattle.host_core.specs.Waking.{name_out}
use Rattle.host_calls.specs.declared.code.Code.{Code}
use Rattle.host_calls.specs.declared.code.Code.TheVariants as code
use Rattle.host_calls.specs.declared.member.Member.{Member}
use Rattle.host_calls.specs.declared.member.Member.TheVariants as member
use Rattle.host_calls.specs.Codes.{number_of}
use Rattle.host_calls.specs.Members.{OnCore, OnSleepers}
use Rattle.host_calls.specs.Sleepers.{OpensTimers, RunTimes, SettlesNamed, WakesDue}
use Rattle.fairexec_c.specs.Handles.{Answers}
use Rattle.fairexec_c.specs.Running.{SettlesStep}
use Rattle.fairexec_c.specs.Waking.{WakesNamed}

-- the run of the job that is out is settled, and it sleeps from then on if it parks and says until when
abbrev pub SettlesUntil : Option (Step ℕ) → RunTimes → CoreView HostJob → Timers → Code → CoreView HostJob → Timers → Type 0
SettlesUntil step times old = SettlesNamed (λ before code behind. SettlesStep before step times.spent code behind) step times.until (name_out old.out) old

-- the job of a core alone whose timer is due next is woken, unless none is due by now
abbrev pub WakesDueAlone : ℕ → CoreView HostJob → Timers → Code → CoreView HostJob → Timers → Type 0
WakesDueAlone = WakesDue (λ (view : CoreView HostJob). view.queues) WakesNamed

-- a call on the timers of a handle; an empty one, and one of something else, is told so, and nothing changes
abbrev pub OnTimers : Option Member → Type 0 → Code → Option Member → (Timers → Code → Timers → Type 0) → Type 0
OnTimers None same told new does = (told ≡ code.Empty) × same × (new ≡ None)
OnTimers (Some old) same told (Some new) does = OnSleepers old same told new does
OnTimers (Some old) same told None does = ⊥

-- a call on the core of a house and on the timers of a handle; without timers, or with no core, that is told, and nothing changes
abbrev pub OnBoth : Member → Option Member → Code → Member → Option Member → (HostedView → Timers → Code → HostedView → Timers → Type 0) → Type 0
OnBoth old None told new after does = (told ≡ code.Empty) × (new ≡ old) × (after ≡ None)
OnBoth old (Some before) told new (Some after) does =
    OnCore old (after ≡ before) told new (λ at code gets. OnSleepers before (gets ≡ at) code after (λ timers tells kept. does at timers tells gets kept))
OnBoth old (Some before) told new None does = ⊥

-- an empty handle gets timers, or stays empty
abbrev pub OpensInto : ℕ → Code → Option Member → Type 0
OpensInto jobs told None = OpensTimers jobs told None
OpensInto jobs told (Some (member.Sleepers timers)) = OpensTimers jobs told (Some timers)
OpensInto jobs told (Some other) = ⊥

-- one that holds something keeps it
abbrev pub Opens : Option Member → ℕ → ℕ → Option Member → Type 0
Opens None jobs number new = Answers number (λ told. OpensInto jobs told new)
Opens (Some old) jobs number new = (number ≡ number_of code.Occupied) × (new ≡ Some old)
