-- How a handle gets its core, and how it loses it.
use Rattle.std.specs.Prelude.{◌≡◌, ◌⊎◌, ℕ, ◌+◌, ◌*◌, ◌/◌, ◌<◌, ◌≤◌, Option, Some, None}
use Rattle.core_core.specs.State.{CoreView, opened}
use Rattle.host_calls.specs.declared.code.Code.{Code}
use Rattle.host_calls.specs.declared.code.Code.TheVariants as code
use Rattle.host_core.specs.declared.job.HostJob.{HostJob}
use Rattle.host_calls.specs.Codes.{number_of}
use Rattle.fairexec_c.specs.Handles.{Answers}

-- half of the jobs, rounded up: the capacity of each of the two links for which a core keeps room
abbrev pub half_room : ℕ → ℕ
half_room jobs = (jobs + 1) / 2

-- an empty handle gets a core with room for so many jobs, or stays empty
abbrev pub OpensCore : ℕ → Code → Option (CoreView HostJob) → Type 0
OpensCore jobs code.Ok new = (1 ≤ jobs) × (jobs ≤ 131070) × (new ≡ Some (opened 0 1 (2 * half_room jobs) 0 1))
OpensCore jobs code.BadNumber new = ((jobs ≡ 0) ⊎ (131070 < jobs)) × (new ≡ None)
OpensCore jobs code.NoMemory new = (1 ≤ jobs) × (jobs ≤ 131070) × (new ≡ None)
OpensCore jobs other new = ⊥

-- one that has a core keeps it
abbrev pub Opens : Option (CoreView HostJob) → ℕ → ℕ → Option (CoreView HostJob) → Type 0
Opens None jobs number new = Answers number (λ told. OpensCore jobs told new)
Opens (Some old) jobs number new = (number ≡ number_of code.Occupied) × (new ≡ Some old)
