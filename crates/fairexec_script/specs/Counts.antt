-- How often each core was named.
use Rattle.std.specs.Prelude.{◌≡◌, ℕ, List, get_or}
use Rattle.fairexec_script.specs.Drafts.{Drafted, queue_lines}
use Rattle.fairexec_script.specs.Limits.{IsWithinLimits}

-- how often the core was named; each core has its place in the list
abbrev pub count_of : ℕ → List ℕ → ℕ
count_of core counts = get_or counts core 0

-- a draft within the limits, and each core's `queue` lines are counted
pub record HasCountedLines (draft : Drafted) (counts : List ℕ) : Type 0 where
  pub limits : IsWithinLimits draft
  pub each : (core : ℕ) → count_of core counts ≡ queue_lines core draft.queues
