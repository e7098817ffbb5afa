-- Drafts of a script that keep no limits, each for one thing.
use Rattle.std.specs.Prelude.{ℕ, [], ◌∷◌, List, None, Some}
use Rattle.base_words.specs.declared.order.Order.TheVariants.{Job}
use Rattle.base_jobs.specs.Scripts.{Script}
use Rattle.base_jobs.specs.declared.poll.Poll.TheVariants.{Done}
use Rattle.fairexec_script.specs.declared.event.ScriptEvent.{ScriptEvent}
use Rattle.fairexec_script.specs.declared.event.ScriptEvent.TheVariants.{Send, Deliver, Turn}
use Rattle.fairexec_script.specs.Counts.{HasCountedLines}
use Rattle.fairexec_script.specs.Drafts.{Drafted}
use Rattle.fairexec_script.specs.Limits.{IsWithinLimits}

-- a draft of so many cores, whose links hold four
abbrev pub draft_of : ℕ → ℕ → List (ℕ × ℕ) → List ScriptEvent → Drafted
draft_of cores burst queues events = record { size = Some (cores, 4); burst = burst; queues = queues; events = events }

-- the outside actor of one core sends it this job
abbrev pub sends : Script → List ScriptEvent
sends job = Send 1 0 (Job 0 job) ∷ []

-- a `queue` line stands before the size is told
abbrev pub unsized : Drafted
unsized = record { size = None; burst = 1; queues = (0, 500) ∷ []; events = [] }

-- one core has one `queue` line
abbrev pub one_queue : Drafted
one_queue = draft_of 1 1 ((0, 500) ∷ []) []

-- each of these is refused
pub record DraftsAreRefused : Type 0 where
  pub without_size : IsWithinLimits unsized → ⊥
  -- no core, and one too many
  pub no_cores : IsWithinLimits (draft_of 0 1 [] []) → ⊥
  pub many_cores : IsWithinLimits (draft_of 17 1 [] []) → ⊥
  -- no poll of a turn, and one too many
  pub no_burst : IsWithinLimits (draft_of 1 0 [] []) → ⊥
  pub long_burst : IsWithinLimits (draft_of 1 65 [] []) → ⊥
  -- a `queue` line of a core that isn't there
  pub queue_of_none : IsWithinLimits (draft_of 1 1 ((1, 500) ∷ []) []) → ⊥
  -- a turn of such a core, and a delivery from an actor that isn't there
  pub turn_of_none : IsWithinLimits (draft_of 1 1 [] (Turn 1 ∷ [])) → ⊥
  pub from_none : IsWithinLimits (draft_of 1 1 [] (Deliver 0 2 ∷ [])) → ⊥
  -- a job without polls, and one that was polled
  pub no_polls : IsWithinLimits (draft_of 1 1 [] (sends (record { polls = []; polled = 0 }))) → ⊥
  pub was_polled : IsWithinLimits (draft_of 1 1 [] (sends (record { polls = Done 5 1 ∷ []; polled = 1 }))) → ⊥
  -- a `queue` line that isn't counted, and one that is counted twice
  pub uncounted : HasCountedLines one_queue [] → ⊥
  pub counted_twice : HasCountedLines one_queue (2 ∷ []) → ⊥
