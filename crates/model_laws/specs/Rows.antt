-- Worked rows: what the events of small scripts come to.
use Rattle.std.specs.Prelude.{◌≡◌, ◌≤◌, ℕ, List}
use Rattle.base_words.specs.declared.names.JobId.{JobId}
use Rattle.base_words.specs.Journal.{Journal}
use Rattle.base_jobs.specs.declared.poll.Poll.{Poll}
use Rattle.base_jobs.specs.Scripts.{Script}
use Rattle.model_world.specs.declared.event.Event.{Event}
use Rattle.model_world.specs.declared.event.Reply.{Reply}
use Rattle.model_world.specs.State.{WorldView}
use Rattle.model_world.specs.Opening.{IsFresh}
use Rattle.model_laws.specs.Creations.{with_creations}
use Rattle.model_laws.specs.ScriptRuns.{IsScriptRun}

abbrev pub name : ℕ → ℕ → ℕ → JobId
name sender core number = record { from = sender; to = core; number = number }

-- a job of these polls, none of which is made
abbrev pub job_of : List Poll → Script
job_of polls = record { polls = polls; polled = 0 }

-- there is a run of the events with these replies that ends with these journals, and each run of them is such
pub record HasOneRun (start : WorldView Script ℕ) (events : List (Event Script)) (journals : List (Journal ℕ)) (replies : List (Reply Script)) : Type 0 where
  pub end : WorldView Script ℕ
  pub run : IsScriptRun events start end replies
  pub ends : end.journals ≡ journals
  pub only : (other : WorldView Script ℕ) (others : List (Reply Script)) → IsScriptRun events start other others → (other.journals ≡ journals) × (others ≡ replies)

-- the same, from each fresh world of these numbers, whose journals have some room, with these queues
abbrev pub RunsJust : ℕ → ℕ → ℕ → List (ℕ × ℕ) → List (Event Script) → List (Journal ℕ) → List (Reply Script) → Type 0
RunsJust cores cap burst queues events journals replies =
    (room : ℕ) (empty : WorldView Script ℕ) → 100 ≤ room → IsFresh cores cap burst room empty →
    HasOneRun (with_creations queues empty) events journals replies
