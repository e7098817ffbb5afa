-- What follows for a core that its journal keeps.
use Rattle.std.specs.Prelude.{◌≡◌, ℕ, Bool, Some}
use Rattle.base_words.specs.Terms.{Terms}
use Rattle.base_words.specs.declared.names.JobId.{JobId}
use Rattle.base_words.specs.Journal.{Journal}
use Rattle.base_words.specs.Work.{has_work}
use Rattle.base_words.specs.Commands.{refusal, stays_in_line}
use Rattle.base_words.specs.Picks.{IsRightPick}
use Rattle.core_core.specs.State.{CoreView, JobOut, is_working, runtime_of}
use Rattle.core_core.specs.Turns.{TakesOut}
use Rattle.core_core.specs.Closing as core_says
use Rattle.core_core.specs.Settling.{stays}
use Rattle.actor_core.specs.Agreement.{IsKept}

module _ (J T : Type 0) where
  -- a queue works where it has work in the journal
  abbrev pub WorksAsTold : Type 0
  WorksAsTold = (terms : Terms) (core : CoreView J) (journal : Journal T) → IsKept terms core journal → (queue : ℕ) → is_working queue core ≡ has_work queue journal

  -- a job is refused for the reason that the journal gives
  abbrev pub RefusesAsTold : Type 0
  RefusesAsTold = (terms : Terms) (core : CoreView J) (journal : Journal T) → IsKept terms core journal → (queue : ℕ) → core_says.refusal queue core ≡ refusal queue journal

  -- the job that is out stays in its line where the journal says so, if it asks to be parked
  abbrev pub StaysAsTold : Type 0
  StaysAsTold =
      (terms : Terms) (core : CoreView J) (journal : Journal T) (job : JobOut J) → IsKept terms core journal → core.out ≡ Some job → stays job core ≡ stays_in_line job.name journal

  -- what is taken out is a right pick
  abbrev pub PicksRight : Type 0
  PicksRight =
      (terms : Terms) (old new : CoreView J) (name : JobId) (queue : ℕ) (was_started : Bool) (job : J) (journal : Journal T) → IsKept terms old journal →
      TakesOut old name queue was_started job new → IsRightPick terms.burst queue (runtime_of queue old) journal
