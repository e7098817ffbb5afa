-- What the journals tell of the polls of a script's jobs.
use Rattle.std.specs.Prelude.{◌≡◌, ℕ, List, [], ◌∷◌, IfOk}
use Rattle.base_words.specs.declared.names.JobId.{JobId}
use Rattle.base_words.specs.declared.note.Note.{Note}
use Rattle.base_words.specs.declared.note.Note.TheVariants as writes
use Rattle.base_words.specs.declared.order.Order.{Order}
use Rattle.base_words.specs.declared.order.Order.TheVariants.{Job}
use Rattle.base_words.specs.Assembly.{Assembly, journal_of}
use Rattle.base_words.specs.Journal.{Journal, EachNote}
use Rattle.base_words.specs.Terms.{terms_of}
use Rattle.base_jobs.specs.ScriptMeaning.{script_meaning}
use Rattle.base_jobs.specs.Scripts.{Script}
use Rattle.base_jobs.specs.declared.job.Step.{Step}
use Rattle.base_jobs.specs.declared.job.Step.TheVariants as steps
use Rattle.actor_core.specs.OwedPolls.{IsPollOf}
use Rattle.actor_core.specs.ScriptPolls.{IsPolledByWords}
use Rattle.run_runtime.specs.Outcomes.{Orders, seen_at_end}
use Rattle.run_runtime.specs.State.{RuntimeView}
use Rattle.fairexec_script.specs.Orders.{Told}
use Rattle.fairexec_threads.specs.Offers.{OffersAll}

module _ (sent : Orders Script) (assembly : Assembly ℕ) where
  module _ (name : JobId) (queue : ℕ) (job : Script) where
    -- A poll of this job is the next of its words: the word's time counts, the job yields, parks or is done as the word says, and it is done exactly at
    -- the last word. The notes behind the poll's beginning are those of the word's calls, so a `p` has sent its small job there, or it was refused for
    -- a reason that the journals tell.
    pub record IsItsWord (time : ℕ) (step : Step ℕ) (before : Journal ℕ) : Type 0 where
      pub owed : IsPollOf script_meaning (terms_of name.to assembly) (seen_at_end assembly sent name.to) queue job name time step before
      pub words : IsPolledByWords job name time step before

    -- a note that settles a poll of this job settles the next of its words
    abbrev pub TellsItsWord : Note ℕ → Journal ℕ → Type 0
    TellsItsWord (writes.Yield other time) before = other ≡ name → IsItsWord time steps.Yield before
    TellsItsWord (writes.Park other time) before = other ≡ name → IsItsWord time steps.Park before
    TellsItsWord (writes.Stayed other time) before = other ≡ name → IsItsWord time steps.Park before
    TellsItsWord (writes.Done other time value) before = other ≡ name → IsItsWord time (steps.Done value) before
    TellsItsWord _ before = Unit {0}

  -- each poll that the journal of its core tells of the job of this order is the one that its words say
  abbrev pub IsPolledAsTold : JobId → Order Script → Type 0
  IsPolledAsTold name (Job queue job) = EachNote (TellsItsWord name queue job) (journal_of name.to assembly)
  IsPolledAsTold name _ = Unit {0}

  -- so it is with each of these orders that was accepted
  abbrev pub ArePolledAsTold : (orders : List Told) (old new : RuntimeView Script ℕ) → OffersAll orders old new → Type 0
  ArePolledAsTold [] old new offers = Unit {0}
  ArePolledAsTold (told ∷ rest) old new offers = IfOk offers.1.answer (λ name. IsPolledAsTold name told.1) × ArePolledAsTold rest offers.0 new offers.2
