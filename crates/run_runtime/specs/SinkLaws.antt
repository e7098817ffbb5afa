-- What a finish with sinks comes to, where no sink refused.
use Rattle.std.specs.Prelude.{◌≡◌, All, ℕ, ◌<◌, [], Option}
use Rattle.base_words.specs.Assembly.{journal_of}
use Rattle.base_words.specs.Journal.{Journal}
use Rattle.base_jobs.specs.Meanings.{Meaning}
use Rattle.run_worker.specs.Rooms.{ActsByCommand}
use Rattle.run_runtime.specs.declared.passed.ActorNotes.{ActorNotes}
use Rattle.run_runtime.specs.declared.passed.Passed.{Passed}
use Rattle.actor_caller.specs.State.{RuntimeView}
use Rattle.run_runtime.specs.WithSinks.{HasPassed, assembly_of}

module _ {S : Type 0} (refused : S → ℕ → Type 0) where
  -- the sink of this actor never refused
  abbrev pub NeverRefused : ActorNotes S → Type 0
  NeverRefused actor = (count : ℕ) → refused actor.sink count → ⊥

module _ {J S : Type 0} (meaning : Meaning J ℕ) (has : S → Journal ℕ) (refused : S → ℕ → Type 0) (asks : S → Option ℕ) (mark : S → ℕ) where
  -- where no sink refused, no core closed by itself, and the sinks have all notes
  abbrev pub NeverRefusedNeverShort : Type 0
  NeverRefusedNeverShort =
      (view : RuntimeView J ℕ) (passed : Passed S) → HasPassed meaning has refused asks mark view passed → All (NeverRefused refused) passed.actors.items →
      ((core : ℕ) → core < view.desk.cores → ActsByCommand (journal_of core (assembly_of has passed))) × All (λ actor. actor.kept.notes ≡ []) passed.actors.items
