-- What workers leave that have ended.
use Rattle.std.specs.Prelude.{◌≡◌, ℕ, List, map}
use Rattle.base_words.specs.Journal.{Journal}
use Rattle.base_jobs.specs.Meanings.{Meaning}
use Rattle.link_ring.specs.Ends.{EndsView}
use Rattle.run_team.specs.Works.{Together}
use Rattle.run_worker.specs.Ended.{EndedView, HasEnded}
use Rattle.run_runtime.specs.declared.passed.ActorNotes.{ActorNotes}
use Rattle.run_runtime.specs.WithSinks.{KeepsRefused, notes_of}

module _ {J S : Type 0} (meaning : Meaning J ℕ) (has : S → Journal ℕ) (refused : S → ℕ → Type 0) where
  -- the notes of this worker, which has ended: what its sink has, and what is kept behind it
  pub record IsPart (worker : EndedView J ℕ S) (actor : ActorNotes S) : Type 0 where
    pub ended : HasEnded meaning has refused worker
    pub sink_is : actor.sink ≡ worker.sink
    pub notes_are : notes_of has actor ≡ worker.linked.recorded.journal.notes
    pub rest : KeepsRefused has refused actor

  -- the ends and the notes of these workers
  pub record Parts (all : List (EndedView J ℕ S)) (ends : List (EndsView J ℕ)) (actors : List (ActorNotes S)) : Type 0 where
    pub ends_are : ends ≡ map (λ worker. worker.linked.ends) all
    pub each : Together IsPart all actors
