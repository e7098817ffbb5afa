-- All workers that have ended and the outside actor, together in one house.
use Rattle.std.specs.Prelude.{◌≡◌, ℕ, ◌<◌, List, [], ◌∷◌, ◌++◌, length, map, slice_index_or}
use Rattle.base_words.specs.Assembly.{Assembly, journal_of}
use Rattle.base_words.specs.Closing.{IsDrained}
use Rattle.base_words.specs.Joining.{AreJoined}
use Rattle.base_jobs.specs.Meanings.{Meaning}
use Rattle.actor_desk.specs.Submissions.{DeskView, terms_of_desk}
use Rattle.actor_core.specs.Recorded.{desk_of, terms_at}
use Rattle.actor_core.specs.Together.{IsAssemblyOf}
use Rattle.link_ring.specs.Ends.{EndsView}
use Rattle.link_ring.specs.Grid.{AreReunited}
use Rattle.actor_seat.specs.Linked.{LinkedView}
use Rattle.actor_seat.specs.OutsideSeats.{IsOutside, OutsideView}
use Rattle.actor_seat.specs.Together.{worker_at}
use Rattle.run_worker.specs.Ended.{HasDrained}
use Rattle.link_ends.specs.Fits.{Fits}

module _ {J T : Type 0} where
  -- what an actor says of its submissions: the last one is the outside actor
  abbrev pub desk_among : List (LinkedView J T) → OutsideView J T → ℕ → DeskView J T
  desk_among workers outside actor = slice_index_or (map (λ worker. desk_of worker.recorded) workers ++ outside.desk ∷ []) actor outside.desk

  -- the ends of all actors
  abbrev pub all_ends : List (LinkedView J T) → OutsideView J T → List (EndsView J T)
  all_ends workers outside = map (λ worker. worker.ends) workers ++ outside.ends ∷ []

module _ {J T : Type 0} (meaning : Meaning J T) where
  -- each core of the house is drained, the outside actor is there, and the links are reunited
  pub record HaveEnded (cores cap burst : ℕ) (workers : List (LinkedView J T)) (outside : OutsideView J T) : Type 0 where
    pub count : length workers ≡ cores
    pub seats : (core : ℕ) → core < cores → terms_at (worker_at core workers).recorded ≡ record { actor = core; cores = cores; cap = cap; burst = burst }
    pub ended : (core : ℕ) → core < cores → HasDrained meaning (worker_at core workers)
    pub outside_terms : terms_of_desk outside.desk ≡ record { actor = cores; cores = cores; cap = cap; burst = burst }
    pub outside_is : IsOutside outside
    pub reunited : AreReunited (Fits meaning) cores (all_ends workers outside)

  -- their journals are joined, so they are sound; each core is drained
  abbrev pub EndedAreJoined : Type 0
  EndedAreJoined =
      (cores cap burst : ℕ) (workers : List (LinkedView J T)) (outside : OutsideView J T) (assembly : Assembly T) →
      HaveEnded cores cap burst workers outside → IsAssemblyOf cores cap burst (desk_among workers outside) assembly →
      AreJoined assembly × ((core : ℕ) → core < cores → IsDrained cores (journal_of core assembly))
