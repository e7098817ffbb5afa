-- How a worker is opened over the ends of its actor.
use Rattle.std.specs.Prelude.{◌≡◌, ℕ, ◌+◌, ◌<◌, ◌≤◌, [], length}
use Rattle.base_words.specs.Commands.{IsOpening}
use Rattle.base_jobs.specs.Meanings.{Meaning}
use Rattle.actor_core.specs.Recorded.{RecordedView, IsRecorded, desk_of, terms_at}
use Rattle.actor_core.specs.Ends.{IsSameSeat, KeepsIn}
use Rattle.actor_desk.specs.Ends.{KeepsOuts}
use Rattle.link_ring.specs.Ends.{EndsView, AreFresh}
use Rattle.actor_seat.specs.Linked.{LinkedView}

module _ {J T : Type 0} where
  -- ends of links that were just opened, one to each core and one from each actor
  pub record AreEndsOf (cores cap : ℕ) (ends : EndsView J T) : Type 0 where
    pub core : ends.number < cores
    pub outs : length ends.outs ≡ cores
    pub ins : length ends.ins ≡ cores + 1
    pub fresh : AreFresh cap ends.number ends

  -- a worker of this core, whose turns may have so many polls, with room for so many notes, of which none was passed on
  pub record IsWorkerOf (core cores cap burst room : ℕ) (worker : LinkedView J T) : Type 0 where
    pub terms : terms_at worker.recorded ≡ record { actor = core; cores = cores; cap = cap; burst = burst }
    pub room_is : worker.recorded.journal.room ≡ room
    pub none_passed : worker.recorded.journal.passed ≡ []

  -- a worker of the core of these ends, over them
  pub record IsOpenedOver (cores cap burst room : ℕ) (ends : EndsView J T) (worker : LinkedView J T) : Type 0 where
    pub of : IsWorkerOf ends.number cores cap burst room worker
    pub ends_are : worker.ends ≡ ends

module _ {J T : Type 0} (meaning : Meaning J T) where
  -- nothing but creations at the opening was noted since the core was as it was, at most so many
  pub record CreatesSince (count : ℕ) (old new : RecordedView J T) : Type 0 where
    pub opening : IsOpening new.journal.notes
    pub few : length new.journal.notes ≤ length old.journal.notes + count
    pub seat : IsSameSeat old new
    pub ins : (sender : ℕ) → KeepsIn sender old new
    pub outs : KeepsOuts (desk_of old) (desk_of new)
    pub lanes : new.lanes ≡ old.lanes
    pub out : new.core.out ≡ old.core.out
    pub sound : IsRecorded meaning new
