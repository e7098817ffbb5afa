-- What a worker does between lying down and parking.
use Rattle.std.specs.Prelude.{◌≡◌, ℕ, Bool, Option}
use Rattle.base_words.specs.declared.names.JobId.{JobId}
use Rattle.base_jobs.specs.Meanings.{Meaning}
use Rattle.actor_seat.specs.Bells.{BellsView, once_more}
use Rattle.run_worker.specs.Looks.{LooksAtAll}
use Rattle.run_worker.specs.Views.{RoundView}
use Rattle.run_worker.specs.Rounds.{AreRung}

module _ {J T C G : Type 0} (meaning : Meaning J T) (sleeps : J → Option ℕ) (reads : C → ℕ → C → Type 0) (asked : G → ℕ → JobId → G → Type 0) where
  -- One look at everything, which counts as one, and tells whether anything was done. The same bells are rung for its notes.
  pub record LooksAgain (looks : ℕ) (bells : BellsView) (old : RoundView J T C G) (some : Bool) (counted : ℕ) (rung : BellsView) (new : RoundView J T C G) : Type 0 where
    pub counts : counted ≡ once_more looks
    pub all : LooksAtAll meaning sleeps reads asked old some new
    pub rings : AreRung new.served rung
    pub names : rung.names ≡ bells.names
