-- Cores beside their journals, just opened.
use Rattle.std.specs.Prelude.{◌≡◌, ℕ, ◌<◌, List, length, slice_index_or}
use Rattle.actor_core.specs.Recorded.{RecordedView}
use Rattle.actor_core.specs.Steps.{opened_beside}

module _ {J T : Type 0} where
  -- a core of each number, just opened, whose turns have at most so many polls
  pub record AreOpened (cores cap room burst : ℕ) (inside : List (RecordedView J T)) : Type 0 where
    pub cores_are : length inside ≡ cores
    pub each_opened : (core : ℕ) → core < cores → slice_index_or inside core (opened_beside 0 0 0 0 0) ≡ opened_beside core cores cap room burst
