-- The bells of all cores, and the caller's own, in the caller's hands.
use Rattle.std.specs.Prelude.{◌≡◌, ℕ, List, slice_index_or}
use Rattle.actor_seat.specs.Bells.{BellView}
use Rattle.link_ring.specs.Ends.{EndsView}

-- which bells these are, by name, how often the caller rang the bell of each core and its own, and what the caller's ends were when it rang last
pub record RingsView (J T : Type 0) : Type 0 where
  pub names : List ℕ
  pub times : List ℕ
  pub over : EndsView J T

-- it is the bell of this actor among those of these names
pub record IsBellOf (actor : ℕ) (names : List ℕ) (bell : BellView) : Type 0 where
  pub actor_is : bell.actor ≡ actor
  pub name_is : bell.name ≡ slice_index_or names actor 0
