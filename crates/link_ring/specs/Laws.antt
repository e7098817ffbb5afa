-- Laws over the definitions alone.
use Rattle.std.specs.Prelude.{ℕ, List}
use Rattle.link_ring.specs.Ends.{EndsView}
use Rattle.link_ring.specs.Grid.{IsGrid, AreSameEnds}

-- whatever each actor does with its own ends, if it keeps them, they stay a grid
abbrev pub GridIsKept : Type 0 → Type 0 → Type 0
GridIsKept J T = (cores : ℕ) (old new : List (EndsView J T)) → AreSameEnds old new → IsGrid cores old → IsGrid cores new
