-- Entries by number, with room for so many.
use Rattle.std.specs.Prelude.{ℕ, List}

-- what is held, and for how many there is room
pub record Entries (V : Type 0) : Type 0 where
  pub entries : List (ℕ × V)
  pub room : ℕ
