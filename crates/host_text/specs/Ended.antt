-- The journals that a house left behind.
use Rattle.std.specs.Prelude.{ℕ, Bool}
use Rattle.base_words.specs.Assembly.{Assembly}

-- the notes that the journals of all actors had at the end, and whether others were passed on before
pub record EndedView : Type 0 where
  pub assembly : Assembly ℕ
  pub parted : Bool

-- these journals
abbrev pub ended_of : Assembly ℕ → Bool → EndedView
ended_of assembly parted = record { assembly = assembly; parted = parted }
