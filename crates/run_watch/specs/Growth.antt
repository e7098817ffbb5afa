-- How the notes of an actor become more.
use Rattle.std.specs.Prelude.{◌≡◌, ℕ, ◌++◌}
use Rattle.base_words.specs.Journal.{Journal}

-- the notes stay, and newer ones may stand before them
abbrev pub Grows : Journal ℕ → Journal ℕ → Type 0
Grows old new = (newer : Journal ℕ) × (new ≡ newer ++ old)
