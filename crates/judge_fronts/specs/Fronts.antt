-- Journals that go on, and those that no later notes make sound. A journal has its newest note first.
use Rattle.std.specs.Prelude.{◌≡◌, ℕ, ◌≤◌, ◌++◌}
use Rattle.base_words.specs.Assembly.{Assembly, journal_of}
use Rattle.base_words.specs.Journal.{Journal}
use Rattle.base_words.specs.Sound.{IsSound}
use Rattle.base_words.specs.Spelled.{IsSpelled}

-- the whole has the notes of the front, and of each actor maybe later ones
pub record Continues (front whole : Assembly ℕ) : Type 0 where
  pub cores : whole.cores ≡ front.cores
  pub cap : whole.cap ≡ front.cap
  pub burst : whole.burst ≡ front.burst
  pub goes_on : (actor : ℕ) → actor ≤ front.cores → (later : Journal ℕ) × (journal_of actor whole ≡ later ++ journal_of actor front)

-- no later notes make these journals sound
abbrev pub IsLost : Assembly ℕ → Type 0
IsLost front = (whole : Assembly ℕ) → Continues front whole → IsSpelled whole → IsSound whole → ⊥
