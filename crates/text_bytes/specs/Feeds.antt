-- Line feeds in a text.
use Rattle.std.specs.Prelude.{◌≡◌, ℕ, ◌==◌, Bool, List, false, All}

-- what ends a line
abbrev pub is_feed : ℕ → Bool
is_feed byte = byte == 10

-- no byte ends a line
abbrev pub HasNoFeed : List ℕ → Type 0
HasNoFeed bytes = All (λ byte. is_feed byte ≡ false) bytes
