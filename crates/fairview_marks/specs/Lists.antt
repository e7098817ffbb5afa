-- Lists one behind another.
use Rattle.std.specs.Prelude.{ℕ, zero, suc, Option, Some, None, List, [], ◌∷◌, ◌++◌}

-- the lists of the numbers below a count, one behind another
unfoldable pub lists_below : {A : Type 0} → (ℕ → List A) → ℕ → List A
lists_below each zero = []
lists_below each (suc number) = lists_below each number ++ each number

-- what is there, if anything is, as a list
abbrev pub one_of : {A : Type 0} → Option A → List A
one_of None = []
one_of (Some item) = item ∷ []
