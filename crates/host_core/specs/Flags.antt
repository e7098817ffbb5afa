-- What a word says.
use Rattle.std.specs.Prelude.{ℕ, zero, suc, Bool, true, false}

-- 0 says no, and every other word yes
abbrev pub is_set : ℕ → Bool
is_set zero = false
is_set (suc word) = true
