-- The greatest numbers of their types.
use Rattle.std.specs.Prelude.{ℕ, ◌^◌, ◌-◌}

abbrev pub greatest_runtime : ℕ
greatest_runtime = 2 ^ 128 - 1

abbrev pub greatest_count : ℕ
greatest_count = 2 ^ 64 - 1
