-- The bucket of a name.
use Rattle.std.specs.Prelude.{ℕ, ◌*◌, ◌/◌, ◌^◌, bit_and, bit_xor}
use Rattle.base_words.specs.declared.names.JobId.{JobId}

-- the number, its higher bits and the sender, mixed, under this mask
abbrev pub place_of : JobId → ℕ → ℕ
place_of name mask = bit_and (bit_xor (bit_xor name.number (name.number / 2 ^ 16)) (name.from * 1024)) mask
