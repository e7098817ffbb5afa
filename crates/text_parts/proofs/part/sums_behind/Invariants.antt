use Rattle.std.proofs.Common.{◌≡◌, drop}
use Rattle.text_parts.specs.Parts.{sums_behind}
use Rattle.text_parts.proofs.part.sums_behind.Given as goal

-- the sums so far and the bytes that are left make the sums of all
abbrev pub invariant-loop-byte : goal.invariant-loop-byte
invariant-loop-byte l = sums_behind (l.first, l.second) (drop l.byte-index l.bytes) ≡ sums_behind l.fn.sums l.bytes
