-- The bytes so far stand behind all others.
use Rattle.std.proofs.Common.{◌≡◌, ◌++◌, take}
use Rattle.text_feed.proofs.intake.lengthen.Given as goal

abbrev pub invariant-loop-byte : goal.invariant-loop-byte
invariant-loop-byte l = l.got.items ≡ l.initial.got.items ++ take l.byte-index l.more
