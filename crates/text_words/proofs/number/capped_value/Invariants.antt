-- What is read so far is what the digits so far write, or 2^64.
use Rattle.std.proofs.Common.{◌≡◌, ◌^◌, min, take}
use Rattle.text_words.specs.Numbers.{value_of}
use Rattle.text_words.proofs.number.capped_value.Given as goal

abbrev pub invariant-loop-digit : goal.invariant-loop-digit
invariant-loop-digit l = l.value ≡ min (value_of (take l.digit-index l.digits)) (2 ^ 64)
