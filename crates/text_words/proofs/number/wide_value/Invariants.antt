-- What is read so far is what the digits so far write.
use Rattle.std.proofs.Common.{◌≡◌, ◌<◌, ◌^◌, take}
use Rattle.text_words.specs.Numbers.{value_of}
use Rattle.text_words.proofs.number.wide_value.Given as goal

abbrev pub invariant-loop-digit : goal.invariant-loop-digit
invariant-loop-digit l = record {
  read : l.value ≡ value_of (take l.digit-index l.digits);
  small : l.value < 2 ^ 128;
}
