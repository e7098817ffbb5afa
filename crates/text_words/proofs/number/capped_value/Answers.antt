use Rattle.std.proofs.Common.{arith, rules}
use Rattle.text_words.proofs.NumberLemmas.{value_more, digit_in_number}
use Rattle.text_words.proofs.number.capped_value.Goals as goal

pub loop-digit-preserved : goal.loop-digit-preserved
loop-digit-preserved c =
    let more = value_more c.args.digits.now c.loop-digit.digit-index c.requires (search rules) in
    let digit = digit_in_number c.args.digits.now c.loop-digit.digit-index c.requires (search rules) in
    omega (arith, more, digit)
