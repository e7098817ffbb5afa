use Rattle.std.proofs.Common.{◌+◌, ◌∙◌, arith, sym}
use Rattle.std.proofs.lemmas.Str.Parse.{digits_value-take-le}
use Rattle.text_words.specs.Numbers.{value_of}
use Rattle.text_words.proofs.NumberLemmas.{value_more, digit_in_number, kept_past, kept_within, value_of-all}
use Rattle.text_words.proofs.number.wide_value.Goals as goal

pub returns-in_err-tens : goal.returns-in_err-tens
returns-in_err-tens c =
    let digits = c.args.digits.now in
    let more = value_more digits c.loop-digit.digit-index c.requires c.loop-digit-test.true in
    let below = digits_value-take-le 10 digits (c.loop-digit.digit-index + 1) (omega arith) in
    let large = c.in_err-tens.ensures in
    c.from_residual.ensures ∙ sym (kept_past (value_of digits) (omega (arith, more, below, large)))

pub returns-in_err-value : goal.returns-in_err-value
returns-in_err-value c =
    let digits = c.args.digits.now in
    let more = value_more digits c.loop-digit.digit-index c.requires c.loop-digit-test.true in
    let digit = digit_in_number digits c.loop-digit.digit-index c.requires c.loop-digit-test.true in
    let below = digits_value-take-le 10 digits (c.loop-digit.digit-index + 1) (omega arith) in
    let large = c.in_err-value.ensures in
    c.from_residual-in_err-value.ensures ∙ sym (kept_past (value_of digits) (omega (arith, more, digit, below, large)))

pub loop-digit-preserved : goal.loop-digit-preserved
loop-digit-preserved c =
    let digits = c.args.digits.now in
    let more = value_more digits c.loop-digit.digit-index c.requires c.loop-digit-test.true in
    let digit = digit_in_number digits c.loop-digit.digit-index c.requires c.loop-digit-test.true in
    let tens = c.in_ok-tens.ensures in
    let whole = c.in_ok-value.ensures in
    record { read = omega (arith, more, digit); small = omega arith }

pub returns : goal.returns
returns c =
    let all = value_of-all c.args.digits.now c.loop-digit.digit-index c.loop-digit-test.false in
    kept_within c.loop-digit.value (value_of c.args.digits.now) (c.loop-digit.invariant.read ∙ all) c.loop-digit.invariant.small
