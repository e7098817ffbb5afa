use Rattle.std.proofs.Common.{◌≡◌, Err, sym}
use Rattle.std.specs.Prelude.{codes}
use Rattle.text_words.specs.Words.{first, second, third}
use Rattle.text_words.specs.Numbers.{number_of, within}
use Rattle.text_words.specs.Fields.{both, fixed_field}
use Rattle.text_words.proofs.FieldLemmas.{made_err}
use Rattle.fairexec_script.proofs.line.size_fields.Goals as goal

pub returns-in-Err-clause-size : goal.returns-in-Err-clause-size
returns-in-Err-clause-size c =
    let read : both (within 1 16 (number_of (first c.args.fields.now))) (both (fixed_field (codes "cap") (second c.args.fields.now)) (within 1 1024 (number_of (third c.args.fields.now)))) ≡ Err c.in-Err.cause = cc in
    sym (made_err _ _ _ read)
