use Rattle.std.proofs.Common.{◌≡◌, Err, sym}
use Rattle.text_words.specs.Words.{third, fourth}
use Rattle.text_words.specs.Fields.{both, actor_field, submission_field}
use Rattle.fairexec_script.specs.EventLines.{link_fields}
use Rattle.text_words.proofs.FieldLemmas.{made_err}
use Rattle.fairexec_script.proofs.event_line.wake_line.Goals as goal

pub returns-in-Err : goal.returns-in-Err
returns-in-Err c =
    let read : both (link_fields c.args.cores c.args.fields.now) (both (actor_field c.args.cores (third c.args.fields.now)) (submission_field (fourth c.args.fields.now))) ≡ Err c.in-Err.cause = cc in
    sym (made_err _ _ _ read)
