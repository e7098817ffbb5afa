use Rattle.std.proofs.Common.{sym, ap, ◌∙◌}
use Rattle.base_words.specs.declared.order.Order.TheVariants as order
use Rattle.text_words.specs.Fields.{made, queue_field}
use Rattle.text_words.specs.Words.{first, others}
use Rattle.fairexec_script.specs.declared.event.ScriptEvent.TheVariants.{Send}
use Rattle.fairexec_script.specs.declared.line.Line.TheVariants.{Step}
use Rattle.fairexec_script.proofs.SubmitLemmas.{submit_read}
use Rattle.fairexec_script.proofs.event_line.submit_line.Goals as goal

pub returns-in-Err : goal.returns-in-Err
returns-in-Err c =
    sym (submit_read c.args.cores c.args.fields.now c.next_word.new.self c.link_fields-link.result c.queue_field-queue.result c.read_job-found.result c.read_job-found.new.job c.both.result c.both-2.result
    c.link_fields-link.ensures.link (c.queue_field-queue.ensures ∙ ap queue_field (c.next_word.ensures.word ∙ ap first c.link_fields-link.ensures.rest)) (c.next_word.ensures.others ∙ ap others c.link_fields-link.ensures.rest)
    c.read_job-found.ensures c.both.ensures c.both-2.ensures ∙ ap (made (λ p. Step (Send (p.0).0 (p.0).1 (order.Job (p.1).0 c.read_job-found.new.job)))) c.in-Err.is)
