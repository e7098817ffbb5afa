use Rattle.std.proofs.Common.{sym, ◌∙◌, append-nil, string_bytes, None, Some, arith}
use Rattle.std.proofs.lemmas.Result.{on_ok_weaker}
use Rattle.fairexec_run.proofs.EventTexts.{happened, notes_printed, quiet_printed, still_there}
use Rattle.fairexec_run.proofs.print.print_event.Goals as goal

pub journal-journal-requires : goal.journal-journal-requires
journal-journal-requires c =
    still_there c.args.event c.args.model.now c.step-reply.new.self c.step-reply.result (happened _ c.args.event c.args.model.now c.step-reply.new.self c.step-reply.result c.in_ok-event.ensures c.step-reply.ensures) c.requires.roomy c.requires.there
    c.ends_of-ends.result c.ends_of-ends.ensures

pub returns-then-len-before-clause-ok : goal.returns-then-len-before-clause-ok
returns-then-len-before-clause-ok c =
    let count = c.len.ensures.value in
    let more = c.if-len-before.true in
    on_ok_weaker c.print_notes.result
    (notes_printed c.args.event c.args.model.now c.step-reply.new.self c.step-reply.result (happened _ c.args.event c.args.model.now c.step-reply.new.self c.step-reply.result c.in_ok-event.ensures c.step-reply.ensures) c.requires.roomy c.joined.ensures c.requires.there
    c.ends_of-ends.result c.journal.result.now.notes c.journal-journal.result.now.notes c.len-before.result (string_bytes c.args.page.now) (string_bytes c.print_notes.new.page)
    c.ends_of-ends.ensures c.journal.ensures.notes c.journal-journal.ensures.notes c.len-before.ensures.value (omega arith))
    c.print_notes.ensures.ok

pub returns-in_default-clause-ok : goal.returns-in_default-clause-ok
returns-in_default-clause-ok c =
    let count = c.len.ensures.value in
    let none = c.if-len-before.false in
    quiet_printed c.args.event c.args.model.now c.step-reply.new.self c.step-reply.result (happened _ c.args.event c.args.model.now c.step-reply.new.self c.step-reply.result c.in_ok-event.ensures c.step-reply.ensures) c.requires.roomy c.joined.ensures c.requires.there
    c.ends_of-ends.result c.journal.result.now.notes c.journal-journal.result.now.notes c.len-before.result None (string_bytes c.args.page.now) (string_bytes c.args.page.now)
    c.ends_of-ends.ensures c.journal.ensures.notes c.journal-journal.ensures.notes c.len-before.ensures.value (omega arith)
    (sym c.in_default.is ∙ c.quiet_of.ensures) (sym (append-nil (string_bytes c.args.page.now)))

pub returns-clause-ok : goal.returns-clause-ok
returns-clause-ok c =
    let count = c.len.ensures.value in
    let none = c.if-len-before.false in
    quiet_printed c.args.event c.args.model.now c.step-reply.new.self c.step-reply.result (happened _ c.args.event c.args.model.now c.step-reply.new.self c.step-reply.result c.in_ok-event.ensures c.step-reply.ensures) c.requires.roomy c.joined.ensures c.requires.there
    c.ends_of-ends.result c.journal.result.now.notes c.journal-journal.result.now.notes c.len-before.result (Some c.in-Some.quiet) (string_bytes c.args.page.now) (string_bytes c.writeln.new.self)
    c.ends_of-ends.ensures c.journal.ensures.notes c.journal-journal.ensures.notes c.len-before.ensures.value (omega arith)
    (sym c.in-Some.is ∙ c.quiet_of.ensures) c.in_ok-writeln.ensures.bytes
