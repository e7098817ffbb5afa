use Rattle.std.proofs.Common.{◌++◌, sym, ◌∙◌, append-nil, append_assoc, codes, refl}
use Rattle.std.proofs.lemmas.Result.{on_ok_weaker, on_err_weaker}
use Rattle.text_journal.specs.Texts.{head_text, text_of, journal_lines, end_line}
use Rattle.text_journal.proofs.PageLemmas.{puts_first, puts_then, puts_more, front_then, front_now, front_of_page, all_written, OnErr-any}
use Rattle.text_journal.proofs.LineLemmas.{journal_text-parts}
use Rattle.text_journal.proofs.TryLemmas.{written_since}
use Rattle.text_journal.proofs.write.write_journal.Goals as goal

pub returns-in_err-put_journals-clause-err : goal.returns-in_err-put_journals-clause-err
returns-in_err-put_journals-clause-err g c =
    OnErr-any c.from_residual-in_err-put_journals.result
    (front_then _ _ _ _ _ _ _ _ _ (puts_first _ _ _ _ c.in_ok-page.ensures.bytes c.in_ok-put_head.ensures) c.in_err-put_journals.ensures.err (journal_text-parts c.args.assembly.now))

pub returns-in_err-put_end-clause-err : goal.returns-in_err-put_end-clause-err
returns-in_err-put_end-clause-err g c =
    let head = head_text c.args.assembly.now in
    let body = text_of (journal_lines 0 c.args.assembly.now.journals) in
    OnErr-any c.from_residual-in_err-put_end.result
    (front_now _ _ _ _ _ _ _ (puts_then _ _ _ _ _ _ _ _ (head ++ body) (puts_first _ _ _ _ c.in_ok-page.ensures.bytes c.in_ok-put_head.ensures) c.in_ok-put_journals.ensures.ok refl)
    (journal_text-parts c.args.assembly.now ∙ sym (append_assoc head body (end_line ++ codes "\n"))))

pub returns-clause-failed : goal.returns-clause-failed
returns-clause-failed g c =
    written_since g.S.ByteSink.tries g.S.ByteSink.interrupts g.S.ByteSink.fails c.args.sink.now c.put_journals.new.sink c.write_page.new.sink c.write_page.result c.put_journals.ensures.tried c.write_page.ensures.failed

pub returns-clause-ok : goal.returns-clause-ok
returns-clause-ok g c =
    let head = head_text c.args.assembly.now in
    let body = text_of (journal_lines 0 c.args.assembly.now.journals) in
    let two = puts_then _ _ _ _ _ _ _ _ (head ++ body) (puts_first _ _ _ _ c.in_ok-page.ensures.bytes c.in_ok-put_head.ensures) c.in_ok-put_journals.ensures.ok refl in
    let three = puts_more _ _ _ _ _ _ _ ((head ++ body) ++ (end_line ++ codes "\n")) two c.in_ok-put_end.ensures refl in
    on_ok_weaker c.write_page.result (all_written _ _ _ _ _ _ three (journal_text-parts c.args.assembly.now ∙ sym (append_assoc head body (end_line ++ codes "\n")))) c.write_page.ensures.ok

pub returns-clause-err : goal.returns-clause-err
returns-clause-err g c =
    let head = head_text c.args.assembly.now in
    let body = text_of (journal_lines 0 c.args.assembly.now.journals) in
    let two = puts_then _ _ _ _ _ _ _ _ (head ++ body) (puts_first _ _ _ _ c.in_ok-page.ensures.bytes c.in_ok-put_head.ensures) c.in_ok-put_journals.ensures.ok refl in
    let three = puts_more _ _ _ _ _ _ _ ((head ++ body) ++ (end_line ++ codes "\n")) two c.in_ok-put_end.ensures refl in
    on_err_weaker c.write_page.result (λ front. front_of_page _ _ _ _ _ _ _ _ three front (journal_text-parts c.args.assembly.now ∙ sym (append_assoc head body (end_line ++ codes "\n")) ∙ sym (append-nil ((head ++ body) ++ (end_line ++ codes "\n"))))) c.write_page.ensures.err
