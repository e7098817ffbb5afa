use Rattle.std.proofs.Common.{subst}
use Rattle.text_journal.specs.Pages.{AppendsFront}
use Rattle.text_journal.proofs.PageLemmas.{front_of_count}
use Rattle.fairexec_run.proofs.print.print_page.Goals as goal

pub returns-in-Err-clause-err : goal.returns-in-Err-clause-err
returns-in-Err-clause-err g c =
    let out = c.in-Err.ensures.err in
    subst (AppendsFront (g.S.ByteSink.contents c.args.sink.now) (g.S.ByteSink.contents c.write_all.new.sink)) c.as_bytes.ensures.value
    (front_of_count _ _ c.as_bytes.result.now out.0 out.2)
