use Rattle.fairexec_report.proofs.AuditLemmas.{OnOk-any, front_of_count, front_of_all}
use Rattle.text_journal.proofs.PageLemmas.{OnErr-any}
use Rattle.text_bytes.proofs.KnownLemmas.{Appends-more_kept}
use Rattle.text_bytes.proofs.TryLemmas.{failed_last}
use Rattle.fairexec.proofs.write_whole.Goals as goal

pub returns-in_err-write_all-clause-err : goal.returns-in_err-write_all-clause-err
returns-in_err-write_all-clause-err g c =
    let out = c.in_err-write_all.ensures.err in
    OnErr-any c.from_residual.result (front_of_count _ _ c.args.text.now out.0 out.2)

pub returns-clause-ok : goal.returns-clause-ok
returns-clause-ok g c = OnOk-any c.flush.result (Appends-more_kept _ _ _ c.args.text.now c.in_ok-write_all.ensures.ok c.flush.ensures.kept)

pub returns-clause-err : goal.returns-clause-err
returns-clause-err g c = OnErr-any c.flush.result (front_of_all _ _ c.args.text.now (Appends-more_kept _ _ _ c.args.text.now c.in_ok-write_all.ensures.ok c.flush.ensures.kept))

pub returns-clause-failed : goal.returns-clause-failed
returns-clause-failed g c = failed_last g.S.ByteSink.tries g.S.ByteSink.interrupts g.S.ByteSink.fails c.args.output.now c.write_all.new.sink c.flush.new.sink c.flush.result c.write_all.ensures.tried c.flush.ensures.failed
