use Rattle.std.proofs.Common.{◌++◌}
use Rattle.text_journal.proofs.PageLemmas.{OnErr-any}
use Rattle.text_bytes.proofs.KnownLemmas.{Appends-more_kept}
use Rattle.text_bytes.proofs.TryLemmas.{no_fewer, failed_since, failed_last}
use Rattle.fairexec_report.proofs.AuditLemmas.{OnOk-any, front_of_count, front_of_all}
use Rattle.fairexec_report.proofs.ReportLemmas.{front_before, front_behind, three_out}
use Rattle.fairexec_report.proofs.report.write_parts.Goals as goal

pub returns-in_err-write_all-clause-err : goal.returns-in_err-write_all-clause-err
returns-in_err-write_all-clause-err g c =
    let out = c.in_err-write_all.ensures.err in
    OnErr-any c.from_residual.result (front_before _ _ c.args.front.now (c.args.middle.now ++ c.args.rear.now) (front_of_count _ _ c.args.front.now out.0 out.2))

pub returns-in_err-write_all-2-clause-err : goal.returns-in_err-write_all-2-clause-err
returns-in_err-write_all-2-clause-err g c =
    let out = c.in_err-write_all-2.ensures.err in
    OnErr-any c.from_residual-in_err-write_all-2.result
    (front_behind _ _ _ c.args.front.now (c.args.middle.now ++ c.args.rear.now) c.in_ok-write_all.ensures.ok
    (front_before _ _ c.args.middle.now c.args.rear.now (front_of_count _ _ c.args.middle.now out.0 out.2)))

pub returns-in_err-write_all-3-clause-err : goal.returns-in_err-write_all-3-clause-err
returns-in_err-write_all-3-clause-err g c =
    let out = c.in_err-write_all-3.ensures.err in
    OnErr-any c.from_residual-in_err-write_all-3.result
    (front_behind _ _ _ c.args.front.now (c.args.middle.now ++ c.args.rear.now) c.in_ok-write_all.ensures.ok
    (front_behind _ _ _ c.args.middle.now c.args.rear.now c.in_ok-write_all-2.ensures.ok (front_of_count _ _ c.args.rear.now out.0 out.2)))

pub returns-clause-ok : goal.returns-clause-ok
returns-clause-ok g c =
    OnOk-any c.flush.result
    (Appends-more_kept _ _ _ (c.args.front.now ++ (c.args.middle.now ++ c.args.rear.now))
    (three_out _ _ _ _ c.args.front.now c.args.middle.now c.args.rear.now c.in_ok-write_all.ensures.ok c.in_ok-write_all-2.ensures.ok c.in_ok-write_all-3.ensures.ok) c.flush.ensures.kept)

pub returns-clause-err : goal.returns-clause-err
returns-clause-err g c =
    OnErr-any c.flush.result
    (front_of_all _ _ (c.args.front.now ++ (c.args.middle.now ++ c.args.rear.now))
    (Appends-more_kept _ _ _ (c.args.front.now ++ (c.args.middle.now ++ c.args.rear.now))
    (three_out _ _ _ _ c.args.front.now c.args.middle.now c.args.rear.now c.in_ok-write_all.ensures.ok c.in_ok-write_all-2.ensures.ok c.in_ok-write_all-3.ensures.ok) c.flush.ensures.kept))

pub returns-clause-failed : goal.returns-clause-failed
returns-clause-failed g c =
    let two = no_fewer _ _ _ c.write_all.ensures.tried c.write_all-2.ensures.tried in
    failed_last g.S.ByteSink.tries g.S.ByteSink.interrupts g.S.ByteSink.fails c.args.sink.now c.write_all-3.new.sink c.flush.new.sink c.flush.result (no_fewer _ _ _ two c.write_all-3.ensures.tried) c.flush.ensures.failed

pub returns-in_err-write_all-2-clause-failed : goal.returns-in_err-write_all-2-clause-failed
returns-in_err-write_all-2-clause-failed g c =
    OnErr-any c.from_residual-in_err-write_all-2.result
    (failed_since g.S.ByteSink.tries g.S.ByteSink.interrupts g.S.ByteSink.fails c.args.sink.now c.write_all.new.sink c.write_all-2.new.sink c.write_all.ensures.tried c.in_err-write_all-2.ensures.failed)

pub returns-in_err-write_all-3-clause-failed : goal.returns-in_err-write_all-3-clause-failed
returns-in_err-write_all-3-clause-failed g c =
    let two = no_fewer _ _ _ c.write_all.ensures.tried c.write_all-2.ensures.tried in
    OnErr-any c.from_residual-in_err-write_all-3.result
    (failed_since g.S.ByteSink.tries g.S.ByteSink.interrupts g.S.ByteSink.fails c.args.sink.now c.write_all-2.new.sink c.write_all-3.new.sink two c.in_err-write_all-3.ensures.failed)
