use Rattle.std.proofs.lemmas.Result.{on_ok_weaker, on_err_weaker}
use Rattle.text_journal.proofs.PageLemmas.{OnErr-any}
use Rattle.fairexec_run.proofs.RearLemmas.{bare_out, bare_front, rear_out, rear_front, rear_stop}
use Rattle.text_journal.proofs.TryLemmas.{written_since}
use Rattle.fairexec_run.proofs.journal.print_rear.Goals as goal

pub returns-then-not-stats-clause-ok : goal.returns-then-not-stats-clause-ok
returns-then-not-stats-clause-ok g c = on_ok_weaker c.print_last.result (bare_out c.args.stats (g.T.HasCores.assembly c.args.told.now) _ _ _ c.if-not-stats.true) c.print_last.ensures.ok

pub returns-then-not-stats-clause-err : goal.returns-then-not-stats-clause-err
returns-then-not-stats-clause-err g c = on_err_weaker c.print_last.result (bare_front c.args.stats (g.T.HasCores.assembly c.args.told.now) _ _ _ c.if-not-stats.true) c.print_last.ensures.err

pub returns-in_err-print_stats-clause-err : goal.returns-in_err-print_stats-clause-err
returns-in_err-print_stats-clause-err g c = OnErr-any c.from_residual.result (rear_stop c.args.stats (g.T.HasCores.assembly c.args.told.now) _ _ _ c.if-not-stats.false c.in_err-print_stats.ensures.err)

pub returns-clause-ok : goal.returns-clause-ok
returns-clause-ok g c = on_ok_weaker c.print_last-2.result (rear_out c.args.stats (g.T.HasCores.assembly c.args.told.now) _ _ _ _ c.if-not-stats.false c.in_ok-print_stats.ensures.ok _) c.print_last-2.ensures.ok

pub returns-clause-err : goal.returns-clause-err
returns-clause-err g c = on_err_weaker c.print_last-2.result (rear_front c.args.stats (g.T.HasCores.assembly c.args.told.now) _ _ _ _ c.if-not-stats.false c.in_ok-print_stats.ensures.ok _) c.print_last-2.ensures.err

pub returns-clause-failed : goal.returns-clause-failed
returns-clause-failed g c =
    written_since g.S.ByteSink.tries g.S.ByteSink.interrupts g.S.ByteSink.fails c.args.sink.now c.print_stats.new.sink c.print_last-2.new.sink c.print_last-2.result c.print_stats.ensures.tried c.print_last-2.ensures.failed
