use Rattle.std.proofs.Common.{arith, string_bytes}
use Rattle.std.proofs.lemmas.Result.{err_from_is_err_and}
use Rattle.text_bytes.proofs.TryLemmas.{no_fewer}
use Rattle.text_journal.proofs.PageLemmas.{OnErr-any}
use Rattle.fairexec_run.proofs.RearLemmas.{no_stats, stats_more, stats_stop, stats_whole}
use Rattle.text_journal.proofs.TryLemmas.{unwritten_since}
use Rattle.fairexec_run.proofs.journal.print_stats.Goals as goal

pub loop-core-init : goal.loop-core-init
loop-core-init g c = record { stats = no_stats (g.T.HasCores.assembly c.args.told.now) (string_bytes c.args.page.now) (g.S.ByteSink.contents c.args.sink.now); tried = omega arith }

pub loop-core-preserved : goal.loop-core-preserved
loop-core-preserved g c = record {
  stats = stats_more (g.T.HasCores.assembly c.args.told.now) c.loop-core.core _ _ c.core_count-cores.ensures c.most_polls-burst.ensures _ c.notes_of.ensures _ _ _ _ c.loop-core.invariant.stats _ _ c.in_ok-print_core.ensures.ok;
  tried = no_fewer _ _ _ c.loop-core.invariant.tried c.print_core.ensures.tried;
}

pub returns-in_err-print_core-clause-err : goal.returns-in_err-print_core-clause-err
returns-in_err-print_core-clause-err g c =
    OnErr-any c.from_residual.result
    (stats_stop (g.T.HasCores.assembly c.args.told.now) c.loop-core.core _ _ c.core_count-cores.ensures c.most_polls-burst.ensures _ c.notes_of.ensures _ _ _ _ c.loop-core.invariant.stats _ (omega arith) c.in_err-print_core.ensures.err)

pub returns-clause-ok : goal.returns-clause-ok
returns-clause-ok g c = stats_whole (g.T.HasCores.assembly c.args.told.now) c.loop-core.core _ _ _ _ (let all = c.core_count-cores.ensures in omega arith) c.loop-core.invariant.stats

pub returns-in_err-print_core-clause-failed : goal.returns-in_err-print_core-clause-failed
returns-in_err-print_core-clause-failed g c =
    let failed = unwritten_since g.S.ByteSink.tries g.S.ByteSink.interrupts g.S.ByteSink.fails c.args.sink.now c.loop-core.sink c.print_core.new.sink c.in_err-print_core.field-0.0 c.loop-core.invariant.tried c.in_err-print_core.ensures.failed in
    let told = err_from_is_err_and c.from_residual.result c.from_residual.ensures.1 in
    rw (told.1, told.2) failed
