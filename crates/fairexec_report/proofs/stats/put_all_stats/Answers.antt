use Rattle.std.proofs.Common.{arith, string_bytes}
use Rattle.fairexec_report.proofs.StatLemmas.{no_stats, stats_more, stats_whole}
use Rattle.fairexec_report.proofs.stats.put_all_stats.Goals as goal

pub loop-core-init : goal.loop-core-init
loop-core-init c = no_stats c.args.assembly.now (string_bytes c.args.page.now)

pub loop-core-preserved : goal.loop-core-preserved
loop-core-preserved c = stats_more c.args.assembly.now c.loop-core.core _ _ c.cores-cores.ensures.value c.burst-burst.ensures _ c.journal.ensures _ _ _ c.loop-core.invariant c.in_ok-put_stats.ensures

pub returns : goal.returns
returns c = stats_whole c.args.assembly.now c.loop-core.core _ _ (let all = c.cores-cores.ensures.value in omega arith) c.loop-core.invariant
