-- The statistics of the cores so far stand behind what the page had.
use Rattle.std.proofs.Common.{string_bytes}
use Rattle.fairexec_report.proofs.StatLemmas.{HasStats}
use Rattle.fairexec_report.proofs.stats.put_all_stats.Given as goal

abbrev pub invariant-loop-core : goal.invariant-loop-core
invariant-loop-core l = HasStats l.assembly l.core (string_bytes l.initial.page) (string_bytes l.page)
