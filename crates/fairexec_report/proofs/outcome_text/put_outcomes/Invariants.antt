-- The lines of the cores so far stand behind what the page had.
use Rattle.std.proofs.Common.{◌≡◌, ◌++◌, string_bytes}
use Rattle.fairexec_report.specs.Outcomes.{lines_below}
use Rattle.fairexec_report.proofs.outcome_text.put_outcomes.Given as goal

abbrev pub invariant-loop-core : goal.invariant-loop-core
invariant-loop-core l = string_bytes l.page ≡ string_bytes l.initial.page ++ lines_below l.core l.assembly
