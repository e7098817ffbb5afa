-- The lines of the ranges so far stand behind what the page had.
use Rattle.std.proofs.Common.{◌≡◌, ◌++◌, string_bytes}
use Rattle.fairview_marks.specs.Lists.{lists_below}
use Rattle.fairview_report.specs.WaitTexts.{digits_text}
use Rattle.fairview_report.proofs.wait.put_histogram.Given as goal

abbrev pub invariant-loop-digits : goal.invariant-loop-digits
invariant-loop-digits l = string_bytes l.page ≡ string_bytes l.initial.page ++ lists_below (digits_text l.plain l.measure l.spans l.jobs) l.digits
