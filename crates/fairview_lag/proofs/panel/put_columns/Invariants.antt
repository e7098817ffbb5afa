-- The columns so far stand behind what the page had.
use Rattle.std.proofs.Common.{◌≡◌, ◌++◌, string_bytes}
use Rattle.fairview_lag.specs.Columns.{column}
use Rattle.fairview_lag.specs.ColumnTexts.{column_if}
use Rattle.fairview_marks.specs.Lists.{lists_below}
use Rattle.fairview_lag.proofs.panel.put_columns.Given as goal

abbrev pub invariant-loop-number : goal.invariant-loop-number
invariant-loop-number l = string_bytes l.page ≡ string_bytes l.initial.page ++ lists_below (λ number. column_if l.panel (column l.panel number l.journal.notes)) l.number
