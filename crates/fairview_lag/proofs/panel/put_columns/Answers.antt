use Rattle.std.proofs.Common.{◌<◌, ◌++◌, length, ap, ◌∙◌, arith, string_bytes}
use Rattle.std.specs.Prelude.{None}
use Rattle.judge_view.proofs.WatchSteps.{any_default}
use Rattle.fairview_lag.specs.Columns.{column}
use Rattle.fairview_lag.specs.ColumnTexts.{column_if}
use Rattle.fairview_marks.proofs.Lists.{before_all, after_one}
use Rattle.fairview_lag.proofs.panel.put_columns.Goals as goal

pub loop-number-init : goal.loop-number-init
loop-number-init c = before_all (λ number. column_if c.args.panel.now (column c.args.panel.now number c.args.journal.now.notes)) (string_bytes c.args.page.now)

pub loop-number-preserved : goal.loop-number-preserved
loop-number-preserved c =
    let columns = c.in_ok-columns.columns.items in
    let number = c.loop-number.number in
    let within : number < length columns = omega arith in
    let is = c.index.ensures ∙ (any_default columns number c.index.result.now None within ∙ c.in_ok-columns.ensures.each number) in
    after_one (λ number. column_if c.args.panel.now (column c.args.panel.now number c.args.journal.now.notes)) number (string_bytes c.args.page.now)
    (string_bytes c.loop-number.page) (string_bytes c.put_column.new.page) c.loop-number.invariant
    (c.in_ok-put_column.ensures ∙ ap (λ it. string_bytes c.loop-number.page ++ column_if c.args.panel.now it) is)
