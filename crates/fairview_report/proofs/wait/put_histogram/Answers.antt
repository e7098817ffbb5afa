use Rattle.std.proofs.Common.{◌++◌, ap, ◌∙◌, arith, string_bytes}
use Rattle.fairview_marks.specs.Lists.{lists_below}
use Rattle.fairview_report.specs.WaitTexts.{digits_text}
use Rattle.fairview_marks.proofs.Lists.{before_all, after_one}
use Rattle.fairview_report.proofs.WaitLemmas.{range_put}
use Rattle.fairview_report.proofs.wait.put_histogram.Goals as goal

pub loop-digits-init : goal.loop-digits-init
loop-digits-init c = before_all (digits_text c.args.plain c.args.measure c.args.spans.now c.args.jobs) (string_bytes c.args.page.now)

pub loop-digits-preserved : goal.loop-digits-preserved
loop-digits-preserved c =
    after_one (digits_text c.args.plain c.args.measure c.args.spans.now c.args.jobs) c.loop-digits.digits (string_bytes c.args.page.now) (string_bytes c.loop-digits.page)
    (string_bytes c.put_range.new.page) c.loop-digits.invariant
    (range_put c.args.plain c.args.measure c.args.spans.now c.args.jobs c.loop-digits.digits c.least_with-from.result c.greatest_with-to.result c.count_within-count.result
    (string_bytes c.loop-digits.page) (string_bytes c.put_range.new.page) c.least_with-from.ensures c.greatest_with-to.ensures c.count_within-count.ensures c.in_ok-put_range.ensures)

pub returns : goal.returns
returns c =
    c.loop-digits.invariant
    ∙ ap (λ count. string_bytes c.args.page.now ++ lists_below (digits_text c.args.plain c.args.measure c.args.spans.now c.args.jobs) count) (omega arith)
