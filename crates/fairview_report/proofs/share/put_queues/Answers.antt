use Rattle.std.proofs.Common.{◌++◌, ap, ◌∙◌, arith, string_bytes}
use Rattle.judge_view.specs.Shares.{queue_share}
use Rattle.fairview_marks.specs.Lists.{lists_below}
use Rattle.fairview_report.specs.ShareTexts.{row_text}
use Rattle.fairview_marks.proofs.Lists.{before_all, after_one}
use Rattle.fairview_report.proofs.share.put_queues.Goals as goal

pub loop-queue-init : goal.loop-queue-init
loop-queue-init c = λ burst journal knows. before_all (λ queue. row_text c.args.form c.args.core c.args.busy queue (queue_share burst queue journal)) (string_bytes c.args.page.now)

pub loop-queue-preserved : goal.loop-queue-preserved
loop-queue-preserved c =
    λ burst journal knows.
    after_one (λ queue. row_text c.args.form c.args.core c.args.busy queue (queue_share burst queue journal)) c.loop-queue.queue (string_bytes c.args.page.now) (string_bytes c.loop-queue.page)
    (string_bytes c.put_row.new.page) (c.loop-queue.invariant burst journal knows)
    (c.in_ok-put_row.ensures ∙ ap (λ share. string_bytes c.loop-queue.page ++ row_text c.args.form c.args.core c.args.busy c.loop-queue.queue share) (c.queue.ensures burst journal knows))

pub returns : goal.returns
returns c =
    λ burst journal knows.
    c.loop-queue.invariant burst journal knows
    ∙ ap (λ count. string_bytes c.args.page.now ++ lists_below (λ queue. row_text c.args.form c.args.core c.args.busy queue (queue_share burst queue journal)) count) (omega arith)
