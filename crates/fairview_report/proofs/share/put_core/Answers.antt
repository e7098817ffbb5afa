use Rattle.std.proofs.Common.{◌++◌, ap, ◌∙◌, string_bytes}
use Rattle.std.proofs.lemmas.Result.{on_ok_weaker}
use Rattle.fairview_report.specs.ShareTexts.{queues_text}
use Rattle.fairview_report.proofs.share.put_core.Goals as goal

pub returns : goal.returns
returns c =
    on_ok_weaker c.put_queues.result
    (
    λ put burst journal knows.
    put burst journal knows
    ∙ ap (λ busy. string_bytes c.args.page.now ++ queues_text c.args.form burst c.args.core busy journal) (c.busy.ensures burst journal knows)
    )
    c.put_queues.ensures
