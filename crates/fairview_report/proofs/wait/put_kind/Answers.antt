use Rattle.std.proofs.Common.{string_bytes}
use Rattle.std.proofs.lemmas.Result.{on_ok_weaker}
use Rattle.fairview_report.proofs.WaitLemmas.{kind_put}
use Rattle.fairview_report.proofs.wait.put_kind.Goals as goal

pub returns : goal.returns
returns c =
    on_ok_weaker c.put_spans-2.result
    (
    kind_put c.args.plain c.args.core c.args.kind c.args.spans.now (string_bytes c.args.page.now) (string_bytes c.put_spans.new.page) (string_bytes c.put_spans-2.new.page)
    c.in_ok-put_spans.ensures
    )
    c.put_spans-2.ensures
