use Rattle.std.proofs.Common.{◌∙◌, string_bytes}
use Rattle.std.proofs.lemmas.Result.{on_ok_weaker}
use Rattle.fairview_report.proofs.WaitLemmas.{core_put}
use Rattle.fairview_report.proofs.wait.put_core.Goals as goal

pub returns : goal.returns
returns c =
    on_ok_weaker c.put_kind-2.result
    (
    λ second journal are.
    core_put c.args.plain c.args.core journal c.deref.result.now c.deref-2.result.now (string_bytes c.args.page.now) (string_bytes c.put_kind.new.page)
    (string_bytes c.put_kind-2.new.page) (c.deref.ensures.value ∙ are.waits) (c.deref-2.ensures.value ∙ are.runs) c.in_ok-put_kind.ensures second
    )
    c.put_kind-2.ensures
