use Rattle.std.proofs.Common.{◌++◌, ap, ◌∙◌, string_bytes}
use Rattle.std.proofs.lemmas.Result.{on_ok_weaker}
use Rattle.fairview_report.specs.ShareTexts.{cores_text, head_text}
use Rattle.fairview_report.proofs.TextLemmas.{then_put}
use Rattle.fairview_report.proofs.share.put_shares.Goals as goal

pub returns : goal.returns
returns c =
    on_ok_weaker c.put_cores.result
    (
    λ put assembly knows.
    then_put (string_bytes c.args.page.now) (string_bytes c.push_str.new.self) (string_bytes c.put_cores.new.page) (head_text c.args.form) (cores_text c.args.form assembly)
    (c.in_ok-push_str.ensures.bytes ∙ ap (λ head. string_bytes c.args.page.now ++ head) c.head_text.ensures) (put assembly knows)
    )
    c.put_cores.ensures
