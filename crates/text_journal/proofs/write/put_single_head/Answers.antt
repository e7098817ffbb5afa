use Rattle.std.proofs.Common.{◌++◌, ap, sym, ◌∙◌}
use Rattle.std.specs.Prelude.{string_bytes}
use Rattle.text_journal.proofs.LineLemmas.{single_head_joined}
use Rattle.text_journal.proofs.write.put_single_head.Goals as goal

pub returns-in-Ok : goal.returns-in-Ok
returns-in-Ok c =
    c.in-Ok.ensures.bytes
    ∙ ap (λ text. string_bytes c.args.page.now ++ text) (sym (single_head_joined c.args.cores c.args.cap))
