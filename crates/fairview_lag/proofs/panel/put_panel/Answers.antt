use Rattle.std.proofs.Common.{◌++◌, append_assoc, ap, ◌∙◌, string_bytes}
use Rattle.std.proofs.lemmas.Result.{on_ok_weaker}
use Rattle.fairview_lag.specs.ColumnTexts.{columns_text}
use Rattle.fairview_lag.specs.Panels.{head_text}
use Rattle.fairview_lag.specs.declared.columns.Panel.{Panel}
use Rattle.fairview_lag.proofs.panel.put_panel.Goals as goal

pub returns : goal.returns
returns c =
    let page = string_bytes c.args.page.now in
    let panel = c.in_ok-panel.panel in
    let notes = c.args.journal.now.notes in
    on_ok_weaker c.put_columns.result
    (
    λ put.
    put ∙
    (ap (λ text. text ++ columns_text panel notes) c.in_ok-put_head.ensures
    ∙ (append_assoc page (head_text panel c.args.pair.now) (columns_text panel notes)
    ∙ ap (λ (panel : Panel). page ++ (head_text panel c.args.pair.now ++ columns_text panel notes)) c.in_ok-panel.ensures))
    )
    c.put_columns.ensures
