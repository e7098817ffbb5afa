use Rattle.std.proofs.Common.{refl, string_bytes}
use Rattle.std.specs.Prelude.{true}
use Rattle.text_journal.specs.Handed.{assembly_handed}
use Rattle.fairview_lag.specs.Lines.{lag_text}
use Rattle.fairview_report.specs.Told.{AreLags}
use Rattle.fairview_report.specs.declared.view.View.TheVariants.{Lag}
use Rattle.fairview_report.proofs.PageLemmas.{walked_shown}
use Rattle.fairview_report.proofs.TextLemmas.{on_empty}
use Rattle.fairview_report.proofs.pages.lag_text_page.Goals as goal

pub returns-in-Ok-put_lags-clause-ok : goal.returns-in-Ok-put_lags-clause-ok
returns-in-Ok-put_lags-clause-ok g c =
    let walked = c.in-Ok.walked in
    walked_shown (Lag true) (λ handed. AreLags walked.cores walked.burst walked.each.items (assembly_handed handed)) (g.R.Source.remaining c.args.source.now) (string_bytes c.put_lags.new.page) c.in-Ok.ensures.same_text
    (
    λ handed made.
    on_empty (string_bytes c.new-page.result) (string_bytes c.put_lags.new.page) (lag_text (assembly_handed handed)) c.new-page.ensures.bytes
    (c.in-Ok-put_lags.ensures (assembly_handed handed) made)
    )
    (λ assembly. refl)
