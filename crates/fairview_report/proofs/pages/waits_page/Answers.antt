use Rattle.std.proofs.Common.{refl, string_bytes}
use Rattle.text_journal.specs.Handed.{assembly_handed}
use Rattle.fairview_report.specs.WaitTexts.{IsWaitText}
use Rattle.fairview_report.specs.Told.{AreWaits}
use Rattle.fairview_report.specs.declared.view.View.TheVariants.{Waits}
use Rattle.fairview_report.proofs.PageLemmas.{walked_shown}
use Rattle.fairview_report.proofs.TextLemmas.{puts_on_empty}
use Rattle.fairview_report.proofs.pages.waits_page.Goals as goal

pub returns-in-Ok-put_waits-clause-ok : goal.returns-in-Ok-put_waits-clause-ok
returns-in-Ok-put_waits-clause-ok g c =
    let walked = c.in-Ok.walked in
    walked_shown (Waits c.args.plain) (λ handed. AreWaits walked.cores walked.burst walked.each.items (assembly_handed handed)) (g.R.Source.remaining c.args.source.now) (string_bytes c.put_waits.new.page) c.in-Ok.ensures.same_text
    (
    λ handed made.
    puts_on_empty (IsWaitText c.args.plain (assembly_handed handed)) (string_bytes c.new-page.result) (string_bytes c.put_waits.new.page) c.new-page.ensures.bytes
    (c.in-Ok-put_waits.ensures (assembly_handed handed) made)
    )
    (λ assembly. refl)
