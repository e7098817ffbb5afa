use Rattle.std.proofs.Common.{refl, string_bytes}
use Rattle.text_journal.specs.Handed.{assembly_handed}
use Rattle.fairview_report.specs.ShareTexts.{shares_text}
use Rattle.fairview_report.specs.Told.{AreShares}
use Rattle.fairview_report.specs.declared.view.View.TheVariants.{Shares}
use Rattle.fairview_report.proofs.PageLemmas.{walked_shown}
use Rattle.fairview_report.proofs.TextLemmas.{on_empty}
use Rattle.fairview_report.proofs.pages.shares_page.Goals as goal

pub returns-in-Ok-put_shares-clause-ok : goal.returns-in-Ok-put_shares-clause-ok
returns-in-Ok-put_shares-clause-ok g c =
    let walked = c.in-Ok.walked in
    walked_shown (Shares c.args.form) (λ handed. AreShares walked.cores walked.burst walked.each.items (assembly_handed handed)) (g.R.Source.remaining c.args.source.now) (string_bytes c.put_shares.new.page) c.in-Ok.ensures.same_text
    (
    λ handed made.
    on_empty (string_bytes c.new-page.result) (string_bytes c.put_shares.new.page) (shares_text c.args.form (assembly_handed handed)) c.new-page.ensures.bytes
    (c.in-Ok-put_shares.ensures (assembly_handed handed) made)
    )
    (λ assembly. refl)
