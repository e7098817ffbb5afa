use Rattle.fairview_report.proofs.pages.lag_page.Goals as goal

pub returns-then-text-clause-ok : goal.returns-then-text-clause-ok
returns-then-text-clause-ok g c = rw c.if-text.true c.lag_text_page.ensures.ok

pub returns-then-text-clause-fault : goal.returns-then-text-clause-fault
returns-then-text-clause-fault g c = rw c.if-text.true c.lag_text_page.ensures.fault

pub returns-else-text-clause-ok : goal.returns-else-text-clause-ok
returns-else-text-clause-ok g c = rw c.if-text.false c.lag_picture_page.ensures.ok

pub returns-else-text-clause-fault : goal.returns-else-text-clause-fault
returns-else-text-clause-fault g c = rw c.if-text.false c.lag_picture_page.ensures.fault
