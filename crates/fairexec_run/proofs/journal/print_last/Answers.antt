use Rattle.text_bytes.proofs.KnownLemmas.{Appends-more_kept}
use Rattle.fairexec_report.proofs.AuditLemmas.{front_of_all}
use Rattle.fairexec_run.proofs.journal.print_last.Goals as goal

pub returns-in-Ok-clause-ok : goal.returns-in-Ok-clause-ok
returns-in-Ok-clause-ok g c = Appends-more_kept _ _ _ _ c.in_ok-print_page.ensures.ok c.flush.ensures.kept

pub returns-in-Err-clause-err : goal.returns-in-Err-clause-err
returns-in-Err-clause-err g c = front_of_all _ _ _ (Appends-more_kept _ _ _ _ c.in_ok-print_page.ensures.ok c.flush.ensures.kept)

pub returns-in-Err-clause-failed : goal.returns-in-Err-clause-failed
returns-in-Err-clause-failed g c = (c.print_page.new.sink, c.print_page.ensures.tried, c.in-Err.ensures.failed)
