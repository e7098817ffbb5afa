use Rattle.fairexec_report.proofs.ReportLaws.{one_report, plain_report, wrong_reports}
use Rattle.fairexec_report.proofs.TextsRefused.{texts_refused}
use Rattle.fairexec_report.proofs.laws.hold.Goals as goal

pub returns : goal.returns
returns c = record { report_is_determined = one_report; plain_report_is_short = plain_report; wrong_reports_are_refused = wrong_reports; wrong_texts_are_refused = texts_refused }
