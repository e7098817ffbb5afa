use Rattle.fairexec_script.proofs.DraftsRefused.{drafts_refused, orders_refused}
use Rattle.fairexec_script.proofs.refused.drafts.Goals as goal

pub returns : goal.returns
returns c = record { drafts = drafts_refused; orders = orders_refused }
