use Rattle.std.proofs.Common.{refl}
use Rattle.fairexec.proofs.print.Goals as goal

pub returns-in-Ok-clause-printed : goal.returns-in-Ok-clause-printed
returns-in-Ok-clause-printed g c = record { done = (refl, c.in-Ok.ensures.ok); failed = tt }

pub returns-in-Err-clause-printed : goal.returns-in-Err-clause-printed
returns-in-Err-clause-printed g c = record { done = tt; failed = (refl, c.in-Err.ensures.err, c.in-Err.ensures.failed) }
