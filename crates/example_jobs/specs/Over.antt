-- When the work of the broker is over.
use Rattle.std.specs.Prelude.{Bool, true, false}
use Rattle.example_jobs.specs.declared.work.MessageJob.{MessageJob}
use Rattle.example_jobs.specs.declared.work.MessageJob.TheVariants.{Publish, Index, Compact, Ended}

-- whether it has answered
abbrev pub is_over : MessageJob → Bool
is_over (Publish message index kept) = false
is_over (Index message) = false
is_over (Compact blocks index) = false
is_over Ended = true
