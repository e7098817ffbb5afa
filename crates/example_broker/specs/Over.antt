-- When the work of the broker is over, and for how long it sleeps.
use Rattle.std.specs.Prelude.{ℕ, Bool, true, false, Option, Some, None, unwrap_or}
use Rattle.example_broker.specs.declared.work.TheConstants.{LONGEST_WAIT}
use Rattle.example_broker.specs.declared.work.BrokerJob.{BrokerJob}
use Rattle.example_broker.specs.declared.work.BrokerJob.TheVariants.{Publish, Index, Fetch, Hold, Ended}

-- whether it has answered
abbrev pub is_over : BrokerJob → Bool
is_over (Publish message on kept wait) = false
is_over (Index message on wait) = false
is_over (Fetch places reply) = false
is_over (Hold places) = false
is_over Ended = true

-- for how long it sleeps once it is parked, if it does
abbrev pub sleep_of : BrokerJob → Option ℕ
sleep_of (Publish message on kept wait) = Some (unwrap_or wait LONGEST_WAIT)
sleep_of (Index message on wait) = wait
sleep_of _ = None
