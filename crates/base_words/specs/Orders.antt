-- Orders without their jobs, as notes tell them, and the ranges of their numbers.
use Rattle.std.specs.Prelude.{◌<◌}
use Rattle.base_words.specs.Charge.{InRange}
use Rattle.base_words.specs.declared.order.Order.{Order}
use Rattle.base_words.specs.declared.order.Order.TheVariants.{Job, Create, SetShares, Close, CloseCore, Wake}
use Rattle.base_words.specs.Limits.{most_queues}

-- the order, without its job
abbrev pub without_job : {J : Type 0} → Order J → Order (Unit {0})
without_job (Job queue job) = Job queue tt
without_job (Create weight) = Create weight
without_job (SetShares queue weight) = SetShares queue weight
without_job (Close queue mode) = Close queue mode
without_job (CloseCore mode) = CloseCore mode
without_job (Wake actor number) = Wake actor number

-- its queue and its shares are within their ranges; a wake may name any actor and number that its types hold
abbrev pub IsSpelledOrder : {J : Type 0} → Order J → Type 0
IsSpelledOrder (Job queue job) = queue < most_queues
IsSpelledOrder (Create weight) = InRange weight
IsSpelledOrder (SetShares queue weight) = (queue < most_queues) × InRange weight
IsSpelledOrder (Close queue mode) = queue < most_queues
IsSpelledOrder (CloseCore mode) = Unit {0}
IsSpelledOrder (Wake actor number) = Unit {0}
