-- When what is handed in may be polled.
use Rattle.std.specs.Prelude.{◌≡◌, false}
use Rattle.base_words.specs.declared.order.Order.{Order}
use Rattle.base_words.specs.declared.order.Order.TheVariants.{Job, Create, SetShares, Close, CloseCore, Wake}
use Rattle.base_jobs.specs.Meanings.{Meaning}

-- a job isn't done, and has what a poll needs
abbrev pub IsReady : {J T : Type 0} → Meaning J T → J → Type 0
IsReady meaning job = (meaning.done job ≡ false) × meaning.can_poll job

-- the job of an order, if it is one, is ready
abbrev pub HasReadyJob : {J T : Type 0} → Meaning J T → Order J → Type 0
HasReadyJob meaning (Job queue job) = IsReady meaning job
HasReadyJob meaning (Create weight) = Unit {0}
HasReadyJob meaning (SetShares queue weight) = Unit {0}
HasReadyJob meaning (Close queue mode) = Unit {0}
HasReadyJob meaning (CloseCore mode) = Unit {0}
HasReadyJob meaning (Wake actor number) = Unit {0}
