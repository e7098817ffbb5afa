use Rattle.core_core.proofs.one_core.Core.deliver.Goals as goal

pub returns-in-Job : goal.returns-in-Job
returns-in-Job g c = record { delivers = rw c.in-Job.is c.deliver_noted.ensures.delivers; bounded = c.deliver_noted.ensures.bounded }

pub returns-in-Create : goal.returns-in-Create
returns-in-Create g c = record { delivers = rw c.in-Create.is c.deliver_create.ensures.delivers; bounded = c.deliver_create.ensures.bounded }

pub returns-in-SetShares : goal.returns-in-SetShares
returns-in-SetShares g c = record { delivers = rw c.in-SetShares.is c.deliver_shares.ensures.delivers; bounded = c.deliver_shares.ensures.bounded }

pub returns-in-Close : goal.returns-in-Close
returns-in-Close g c = record { delivers = rw c.in-Close.is c.deliver_close.ensures.delivers; bounded = c.deliver_close.ensures.bounded }

pub returns-in-CloseCore : goal.returns-in-CloseCore
returns-in-CloseCore g c = record { delivers = rw c.in-CloseCore.is c.deliver_close_core.ensures.delivers; bounded = c.deliver_close_core.ensures.bounded }

pub returns-in-Wake : goal.returns-in-Wake
returns-in-Wake g c = record { delivers = rw c.in-Wake.is c.deliver_wake.ensures.delivers; bounded = c.deliver_wake.ensures.bounded }
