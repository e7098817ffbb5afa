-- The text of a queue that wasn't planned.
use Rattle.std.specs.Prelude.{ℕ, List, codes}
use Rattle.duthlwyran.specs.declared.house.PlanError.{PlanError}
use Rattle.duthlwyran.specs.declared.house.PlanError.TheVariants.{NoCore, BadShares, TooMany, Memory}

-- the text of each cause
abbrev pub plan_text : PlanError → List ℕ
plan_text NoCore = codes "no such core"
plan_text BadShares = codes "shares are from 1 to 10000"
plan_text TooMany = codes "the core has 256 queues"
plan_text Memory = codes "out of memory"
