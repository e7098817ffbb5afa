-- The orders of a script for threads, and how many polls their jobs have.
use Rattle.std.specs.Prelude.{ℕ, ◌==◌, List, length, count_by, sum_by}
use Rattle.base_words.specs.declared.order.Order.{Order}
use Rattle.base_words.specs.declared.order.Order.TheVariants as order
use Rattle.base_jobs.specs.Scripts.{Script}

-- an order and the core that gets it
abbrev pub Told : Type 0
Told = ℕ × Order Script

-- how many orders a core gets
abbrev pub orders_to : ℕ → List Told → ℕ
orders_to core orders = count_by (λ told. told.0 == core) orders

-- how many polls the job of an order has
abbrev pub polls_of : Order Script → ℕ
polls_of (order.Job queue job) = length job.polls
polls_of _ = 0

-- how many polls all jobs have together
abbrev pub polls_in : List Told → ℕ
polls_in orders = sum_by (λ told. polls_of told.1) orders

-- the most polls of all jobs together; it is a limit of its own, though as many lines are allowed
abbrev pub most_polls : ℕ
most_polls = 4096
