-- Orders of a script for threads that keep no limits, each for one thing.
use Rattle.std.specs.Prelude.{[], ◌∷◌, List, ℕ, None, Some}
use Rattle.base_words.specs.declared.order.Order.TheVariants.{Job, Create}
use Rattle.base_jobs.specs.declared.poll.Poll.{Poll}
use Rattle.base_jobs.specs.declared.poll.Poll.TheVariants.{Park, Done}
use Rattle.fairexec_script.specs.ThreadsLimits.{AreTold, HasSpare, AreCounted}
use Rattle.fairexec_script.specs.Orders.{Told}

-- a job of these polls is sent to core 0, after so many of them were made
abbrev pub job_told : List Poll → ℕ → Told
job_told polls polled = (0, Job 0 (record { polls = polls; polled = polled }))

-- a queue is ordered of this core
abbrev pub queue_told : ℕ → Told
queue_told core = (core, Create 500)

-- each of these is refused; if the size is told, there is one core, whose link holds two orders
pub record OrdersAreRefused : Type 0 where
  -- an order before the size is told, and one to a core that isn't there
  pub without_size : AreTold None (queue_told 0 ∷ []) → ⊥
  pub to_none : AreTold (Some (1, 2)) (queue_told 1 ∷ []) → ⊥
  -- a job without polls, one that was polled, and one that parks
  pub no_polls : AreTold (Some (1, 2)) (job_told [] 0 ∷ []) → ⊥
  pub was_polled : AreTold (Some (1, 2)) (job_told (Done 5 1 ∷ []) 1 ∷ []) → ⊥
  pub parks : AreTold (Some (1, 2)) (job_told (Park 5 ∷ Done 5 1 ∷ []) 0 ∷ []) → ⊥
  -- two orders, which leave no place to the order that closes the core
  pub no_spare : HasSpare (Some (1, 2)) (queue_told 0 ∷ queue_told 0 ∷ []) → ⊥
  -- an order that isn't counted, and one that is counted twice
  pub uncounted : AreCounted [] (queue_told 0 ∷ []) [] [] → ⊥
  pub counted_twice : AreCounted [] (queue_told 0 ∷ []) [] (2 ∷ []) → ⊥
