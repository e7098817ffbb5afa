-- Each draft and each order with one thing wrong is refused.
use Rattle.std.proofs.Common.{◌≡◌, ◌<◌, ◌≤◌, ℕ, List, [], ◌∷◌, All, arith, true, false}
use Rattle.base_words.specs.declared.order.Order.TheVariants.{Job}
use Rattle.base_jobs.specs.Scripts.{Script}
use Rattle.base_jobs.specs.declared.poll.Poll.TheVariants.{Done, Park}
use Rattle.fairexec_script.specs.declared.event.ScriptEvent.{ScriptEvent}
use Rattle.fairexec_script.specs.declared.event.ScriptEvent.TheVariants.{Send, Deliver, Turn}
use Rattle.fairexec_script.specs.BadDrafts.{DraftsAreRefused}
use Rattle.fairexec_script.specs.Limits.{IsEventOf}
use Rattle.fairexec_script.specs.BadOrders.{OrdersAreRefused, job_told, queue_told}
use Rattle.fairexec_script.specs.ThreadsLimits.{IsToldOf}
use Rattle.fairexec_script.specs.Orders.{Told}

some_line : (queue : ℕ × ℕ) (queues : List (ℕ × ℕ)) → queue ∷ queues ≡ [] → ⊥
some_line queue queues h = cc

-- what is so of all events is so of the only one
alone : (event : ScriptEvent) → All (IsEventOf 1) (event ∷ []) → IsEventOf 1 event
alone event all = all 0 event (omega arith)

line_alone : (queue : ℕ × ℕ) → All (λ (it : ℕ × ℕ). it.0 < 1) (queue ∷ []) → queue.0 < 1
line_alone queue all = all 0 queue (omega arith)

sent : (job : Script) → All (IsEventOf 1) (Send 1 0 (Job 0 job) ∷ []) → IsEventOf 1 (Send 1 0 (Job 0 job))
sent job all = alone (Send 1 0 (Job 0 job)) all

pub drafts_refused : DraftsAreRefused
drafts_refused = record {
  without_size = λ limits. some_line _ _ limits.placed;
  no_cores = λ limits. let some : 1 ≤ 0 = limits.sized.some_cores in omega arith;
  many_cores = λ limits. let few : 17 ≤ 16 = limits.sized.few_cores in omega arith;
  no_burst = λ limits. let some : 1 ≤ 0 = limits.bursts.some_poll in omega arith;
  long_burst = λ limits. let few : 65 ≤ 64 = limits.bursts.few_polls in omega arith;
  queue_of_none = λ limits. let there : 1 < 1 = line_alone (1, 500) limits.placed in omega arith;
  turn_of_none = λ limits. let there : 1 < 1 = (alone (Turn 1) limits.happen).core in omega arith;
  from_none = λ limits. let there : 2 ≤ 1 = (alone (Deliver 0 2) limits.happen).sender in omega arith;
  no_polls = λ limits. let some : 1 ≤ 0 = (sent (record { polls = []; polled = 0 }) limits.happen).some_polls in omega arith;
  was_polled = λ limits. let none : 1 ≡ 0 = (sent (record { polls = Done 5 1 ∷ []; polled = 1 }) limits.happen).none_made in omega arith;
  uncounted = λ counted. let same : 0 ≡ 1 = counted.each 0 in omega arith;
  counted_twice = λ counted. let same : 2 ≡ 1 = counted.each 0 in omega arith;
}

some_order : (told : Told) (orders : List Told) → told ∷ orders ≡ [] → ⊥
some_order told orders none = cc

-- what is so of all orders is so of the only one
only : (told : Told) → All (IsToldOf 1) (told ∷ []) → IsToldOf 1 told
only told all = all 0 told (omega arith)

pub orders_refused : OrdersAreRefused
orders_refused = record {
  without_size = λ told. some_order _ _ told;
  to_none = λ told. let there : 1 < 1 = (only (queue_told 1) told).core in omega arith;
  no_polls = λ told. let some : 1 ≤ 0 = (only (job_told [] 0) told).some_polls in omega arith;
  was_polled = λ told. let none : 1 ≡ 0 = (only (job_told (Done 5 1 ∷ []) 1) told).none_made in omega arith;
  parks = λ told. let never : true ≡ false = (only (job_told (Park 5 ∷ Done 5 1 ∷ []) 0) told).never_parks in cc;
  no_spare = λ spare. let few : 2 < 2 = spare 0 in omega arith;
  uncounted = λ counted. let same : 0 ≡ 1 = counted.sent_are 0 in omega arith;
  counted_twice = λ counted. let same : 2 ≡ 1 = counted.sent_are 0 in omega arith;
}
