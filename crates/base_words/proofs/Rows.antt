-- The definitions, computed on small journals.
use Rattle.base_words.proofs.Words.{accepted_orders, at_place, closed_over, delivered_names, false, finishes, first_parked, first_woken, floor, given_outcomes, handed_back, has_work, is_inside, is_wake_kept, JobId, jobs_inside, jobs_out}
use Rattle.base_words.proofs.Words.{Journal, line, map, None, own, parked, queue_out, refl, returns, reverse, shares, Some, starts, stayed, true, turns, virtual_runtime, wake_kept, woken_early, woken_later, ℕ, [], ◌∷◌, ◌≡◌}
use Rattle.base_words.specs.declared.note.Note.TheVariants.{Sent, Took, Created, QueueClosed, Answered, Pick, Start, Resume, Yield, Park, Done, Returned}
use Rattle.base_words.specs.declared.note.OutcomeNote.TheVariants.{Finished}
use Rattle.base_words.specs.declared.order.Order.TheVariants as order
use Rattle.base_words.specs.declared.order.Mode.TheVariants as mode
use Rattle.base_words.specs.declared.order.Reason.TheVariants as reason
use Rattle.base_words.specs.declared.order.Answer.TheVariants as answer

job : ℕ → JobId
job number = record { from = 0; to = 0; number = number }

-- one poll of 40 ns
one_job : Journal ℕ
one_job = reverse (Sent (job 1) (order.Job 0 tt) ∷ Took (job 1) 0 ∷ Pick 0 0 ∷ Start (job 1) ∷ Done (job 1) 40 7 ∷ [])

one_job-virtual_runtime : virtual_runtime 1 0 one_job ≡ 40
unfolding one_job job
one_job-virtual_runtime = refl

one_job-given_outcomes : given_outcomes 0 one_job ≡ (job 1, Finished 7) ∷ []
unfolding one_job job
one_job-given_outcomes = refl

one_job-work : has_work 0 one_job ≡ false
unfolding one_job job
one_job-work = refl

-- two queues of 1000 and 500 shares, three polls of 30 ns in each
two_queues : Journal ℕ
two_queues =
    reverse
    (
    Created 1 500 ∷ Sent (job 1) (order.Job 0 tt) ∷ Sent (job 2) (order.Job 1 tt) ∷ Took (job 1) 0 ∷ Took (job 2) 1
    ∷ Pick 0 0 ∷ Start (job 1) ∷ Yield (job 1) 30
    ∷ Pick 1 0 ∷ Start (job 2) ∷ Yield (job 2) 30
    ∷ Pick 0 30 ∷ Resume (job 1) ∷ Yield (job 1) 30
    ∷ Pick 0 60 ∷ Resume (job 1) ∷ Done (job 1) 30 0
    ∷ Pick 1 60 ∷ Resume (job 2) ∷ Yield (job 2) 30
    ∷ Pick 1 120 ∷ Resume (job 2) ∷ Done (job 2) 30 0
    ∷ []
    )

-- at the end the virtual runtimes are 90 and 180, and the floor is 120
two_queues-end : (virtual_runtime 1 0 two_queues ≡ 90) × (virtual_runtime 1 1 two_queues ≡ 180) × (floor two_queues ≡ 120) × (shares 1 two_queues ≡ 500)
unfolding two_queues job
two_queues-end = (refl, refl, refl, refl)

-- six picks, and while job 1 is out the queue out is its own
two_queues-turns : (turns two_queues ≡ 6) × (queue_out (at_place 7 two_queues) ≡ Some 0) × (queue_out two_queues ≡ None)
unfolding two_queues job
two_queues-turns = (refl, refl, refl)

-- at the second pick of queue 0
two_queues-middle : (virtual_runtime 1 0 (at_place 11 two_queues) ≡ 30) × (virtual_runtime 1 1 (at_place 11 two_queues) ≡ 60) × (line 0 (at_place 11 two_queues) ≡ job 1 ∷ []) × (jobs_out (at_place 11 two_queues) ≡ [])
unfolding two_queues job
two_queues-middle = (refl, refl, refl, refl)

-- a queue that gets its first job late is placed at the floor
late_queue : Journal ℕ
late_queue =
    reverse
    (
    Created 1 1000 ∷ Sent (job 1) (order.Job 0 tt) ∷ Took (job 1) 0
    ∷ Pick 0 0 ∷ Start (job 1) ∷ Yield (job 1) 100
    ∷ Pick 0 100 ∷ Resume (job 1) ∷ Yield (job 1) 100
    ∷ Sent (job 2) (order.Job 1 tt) ∷ Took (job 2) 1
    ∷ []
    )

late_queue-end : (virtual_runtime 1 0 late_queue ≡ 200) × (virtual_runtime 1 1 late_queue ≡ 100)
unfolding late_queue job
late_queue-end = (refl, refl)

-- two jobs in one queue; the first yields to the tail
tail : Journal ℕ
tail =
    reverse
    (
    Sent (job 1) (order.Job 0 tt) ∷ Sent (job 2) (order.Job 0 tt) ∷ Took (job 1) 0 ∷ Took (job 2) 0
    ∷ Pick 0 0 ∷ Start (job 1) ∷ Yield (job 1) 10
    ∷ Pick 0 10 ∷ Start (job 2) ∷ Done (job 2) 10 2
    ∷ Pick 0 20 ∷ Resume (job 1) ∷ Done (job 1) 10 1
    ∷ []
    )

tail-lines : (line 0 (at_place 4 tail) ≡ job 1 ∷ job 2 ∷ []) × (line 0 (at_place 6 tail) ≡ job 2 ∷ []) × (line 0 (at_place 7 tail) ≡ job 2 ∷ job 1 ∷ []) × (line 0 (at_place 10 tail) ≡ job 1 ∷ []) × (line 0 tail ≡ [])
unfolding tail job
tail-lines = (refl, refl, refl, refl, refl)

tail-ends : (starts tail ≡ job 1 ∷ job 2 ∷ []) × (finishes tail ≡ job 2 ∷ job 1 ∷ []) × (map (λ o. o.0) (accepted_orders 0 tail) ≡ job 1 ∷ job 2 ∷ []) × (delivered_names 0 tail ≡ job 1 ∷ job 2 ∷ [])
unfolding tail job
tail-ends = (refl, refl, refl, refl)

-- a queue closed in mode `Return` hands its jobs back, and is charged nothing for it
handed : Journal ℕ
handed =
    reverse
    (
    Created 1 1000 ∷ Sent (job 1) (order.Job 1 tt) ∷ Sent (job 2) (order.Job 1 tt) ∷ Took (job 1) 1 ∷ Took (job 2) 1
    ∷ Pick 1 0 ∷ Start (job 1) ∷ Yield (job 1) 20
    ∷ Answered (job 3) answer.Closed ∷ QueueClosed 1 mode.Return
    ∷ Pick 1 20 ∷ Returned (job 2) reason.QueueReturned
    ∷ Pick 1 20 ∷ Returned (job 1) reason.QueueReturned
    ∷ []
    )

handed-end : (virtual_runtime 1 1 handed ≡ 20) × (floor handed ≡ 20) × (has_work 1 handed ≡ false) × (returns handed ≡ job 2 ∷ job 1 ∷ [])
unfolding handed job
handed-end = (refl, refl, refl, refl)

handed-line : (line 1 (at_place 10 handed) ≡ job 2 ∷ job 1 ∷ []) × (line 1 (at_place 12 handed) ≡ job 1 ∷ [])
unfolding handed job
handed-line = (refl, refl)

-- a job is parked and costs its queue 10; it is no work, until it is woken; then it goes on at 30
woken_later-numbers : (parked 0 first_parked ≡ own 1 ∷ []) × (line 0 first_parked ≡ own 2 ∷ []) × (virtual_runtime 1 0 first_parked ≡ 10) × (line 0 first_woken ≡ own 1 ∷ []) × (parked 0 first_woken ≡ []) × (virtual_runtime 1 0 woken_later ≡ 35) × (floor woken_later ≡ 30)
woken_later-numbers = (refl, refl, refl, refl, refl, refl, refl)

-- while it is parked alone, its queue has no work, and holds it
asleep-numbers : (has_work 0 (at_place 10 woken_later) ≡ false) × (jobs_inside 0 (at_place 10 woken_later) ≡ 1) × (has_work 0 first_woken ≡ true)
asleep-numbers = (refl, refl, refl)

-- a wake before the park is kept, and is used up
woken_early-numbers : (is_wake_kept (own 1) wake_kept ≡ true) × (line 0 stayed ≡ own 1 ∷ []) × (parked 0 stayed ≡ []) × (is_wake_kept (own 1) stayed ≡ false) × (is_inside (own 1) stayed ≡ true) × (is_inside (own 1) woken_early ≡ false)
woken_early-numbers = (refl, refl, refl, refl, refl, refl)

-- a closing in mode `Return` puts the parked job at the tail
handed_back-numbers : (has_work 1 (at_place 6 handed_back) ≡ false) × (line 1 closed_over ≡ own 1 ∷ []) × (parked 1 closed_over ≡ []) × (virtual_runtime 1 1 handed_back ≡ 20) × (has_work 1 handed_back ≡ false)
handed_back-numbers = (refl, refl, refl, refl, refl)

-- also on a journal that nobody may write no job is parked twice
parked_once : parked 0 (Park (own 1) 5 ∷ first_parked) ≡ own 1 ∷ []
parked_once = refl
