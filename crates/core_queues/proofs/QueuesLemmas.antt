-- What callers need of the words for queues.
use Rattle.core_queues.proofs.Words.{ap, arith, cases_lt, get_or, get_or-le-sum_by, get_or_past, held_count, held_in, length, List, nil_from_length, parked_of, queue_count, QueuesView, QueueView, refl, shares_of, suc, sum_by, sum_by-cons}
use Rattle.core_queues.proofs.Words.{waiting_of, ℕ, [], ⊎_elim, ◌+◌, ◌<◌, ◌∷◌, ◌≡◌, ◌≤◌}
use Rattle.core_queues.specs.View.{no_queue}

module _ {J : Type 0} where
  -- no job waits in a queue that doesn't exist
  pub waiting_of-past : (queue : ℕ) (view : QueuesView J) → queue_count view ≤ queue → waiting_of queue view ≡ []
  waiting_of-past queue view past = ap (λ (q : QueueView J). q.waiting) (get_or_past view.queues queue no_queue past)

  -- and none is parked there
  pub parked_of-past : (queue : ℕ) (view : QueuesView J) → queue_count view ≤ queue → parked_of queue view ≡ []
  parked_of-past queue view past = ap (λ (q : QueueView J). q.parked) (get_or_past view.queues queue no_queue past)

  -- such a queue has no shares
  pub shares_of-past : (queue : ℕ) (view : QueuesView J) → queue_count view ≤ queue → shares_of queue view ≡ 0
  shares_of-past queue view past = ap (λ (q : QueueView J). q.shares) (get_or_past view.queues queue no_queue past)

  -- no queue holds more than all of them together
  pub held_of-le-held_count : (queue : ℕ) (view : QueuesView J) → length (waiting_of queue view) + length (parked_of queue view) ≤ held_count view
  held_of-le-held_count queue view =
      let within : queue < queue_count view → length (waiting_of queue view) + length (parked_of queue view) ≤ held_count view = λ h. get_or-le-sum_by held_in view.queues queue no_queue h in
      let past : queue_count view ≤ queue → length (waiting_of queue view) + length (parked_of queue view) ≤ held_count view =
      λ h. omega (arith, ap length (waiting_of-past queue view h), ap length (parked_of-past queue view h)) in
      ⊎_elim within past (cases_lt queue (queue_count view))

  -- no line is longer than all of them together
  pub waiting_of-le-held_count : (queue : ℕ) (view : QueuesView J) → length (waiting_of queue view) ≤ held_count view
  waiting_of-le-held_count queue view = omega (arith, held_of-le-held_count queue view)

  -- where no job is held, each line is empty
  pub waiting_of_none_held : (view : QueuesView J) → held_count view ≡ 0 → (queue : ℕ) → waiting_of queue view ≡ []
  waiting_of_none_held view none queue = nil_from_length (waiting_of queue view) (omega (arith, held_of-le-held_count queue view))

  -- and no job is parked
  pub parked_of_none_held : (view : QueuesView J) → held_count view ≡ 0 → (queue : ℕ) → parked_of queue view ≡ []
  parked_of_none_held view none queue = nil_from_length (parked_of queue view) (omega (arith, held_of-le-held_count queue view))

  -- a queue in which a job waits exists
  pub queue_exists_where_waiting : (queue : ℕ) (view : QueuesView J) → (waiting_of queue view ≡ [] → ⊥) → queue < queue_count view
  queue_exists_where_waiting queue view some =
      ⊎_elim (λ h. h) (λ past. absurd (some (waiting_of-past queue view past))) (cases_lt queue (queue_count view))

  -- so does one in which a job is parked
  pub queue_exists_where_parked : (queue : ℕ) (view : QueuesView J) → (parked_of queue view ≡ [] → ⊥) → queue < queue_count view
  queue_exists_where_parked queue view some =
      ⊎_elim (λ h. h) (λ past. absurd (some (parked_of-past queue view past))) (cases_lt queue (queue_count view))

  sum_none : (queues : List (QueueView J)) → ((i : ℕ) → (get_or queues i no_queue).waiting ≡ []) → ((i : ℕ) → (get_or queues i no_queue).parked ≡ []) → sum_by held_in queues ≡ 0
  sum_none [] empty nobody = refl
  sum_none (q ∷ queues) empty nobody =
      let here : length q.waiting ≡ 0 = ap length (empty 0) in
      let there : length q.parked ≡ 0 = ap length (nobody 0) in
      let rest = sum_none queues (λ i. empty (suc i)) (λ i. nobody (suc i)) in
      omega (arith, sum_by-cons held_in q queues)

  -- where each line is empty and no job is parked, no job is held
  pub held_count_all_empty : (view : QueuesView J) → ((queue : ℕ) → waiting_of queue view ≡ []) → ((queue : ℕ) → parked_of queue view ≡ []) → held_count view ≡ 0
  held_count_all_empty view empty nobody = sum_none view.queues empty nobody
