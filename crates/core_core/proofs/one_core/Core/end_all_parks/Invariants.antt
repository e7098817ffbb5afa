use Rattle.core_core.proofs.Names.{EndsParks, IsBounded, nat_lt, queue_count, ◌≡◌, ◌≤◌}
use Rattle.core_core.proofs.one_core.Core.end_all_parks.Given as goal

-- the parks of the queues below this number ended
abbrev pub invariant-loop-number : goal.invariant-loop-number
invariant-loop-number g l =
    EndsParks l.initial.self (λ queue. nat_lt queue l.number) l.self
    × IsBounded l.self × (queue_count l.self.queues ≡ l.number-end) × (l.number-end ≤ 256)
