-- Plans of queues that are refused.
use Rattle.std.proofs.Common.{◌≡◌, ℕ, List, [], ◌∷◌, ap, sym, ◌∙◌}
use Rattle.std.specs.Prelude.{Ok}
use Rattle.base_words.specs.declared.note.Note.TheVariants.{Created}
use Rattle.run_config.specs.Configs.{Entry}
use Rattle.run_worker.specs.Queues.{creations}
use Rattle.duthlwyran.specs.Plans.{Plan, Name, PlansQueue}

abbrev reads : Name
reads = record { core = 0; queue = 1; text = 114 ∷ [] }

-- two cores, of which core 0 has a queue
abbrev one_queue : Plan
one_queue = record { cores = 2; cap = 8; burst = 1; room = 4000; queues = (0, 900) ∷ []; names = reads ∷ [] }

-- the second queue of a core gets the number of the first
number_given_twice : (new : Plan) → PlansQueue 0 100 (99 ∷ []) one_queue (Ok (record { core = 0; queue = 1 })) new → ⊥
number_given_twice new plans =
    let told : creations {T = ℕ} 0 ((0, 900) ∷ (0, 100) ∷ []) ≡ Created 1 100 ∷ creations 0 ((0, 900) ∷ [])
    = sym (ap (λ (p : Plan). creations 0 p.queues) plans.3) ∙ plans.4 in
    cc

-- a queue is answered and not planned
queue_forgotten : PlansQueue 0 100 (99 ∷ []) one_queue (Ok (record { core = 0; queue = 2 })) one_queue → ⊥
queue_forgotten plans =
    let same : ◌≡◌ {A = List Entry} ((0, 900) ∷ []) ((0, 900) ∷ (0, 100) ∷ []) = ap (λ (p : Plan). p.queues) plans.3 in
    cc

-- a queue of the core behind is answered
queue_of_another_core : (new : Plan) → PlansQueue 0 100 (99 ∷ []) one_queue (Ok (record { core = 1; queue = 2 })) new → ⊥
queue_of_another_core new plans = cc (plans.5)
