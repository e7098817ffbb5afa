-- Small journals that are none of a worker with these queues.
use Rattle.run_worker.proofs.Names.{creations, Entry, JobId, Journal, List, opening_of, ℕ, [], ◌∷◌, ◌≡◌}
use Rattle.base_words.specs.declared.note.Note.TheVariants.{Created, Answered}
use Rattle.base_words.specs.declared.order.Answer.TheVariants as answers

-- two queues of core 0, and one of core 1 between them
abbrev some_queues : List Entry
some_queues = (0, 900) ∷ (1, 100) ∷ (0, 50) ∷ []

-- the creations of the worker of core 0
abbrev wanted : Journal ℕ
wanted = Created 2 50 ∷ Created 1 900 ∷ []

-- no worker of core 0 has this journal
abbrev IsRefused : Journal ℕ → Type 0
IsRefused notes = opening_of notes ≡ creations 0 some_queues → ⊥

-- no queue is made
none_made : IsRefused []
none_made = λ (is : [] ≡ wanted). cc

-- half of the queues are made
half_made : IsRefused (Created 1 900 ∷ [])
half_made = λ (is : Created 1 900 ∷ [] ≡ wanted). cc

-- each queue has the shares of the first
first_shares : IsRefused (Created 2 900 ∷ Created 1 900 ∷ [])
first_shares = λ (is : Created 2 900 ∷ Created 1 900 ∷ [] ≡ wanted). cc

-- the queues of the other cores are made
others_made : IsRefused (Created 1 100 ∷ [])
others_made = λ (is : Created 1 100 ∷ [] ≡ wanted). cc

-- the queues are made in another order
order_turned : IsRefused (Created 2 900 ∷ Created 1 50 ∷ [])
order_turned = λ (is : Created 2 900 ∷ Created 1 50 ∷ [] ≡ wanted). cc

-- one queue more is made
more_made : IsRefused (Created 3 50 ∷ Created 2 50 ∷ Created 1 900 ∷ [])
more_made = λ (is : Created 3 50 ∷ Created 2 50 ∷ Created 1 900 ∷ [] ≡ wanted). cc

-- the second queue is made by a command of the outside actor
by_command : (name : JobId) → IsRefused (Created 2 50 ∷ Answered name (answers.Created 2) ∷ Created 1 900 ∷ [])
by_command name = λ (is : Created 1 900 ∷ [] ≡ wanted). cc
