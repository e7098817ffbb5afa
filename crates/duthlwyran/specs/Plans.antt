-- What is planned of a house, and what becomes of it.
use Rattle.std.specs.Prelude.{◌≡◌, ◌==◌, ◌&&◌, ℕ, ◌+◌, ◌<◌, ◌≤◌, if◌then◌else◌, ◌⊎◌, Option, Some, None, List, [], ◌∷◌, ◌++◌, Result, Ok, Err}
use Rattle.std.specs.Str.{bytes_eq}
use Rattle.base_words.specs.Limits.{most_queues}
use Rattle.base_words.specs.Charge.{InRange}
use Rattle.base_words.specs.declared.note.Note.TheVariants.{Created}
use Rattle.run_config.specs.Configs.{Entry, queues_of}
use Rattle.run_worker.specs.Queues.{creations}
use Rattle.duthlwyran.specs.declared.house.PlanError.{PlanError}
use Rattle.duthlwyran.specs.declared.house.PlanError.TheVariants.{NoCore, BadShares, TooMany, Memory}
use Rattle.duthlwyran.specs.declared.names.Queue.{Queue}

-- a queue of a core, and the bytes of its name
pub record Name : Type 0 where
  pub core : ℕ
  pub queue : ℕ
  pub text : List ℕ

-- the numbers of a house, its queues beside queue 0 of each core in their order, and the names of those
pub record Plan : Type 0 where
  pub cores : ℕ
  pub cap : ℕ
  pub burst : ℕ
  pub room : ℕ
  pub queues : List Entry
  pub names : List Name

-- nothing but the numbers is planned, and each turn is a single poll
abbrev pub fresh_plan : ℕ → ℕ → ℕ → Plan
fresh_plan cores cap room = record { cores = cores; cap = cap; burst = 1; room = room; queues = []; names = [] }

-- the name of this queue of this core: the first that is given
abbrev pub name_of : ℕ → ℕ → List Name → Option (List ℕ)
name_of core queue [] = None
name_of core queue (first ∷ rest) = if (first.core == core) && (first.queue == queue) then Some first.text else name_of core queue rest

-- the queue of this core that has this name: the first that is given
abbrev pub queue_named : ℕ → List ℕ → List Name → Option Queue
queue_named core text [] = None
queue_named core text (first ∷ rest) = if (first.core == core) && bytes_eq first.text text then Some (record { core = core; queue = first.queue }) else queue_named core text rest

-- The next queue of a core is planned, under its name. Its number is the one under which the journal of its core will tell its creation. Or it is
-- refused, for what the plan says, and nothing is planned.
abbrev pub PlansQueue : ℕ → ℕ → List ℕ → Plan → Result Queue PlanError → Plan → Type 0
PlansQueue core shares text old (Ok planned) new =
    (core < old.cores) × InRange shares × (planned.queue < most_queues)
    × (new ≡ record old { queues = old.queues ++ (core, shares) ∷ []; names = old.names ++ record { core = core; queue = planned.queue; text = text } ∷ [] })
    × (creations {T = ℕ} core new.queues ≡ Created planned.queue shares ∷ creations core old.queues)
    × (planned.core ≡ core)
PlansQueue core shares text old (Err NoCore) new = (old.cores ≤ core) × (new ≡ old)
PlansQueue core shares text old (Err BadShares) new = (core < old.cores) × ((shares ≡ 0) ⊎ (10000 < shares)) × (new ≡ old)
PlansQueue core shares text old (Err TooMany) new = (core < old.cores) × InRange shares × (most_queues ≤ queues_of core old.queues + 1) × (new ≡ old)
PlansQueue core shares text old (Err Memory) new = (core < old.cores) × InRange shares × (queues_of core old.queues + 1 < most_queues) × (new ≡ old)
