-- The parts of small journals that each have one thing wrong: one core, number 0, and the outside actor, number 1.
use Rattle.std.specs.Prelude.{ℕ, [], ◌∷◌}
use Rattle.base_words.specs.declared.names.JobId.{JobId}
use Rattle.base_words.specs.declared.note.Note.TheVariants.{Sent, Took, Created, Pick, Start, Resume, Yield, Done}
use Rattle.base_words.specs.declared.order.Order.TheVariants.{Job, Create}
use Rattle.base_words.specs.Assembly.{Assembly}
use Rattle.base_words.specs.Journal.{Journal}
use Rattle.base_words.specs.Terms.{Terms}

-- the submission of this number from the outside actor to the core
abbrev pub submission : ℕ → JobId
submission number = record { from = 1; to = 0; number = number }

-- the journals of the core and of the outside actor, whose links hold four
abbrev pub with_journals : Journal ℕ → Journal ℕ → Assembly ℕ
with_journals core outside = record { cores = 1; cap = 4; burst = 1; journals = core ∷ outside ∷ [] }

-- the terms of the core
abbrev pub core_terms : Terms
core_terms = record { actor = 0; cores = 1; cap = 4; burst = 1 }

-- the terms of the outside actor
abbrev pub outside_terms : Terms
outside_terms = record { actor = 1; cores = 1; cap = 4; burst = 1 }

-- the outside actor sent one job for queue 0
abbrev pub one_job : Journal ℕ
one_job = Sent (submission 1) (Job 0 tt) ∷ []

-- it sent a second one
abbrev pub two_jobs : Journal ℕ
two_jobs = Sent (submission 2) (Job 0 tt) ∷ one_job

-- it sent a job for queue 0 and one for queue 1
abbrev pub job_for_each : Journal ℕ
job_for_each = Sent (submission 2) (Job 1 tt) ∷ one_job

-- it sent a command
abbrev pub one_command : Journal ℕ
one_command = Sent (submission 1) (Create 500) ∷ []

-- both jobs entered queue 0
abbrev pub both_taken : Journal ℕ
both_taken = Took (submission 2) 0 ∷ Took (submission 1) 0 ∷ []

-- the first job entered queue 0 and is polled
abbrev pub polled : Journal ℕ
polled = Start (submission 1) ∷ Pick 0 0 ∷ Took (submission 1) 0 ∷ []

-- its poll took 10 ns, and it wants another one
abbrev pub yielded : Journal ℕ
yielded = Yield (submission 1) 10 ∷ polled

-- its poll took 10 ns, and it is done with the answer 7
abbrev pub done : Journal ℕ
done = Done (submission 1) 10 7 ∷ polled

-- beside a queue 1 the job of queue 0 yields at 10 and again at 20, and then a job enters queue 1, which so stands at the floor: 10
abbrev pub second_queue_joins : Journal ℕ
second_queue_joins =
    Took (submission 2) 1 ∷ Yield (submission 1) 10 ∷ Resume (submission 1) ∷ Pick 0 10 ∷ Yield (submission 1) 10 ∷ Start (submission 1) ∷ Pick 0 0 ∷
    Took (submission 1) 0 ∷ Created 1 1000 ∷ []
