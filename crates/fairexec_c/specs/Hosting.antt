-- A core whose jobs the host runs, and what each call does to it: the core before, what is handed in, the code, and the core after.
use Rattle.std.specs.Prelude.{◌≡◌, ℕ, ◌+◌, ◌-◌, ◌^◌, ◌<◌, ◌≤◌, false, Option, Some, None, List, [], ◌∷◌}
use Rattle.base_words.specs.declared.names.JobId.{JobId}
use Rattle.base_words.specs.declared.note.Note.{Note}
use Rattle.base_words.specs.declared.order.Order.{Order}
use Rattle.base_words.specs.declared.order.Reason.TheVariants as why
use Rattle.base_words.specs.Limits.{most_queues}
use Rattle.core_core.specs.declared.delivery.Delivered.{Delivered}
use Rattle.core_core.specs.State.{CoreView, delivered_of, inside_count}
use Rattle.core_core.specs.Deliveries.{Delivers, Enters, CountsAlone}
use Rattle.core_core.specs.Closing.{refusal}
use Rattle.host_calls.specs.declared.code.Code.{Code}
use Rattle.host_calls.specs.declared.code.Code.TheVariants as code
use Rattle.host_core.specs.declared.job.HostJob.{HostJob}
use Rattle.host_core.specs.declared.turns.Run.{Run}
use Rattle.host_core.specs.Hosted.{IsRunOf}

-- the host is the only sender, each order that it handed in was delivered, and each run is a turn of its own
pub record IsHosted (core : CoreView HostJob) (sent room : ℕ) (run : Option Run) : Type 0 where
  pub cores : core.cores ≡ 1
  pub delivered : core.delivered ≡ 0 ∷ sent ∷ []
  pub roomy : core.queues.room ≡ room
  pub runs : IsRunOf core.out run
  pub single : core.bursts ≡ record { burst = 1; «open» = None }

-- the name of the next order of the host
abbrev pub next_name : CoreView HostJob → JobId
next_name old = record { from = 1; to = 0; number = delivered_of 1 old + 1 }

-- an order of the host may come in: there is room, and a number is left
pub record TakesOrders (old : CoreView HostJob) : Type 0 where
  pub room : inside_count old < old.queues.room
  pub numbers : delivered_of 1 old < 2 ^ 64 - 1

-- a refused order is counted, and nothing else changes; one for a queue that no core can have isn't even counted
abbrev pub RefusesOrder : CoreView HostJob → ℕ → CoreView HostJob → Type 0
RefusesOrder old queue new = (queue < most_queues → CountsAlone old (next_name old) new) × (most_queues ≤ queue → new ≡ old)

-- an order of the host is delivered
abbrev pub HandsIn : CoreView HostJob → Order HostJob → Delivered HostJob → CoreView HostJob → Type 0
HandsIn old order delivered new = (written : List (Note ℕ)) × Delivers old (next_name old) order delivered new written

-- a job enters its queue, if the core is open, has room and a number left, and the queue is there and open; a refusal is the first of these
abbrev pub Submits : CoreView HostJob → ℕ → ℕ → Code → CoreView HostJob → Type 0
Submits old queue handle code.Ok new =
    (old.mode ≡ None) × TakesOrders old × (refusal queue old ≡ None) × Enters old (next_name old) queue (record { handle = handle; ended = false }) new
Submits old queue handle code.CoreClosed new = (old.mode ≡ None → ⊥) × (new ≡ old)
Submits old queue handle code.Full new = (old.mode ≡ None) × (old.queues.room ≤ inside_count old) × (new ≡ old)
Submits old queue handle code.Spent new =
    (old.mode ≡ None) × (inside_count old < old.queues.room) × (delivered_of 1 old ≡ 2 ^ 64 - 1) × (new ≡ old)
Submits old queue handle code.NoQueue new =
    (old.mode ≡ None) × TakesOrders old × (queue < most_queues → refusal queue old ≡ Some why.NoQueue) × RefusesOrder old queue new
Submits old queue handle code.QueueClosed new =
    (old.mode ≡ None) × TakesOrders old × (refusal queue old ≡ Some why.QueueClosed) × CountsAlone old (next_name old) new
Submits old queue handle other new = ⊥
