-- What the calls on queues and their closing do: the core before, what is handed in, the code, and the core after.
use Rattle.std.specs.Prelude.{◌≡◌, ◌⊎◌, ◌==◌, ℕ, ◌-◌, ◌^◌, ◌<◌, ◌≤◌, true, false, Option, Some, None}
use Rattle.base_words.specs.declared.order.Mode.{Mode}
use Rattle.base_words.specs.Limits.{most_queues}
use Rattle.base_words.specs.Closing.{closes}
use Rattle.base_words.specs.Parks.{is_return}
use Rattle.core_queues.specs.Queues.{queue_count, mode_of}
use Rattle.core_core.specs.State.{CoreView, delivered_of, inside_count}
use Rattle.core_core.specs.Deliveries.{Creates, Weighs, counted}
use Rattle.core_core.specs.Closing.{HasClosed, EndsParksIf}
use Rattle.host_calls.specs.declared.code.Code.{Code}
use Rattle.host_calls.specs.declared.code.Code.TheVariants as code
use Rattle.host_core.specs.declared.job.HostJob.{HostJob}
use Rattle.host_calls.specs.Orders.{AreShares}
use Rattle.fairexec_c.specs.Hosting.{TakesOrders, RefusesOrder, next_name}

-- a queue is made under the next number, which is told; a refusal is the first of these, and then nothing is told, and nothing changes
abbrev pub MakesQueue : CoreView HostJob → ℕ → ℕ → Code → ℕ → CoreView HostJob → Type 0
MakesQueue old shares before code.Ok after new = Creates old shares new × (new.delivered ≡ old.delivered) × (after ≡ queue_count old.queues)
MakesQueue old shares before code.BadShares after new = ((shares ≡ 0) ⊎ (10000 < shares)) × (new ≡ old) × (after ≡ before)
MakesQueue old shares before code.CoreClosed after new = AreShares shares × (old.mode ≡ None → ⊥) × (new ≡ old) × (after ≡ before)
MakesQueue old shares before code.TooMany after new =
    AreShares shares × (old.mode ≡ None) × (queue_count old.queues ≡ most_queues) × (new ≡ old) × (after ≡ before)
MakesQueue old shares before code.NoMemory after new =
    AreShares shares × (old.mode ≡ None) × (queue_count old.queues < most_queues) × (new ≡ old) × (after ≡ before)
MakesQueue old shares before other after new = ⊥

-- a queue gets shares; a core that is full takes no order; a refusal is the first of these
abbrev pub Reweighs : CoreView HostJob → ℕ → ℕ → Code → CoreView HostJob → Type 0
Reweighs old queue shares code.Ok new = TakesOrders old × Weighs old queue shares new × (new.delivered ≡ counted (next_name old) old)
Reweighs old queue shares code.BadShares new = ((shares ≡ 0) ⊎ (10000 < shares)) × (new ≡ old)
Reweighs old queue shares code.Full new = AreShares shares × (old.queues.room ≤ inside_count old) × (new ≡ old)
Reweighs old queue shares code.Spent new =
    AreShares shares × (inside_count old < old.queues.room) × (delivered_of 1 old ≡ 2 ^ 64 - 1) × (new ≡ old)
Reweighs old queue shares code.NoQueue new =
    AreShares shares × TakesOrders old × (queue < most_queues → queue_count old.queues ≤ queue) × RefusesOrder old queue new
Reweighs old queue shares other new = ⊥

-- a queue is closed, unless it was so before; if it hands back, the parks of its jobs end
abbrev pub ClosesLine : CoreView HostJob → ℕ → Option Mode → Code → CoreView HostJob → Type 0
ClosesLine old queue None code.BadNumber new = new ≡ old
ClosesLine old queue (Some mode) code.Ok new =
    (closes (mode_of queue old.queues) mode ≡ true)
    × ((closed : CoreView HostJob) × HasClosed old queue mode closed × EndsParksIf (is_return mode) closed (λ other. queue == other) new)
ClosesLine old queue (Some mode) code.NoQueue new = (queue < most_queues → queue_count old.queues ≤ queue) × (new ≡ old)
ClosesLine old queue (Some mode) code.QueueClosed new =
    (queue < queue_count old.queues) × (closes (mode_of queue old.queues) mode ≡ false) × (new ≡ old)
ClosesLine old queue mode other new = ⊥

-- the core is closed, unless it was so before; if it hands back, all parks end
abbrev pub ClosesAll : CoreView HostJob → Option Mode → Code → CoreView HostJob → Type 0
ClosesAll old None code.BadNumber new = new ≡ old
ClosesAll old (Some mode) code.Ok new =
    (closes old.mode mode ≡ true) × EndsParksIf (is_return mode) (record old { mode = Some mode }) (λ queue. true) new
ClosesAll old (Some mode) code.CoreClosed new = (closes old.mode mode ≡ false) × (new ≡ old)
ClosesAll old mode other new = ⊥
