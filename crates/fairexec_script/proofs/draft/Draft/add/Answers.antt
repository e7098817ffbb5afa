use Rattle.std.proofs.Common.{rules}
use Rattle.fairexec_script.proofs.LimitLemmas.{counted_more, counted_event}
use Rattle.fairexec_script.specs.Limits.{IsEventFor}
use Rattle.fairexec_script.proofs.draft.Draft.add.Goals as goal

pub invariant_of-self-in-Queue : goal.invariant_of-self-in-Queue
invariant_of-self-in-Queue c =
    rw c.in_ok-push-in-Queue.ensures.items
    (counted_more (record { size = c.self.inside.size; burst = c.self.inside.burst; queues = c.self.inside.queues.items; events = c.self.inside.events.items }) (c.in-Queue.core, c.in-Queue.shares) _ _ c.self.invariant (search rules) (search rules) c.add.ensures)

pub invariant_of-self-in-Continue-branch-2 : goal.invariant_of-self-in-Continue-branch-2
invariant_of-self-in-Continue-branch-2 c =
    let here : IsEventFor c.self.inside.size c.in-Step.event = rw (← c.self.view_is, c.in-Step.is) at c.requires in
    rw c.in_ok-push-in-Step.ensures.items
    (counted_event (record { size = c.self.inside.size; burst = c.self.inside.burst; queues = c.self.inside.queues.items; events = c.self.inside.events.items }) c.in-Step.event _ c.self.invariant here)
