use Rattle.actor_core.proofs.KeptPicks.{right_pick}
use Rattle.actor_core.proofs.laws.picks_right.Goals as goal

pub returns : goal.returns
returns g c terms old new name queue was_started job journal kept takes =
    right_pick terms old name queue (record { started = was_started; woken = takes.was_woken }) job new.queues journal kept (record { free = takes.next.free; others = takes.others; first = takes.first; line = takes.line }) takes.next
