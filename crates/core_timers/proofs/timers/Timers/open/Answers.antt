use Rattle.core_timers.specs.Tables.{table}
use Rattle.core_timers.proofs.Opened.{timers_of-opened, AreKept-opened}
use Rattle.core_timers.proofs.timers.Timers.open.Goals as goal

pub invariant_of-result : goal.invariant_of-result
invariant_of-result g c =
    AreKept-opened (table c.in_ok-heap.heap.items c.in_ok-rows.rows.items) c.in_ok-names.names c.args.places c.in_ok-heap.ensures.long c.in_ok-rows.ensures.long c.requires c.in_ok-heap.ensures.keys c.in_ok-rows.ensures.places c.in_ok-names.ensures

pub returns : goal.returns
returns g c = timers_of-opened (table c.in_ok-heap.heap.items c.in_ok-rows.rows.items) c.args.places c.in_ok-rows.ensures.long
