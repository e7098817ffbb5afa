use Rattle.std.proofs.Common.{◌≡◌, ◌≤◌, ◌+◌, ◌++◌, length, map, vec_capacity}
use Rattle.std.specs.Vec.Iter.{into_iter_items, into_iter_len}
use Rattle.run_runtime.proofs.starting.deal.Given as goal

abbrev pub invariant-loop-ends : goal.invariant-loop-ends
invariant-loop-ends g l = record {
  reserved : length l.seats.items + into_iter_len l.ends-iterator ≤ vec_capacity l.seats;
  ends : map (λ seat. seat.ends) l.seats.items ++ into_iter_items l.ends-iterator ≡ l.fn.all.items;
  clocks : map (λ seat. seat.clock) l.seats.items ++ l.clocks.items ≡ l.fn.clocks.items;
  gates : map (λ seat. seat.gate) l.seats.items ++ l.gates.items ≡ l.fn.gates.items;
  sinks : map (λ seat. seat.sink) l.seats.items ++ l.sinks.items ≡ l.fn.sinks.items;
  locals : map (λ seat. seat.local) l.seats.items ++ l.locals.items ≡ l.fn.locals.items;
  some_clocks : length l.clocks.items ≡ into_iter_len l.ends-iterator;
  some_gates : length l.gates.items ≡ into_iter_len l.ends-iterator;
  some_sinks : length l.sinks.items ≡ into_iter_len l.ends-iterator;
  some_locals : length l.locals.items ≡ into_iter_len l.ends-iterator;
}
