use Rattle.std.proofs.Common.{subst, arith}
use Rattle.core_timers.specs.Timers.{Timers, LacksName}
use Rattle.core_timers.specs.Tables.{table, timers_of}
use Rattle.core_timers.proofs.Named.{LacksName-called}
use Rattle.core_timers.proofs.Found.{stands, AreKept-less, Forgets-less, LacksName-less}
use Rattle.core_timers.proofs.timers.Timers.forget.Goals as goal

pub returns-in-None-clause-none : goal.returns-in-None-clause-none
returns-in-None-clause-none g c =
    let i = c.self.inside in
    let t = table i.heap.items i.rows.items in
    subst (λ (v : Timers). LacksName v c.args.name.now) c.self.view_is (LacksName-called (timers_of i.count t) i.names c.args.name.now c.self.invariant.known c.in-None.ensures.none)

pub returns-in-None-clause-lacks : goal.returns-in-None-clause-lacks
returns-in-None-clause-lacks g c = returns-in-None-clause-none g c

pub overflow_sub-self : goal.overflow_sub-self
overflow_sub-self g c =
    let i = c.self.inside in
    let stand = stands (table i.heap.items i.rows.items) i.names i.count c.in-Some.key c.args.name.now c.self.invariant c.in-Some.ensures.found in
    omega (arith, stand.set_there)

pub take_out-requires-clause-set : goal.take_out-requires-clause-set
take_out-requires-clause-set g c =
    let i = c.self.inside in
    let stand = stands (table i.heap.items i.rows.items) i.names i.count c.in-Some.key c.args.name.now c.self.invariant c.in-Some.ensures.found in
    omega (arith, stand.set_there)

pub invariant_of-self : goal.invariant_of-self
invariant_of-self g c =
    let i = c.self.inside in
    let new = table c.take_out.new.heap.items c.take_out.new.rows.items in
    AreKept-less (table i.heap.items i.rows.items) i.names i.count c.in-Some.key c.args.name.now c.self.invariant c.in-Some.ensures.found new c.take_out.ensures.placed c.take_out.ensures.order c.take_out.ensures.gone c.remove.new.self c.remove.ensures

pub returns-in-Some-clause-forgot : goal.returns-in-Some-clause-forgot
returns-in-Some-clause-forgot g c =
    let i = c.self.inside in
    let new = table c.take_out.new.heap.items c.take_out.new.rows.items in
    Forgets-less (table i.heap.items i.rows.items) i.names i.count c.in-Some.key c.args.name.now c.self.invariant c.in-Some.ensures.found new c.take_out.ensures.placed c.take_out.ensures.order c.take_out.ensures.gone c.args.self.now c.self.view_is

pub returns-in-Some-clause-lacks : goal.returns-in-Some-clause-lacks
returns-in-Some-clause-lacks g c =
    let i = c.self.inside in
    let new = table c.take_out.new.heap.items c.take_out.new.rows.items in
    LacksName-less (table i.heap.items i.rows.items) i.names i.count c.in-Some.key c.args.name.now c.self.invariant c.in-Some.ensures.found new c.take_out.ensures.placed c.take_out.ensures.order c.take_out.ensures.gone
