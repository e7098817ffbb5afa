use Rattle.std.proofs.Common.{◌≡◌, ◌<◌, length, subst, ◌∙◌, arith}
use Rattle.core_timers.specs.Timers.{Timers, LacksName, IsFull}
use Rattle.core_timers.specs.Tables.{table, timers_of}
use Rattle.core_timers.proofs.Stands.{IsFull-all}
use Rattle.core_timers.proofs.Named.{LacksName-called}
use Rattle.core_timers.proofs.Found.{set_there, IsPlaced-again, IsOrderedBut-again, AreKept-again, Sets-again}
use Rattle.core_timers.proofs.Comes.{vacant, IsPlaced-more, IsOrderedBut-more, AreKept-more, Sets-more}
use Rattle.core_timers.proofs.timers.Timers.set.Goals as goal

-- the name has a timer

pub settle-requires-clause-within : goal.settle-requires-clause-within
settle-requires-clause-within g c =
    let i = c.self.inside in
    set_there (table i.heap.items i.rows.items) i.names i.count c.in-Some.key c.args.name.now c.self.invariant c.in-Some.ensures.found c.index.result.now c.index.ensures c.args.time

pub settle-requires-clause-placed : goal.settle-requires-clause-placed
settle-requires-clause-placed g c =
    let i = c.self.inside in
    IsPlaced-again (table i.heap.items i.rows.items) i.names i.count c.in-Some.key c.args.name.now c.self.invariant c.in-Some.ensures.found c.index.result.now c.index.ensures c.args.time

pub settle-requires-clause-order : goal.settle-requires-clause-order
settle-requires-clause-order g c =
    let i = c.self.inside in
    IsOrderedBut-again (table i.heap.items i.rows.items) i.names i.count c.in-Some.key c.args.name.now c.self.invariant c.in-Some.ensures.found c.index.result.now c.index.ensures c.args.time

pub invariant_of-self : goal.invariant_of-self
invariant_of-self g c =
    let i = c.self.inside in
    let new = table c.settle.new.heap.items c.settle.new.rows.items in
    AreKept-again (table i.heap.items i.rows.items) i.names i.count c.in-Some.key c.args.name.now c.self.invariant c.in-Some.ensures.found c.index.result.now c.index.ensures c.args.time new c.settle.ensures

pub returns-in-Some-clause-set : goal.returns-in-Some-clause-set
returns-in-Some-clause-set g c =
    let i = c.self.inside in
    let new = table c.settle.new.heap.items c.settle.new.rows.items in
    Sets-again (table i.heap.items i.rows.items) i.names i.count c.in-Some.key c.args.name.now c.self.invariant c.in-Some.ensures.found c.index.result.now c.index.ensures c.args.time new c.settle.ensures c.args.self.now c.self.view_is

-- it has none, and all places are taken

pub returns-then-last-len-clause-full : goal.returns-then-last-len-clause-full
returns-then-last-len-clause-full g c =
    let i = c.self.inside in
    let t = table i.heap.items i.rows.items in
    let all : i.count ≡ length t.heap = c.if-last-len.true ∙ c.len.ensures in
    record {
      full = subst (λ (v : Timers). IsFull v) c.self.view_is (IsFull-all i.count t c.self.invariant.placed all);
      lacks = subst (λ (v : Timers). LacksName v c.args.name.now) c.self.view_is (LacksName-called (timers_of i.count t) i.names c.args.name.now c.self.invariant.known c.in_default.ensures.none);
      same = λ i. c.args.self.now;
    }

-- it has none, and gets the next free key

pub insert-requires-clause-vacant : goal.insert-requires-clause-vacant
insert-requires-clause-vacant g c =
    let i = c.self.inside in
    let room : i.count < length i.heap.items = omega (arith, c.self.invariant.within, c.len.ensures, c.if-last-len.false) in
    vacant (table i.heap.items i.rows.items) i.names i.count c.args.name.now c.args.time c.self.invariant c.in_default.ensures.none room c.index-2.result.now c.index-2.ensures

pub rise-requires-clause-placed : goal.rise-requires-clause-placed
rise-requires-clause-placed g c =
    let i = c.self.inside in
    let room : i.count < length i.heap.items = omega (arith, c.self.invariant.within, c.len.ensures, c.if-last-len.false) in
    IsPlaced-more (table i.heap.items i.rows.items) i.names i.count c.args.name.now c.args.time c.self.invariant c.in_default.ensures.none room c.index-2.result.now c.index-2.ensures c.index_mut.result.now c.index_mut.ensures.value

pub rise-requires-clause-order : goal.rise-requires-clause-order
rise-requires-clause-order g c =
    let i = c.self.inside in
    let room : i.count < length i.heap.items = omega (arith, c.self.invariant.within, c.len.ensures, c.if-last-len.false) in
    IsOrderedBut-more (table i.heap.items i.rows.items) i.names i.count c.args.name.now c.args.time c.self.invariant c.in_default.ensures.none room c.index-2.result.now c.index-2.ensures c.index_mut.result.now c.index_mut.ensures.value

pub invariant_of-self-2 : goal.invariant_of-self-2
invariant_of-self-2 g c =
    let i = c.self.inside in
    let new = table c.rise.new.heap.items c.rise.new.rows.items in
    let room : i.count < length i.heap.items = omega (arith, c.self.invariant.within, c.len.ensures, c.if-last-len.false) in
    AreKept-more (table i.heap.items i.rows.items) i.names i.count c.args.name.now c.args.time c.self.invariant c.in_default.ensures.none room c.index-2.result.now c.index-2.ensures c.index_mut.result.now c.index_mut.ensures.value new c.rise.ensures c.insert.new.self c.insert.ensures

pub returns-clause-set : goal.returns-clause-set
returns-clause-set g c =
    let i = c.self.inside in
    let new = table c.rise.new.heap.items c.rise.new.rows.items in
    let room : i.count < length i.heap.items = omega (arith, c.self.invariant.within, c.len.ensures, c.if-last-len.false) in
    Sets-more (table i.heap.items i.rows.items) i.names i.count c.args.name.now c.args.time c.self.invariant c.in_default.ensures.none room c.index-2.result.now c.index-2.ensures c.index_mut.result.now c.index_mut.ensures.value new c.rise.ensures c.args.self.now c.self.view_is
