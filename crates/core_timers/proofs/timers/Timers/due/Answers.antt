use Rattle.std.proofs.Common.{◌<◌, subst, arith}
use Rattle.core_timers.specs.Timers.{Timers, IsAfter}
use Rattle.core_timers.specs.Tables.{table, timers_of}
use Rattle.core_timers.proofs.Stands.{IsVacant-none}
use Rattle.core_timers.proofs.Firsts.{first_within, IsDue-read, IsFrom-read, IsAfter-first, IsAfter-none}
use Rattle.core_timers.proofs.timers.Timers.due.Goals as goal

pub returns-then-self-eq0-clause-none : goal.returns-then-self-eq0-clause-none
returns-then-self-eq0-clause-none g c =
    let i = c.self.inside in
    let t = table i.heap.items i.rows.items in
    subst (λ (v : Timers). IsAfter c.args.now v) c.self.view_is (IsAfter-none (timers_of i.count t) c.args.now (IsVacant-none i.count t c.if-self-eq0.true))

pub returns-then-now-first-clause-none : goal.returns-then-now-first-clause-none
returns-then-now-first-clause-none g c =
    let i = c.self.inside in
    let t = table i.heap.items i.rows.items in
    let some : 0 < i.count = omega (arith, c.if-self-eq0.false) in
    let from = IsFrom-read t i.names i.count c.self.invariant some c.index-first.result.now c.index-first.ensures in
    subst (λ (v : Timers). IsAfter c.args.now v) c.self.view_is (IsAfter-first (timers_of i.count t) c.args.now c.index-first.result.now.time c.if-now-first.true from)

pub index-requires : goal.index-requires
index-requires g c =
    let i = c.self.inside in
    let some : 0 < i.count = omega (arith, c.if-self-eq0.false) in
    first_within (table i.heap.items i.rows.items) i.names i.count c.self.invariant some c.index-first.result.now c.index-first.ensures

pub returns-clause-due : goal.returns-clause-due
returns-clause-due g c =
    let i = c.self.inside in
    let some : 0 < i.count = omega (arith, c.if-self-eq0.false) in
    IsDue-read (table i.heap.items i.rows.items) i.names i.count c.self.invariant some c.index-first.result.now c.index-first.ensures c.index.result.now c.index.ensures c.args.now c.args.self.now c.if-now-first.false c.self.view_is
