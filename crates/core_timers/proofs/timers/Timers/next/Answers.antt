use Rattle.std.proofs.Common.{◌≡◌, subst, arith}
use Rattle.core_timers.specs.Timers.{Timers, IsVacant}
use Rattle.core_timers.specs.Tables.{table}
use Rattle.core_timers.proofs.Stands.{IsVacant-none}
use Rattle.core_timers.proofs.Firsts.{IsNext-read}
use Rattle.core_timers.proofs.timers.Timers.next.Goals as goal

pub returns-then-self-gt0 : goal.returns-then-self-gt0
returns-then-self-gt0 g c =
    let i = c.self.inside in
    IsNext-read (table i.heap.items i.rows.items) i.names i.count c.self.invariant c.if-self-gt0.true c.index.result.now c.index.ensures c.args.self.now c.self.view_is

pub returns : goal.returns
returns g c =
    let i = c.self.inside in
    let none : i.count ≡ 0 = omega (arith, c.if-self-gt0.false) in
    subst (λ (v : Timers). IsVacant v) c.self.view_is (IsVacant-none i.count (table i.heap.items i.rows.items) none)
