use Rattle.std.proofs.Common.{eq-eqb, subst, sym}
use Rattle.std.proofs.lemmas.Bool.{eqb-true}
use Rattle.core_timers.specs.Timers.{Timers, IsVacant}
use Rattle.core_timers.specs.Tables.{table}
use Rattle.core_timers.proofs.Stands.{IsVacant-none, none-IsVacant}
use Rattle.core_timers.proofs.timers.Timers.is_empty.Goals as goal

pub returns : goal.returns
returns g c =
    let i = c.self.inside in
    let t = table i.heap.items i.rows.items in (
      λ none. subst (λ (v : Timers). IsVacant v) c.self.view_is (IsVacant-none i.count t (eqb-true i.count 0 none)),
      λ vacant. eq-eqb i.count 0 (none-IsVacant i.count t c.self.invariant.placed c.self.invariant.within (subst (λ (v : Timers). IsVacant v) (sym c.self.view_is) vacant)),
    )
