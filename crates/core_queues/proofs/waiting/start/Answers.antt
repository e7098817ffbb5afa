use Rattle.core_queues.proofs.Words.{ap, arith, cond, ContainsKey-within, is_some, None, Option, refl, Some, sum_by-set, true, Updates-with_value, Waiting, ℕ}
use Rattle.core_queues.proofs.waiting.start.Goals as goal

pub returns : goal.returns
returns g c =
    let jobs = c.args.jobs.now in
    let was = c.index_mut-front.result.now in
    let marked : Waiting g.row.J.Denot = record was { started = true; woken = c.args.woken } in
    let within = ContainsKey-within jobs c.args.head c.requires in
    let one : Option (Waiting g.row.J.Denot) → ℕ = λ entry. cond (is_some entry) 1 0 in
    let full = ap one c.index_mut-front.ensures.value in (
      was,
      record {
        at = c.index_mut-front.ensures.value;
        updates = Updates-with_value jobs c.args.head marked c.requires;
        len = omega (arith, full, sum_by-set one jobs.slots c.args.head (Some marked) None within);
        capacity = refl;
      },
      refl,
    )
