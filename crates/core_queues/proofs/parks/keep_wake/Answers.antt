use Rattle.core_queues.proofs.Words.{ap, arith, cond, ContainsKey-within, is_some, None, Option, refl, Some, sum_by-set, true, Updates-with_value, Waiting, ℕ}
use Rattle.core_queues.proofs.parks.keep_wake.Goals as goal

pub returns : goal.returns
returns g c =
    let jobs = c.args.jobs.now in
    let was = c.index_mut.result.now in
    let marked : Waiting g.row.J.Denot = record was { woken = true } in
    let within = ContainsKey-within jobs c.args.key c.requires in
    let one : Option (Waiting g.row.J.Denot) → ℕ = λ entry. cond (is_some entry) 1 0 in
    let full = ap one c.index_mut.ensures.value in
    record {
      waiting = was;
      at = c.index_mut.ensures.value;
      updates = Updates-with_value jobs c.args.key marked c.requires;
      len = omega (arith, full, sum_by-set one jobs.slots c.args.key (Some marked) None within);
      capacity = refl;
    }
