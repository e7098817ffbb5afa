use Rattle.core_queues.proofs.Words.{ap, arith, cond, ContainsKey-within, is_some, None, Option, refl, Some, sum_by-set, Updates-with_value, Waiting, ℕ}
use Rattle.core_queues.proofs.waiting.link.Goals as goal

pub returns : goal.returns
returns g c =
    let jobs = c.args.jobs.now in
    let was = c.index_mut.result.now in
    let linked : Waiting g.row.J.Denot = record was { next = c.args.next } in
    let within = ContainsKey-within jobs c.args.tail c.requires in
    let one : Option (Waiting g.row.J.Denot) → ℕ = λ entry. cond (is_some entry) 1 0 in
    let full = ap one c.index_mut.ensures.value in
    record {
      was = was;
      at = c.index_mut.ensures.value;
      updates = Updates-with_value jobs c.args.tail linked c.requires;
      len = omega (arith, full, sum_by-set one jobs.slots c.args.tail (Some linked) None within);
      capacity = refl;
    }
