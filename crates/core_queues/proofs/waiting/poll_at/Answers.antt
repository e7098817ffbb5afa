use Rattle.core_queues.proofs.Words.{ap, arith, cond, ContainsKey-within, is_some, None, Option, refl, Some, subst, sum_by-set, sym, Updates-with_value, Waiting, ℕ}
use Rattle.core_queues.proofs.waiting.poll_at.Goals as goal

pub returns-clause-polls : goal.returns-clause-polls
returns-clause-polls g c =
    let jobs = c.args.jobs.now in
    let was = c.index_mut-front.result.now in
    let polled = c.poll-step.ensures in
    let renewed : Waiting g.row.J.Denot = record was { job = c.poll-step.new.self } in
    let within = ContainsKey-within jobs c.args.key c.requires.there in
    let one : Option (Waiting g.row.J.Denot) → ℕ = λ entry. cond (is_some entry) 1 0 in
    let full = ap one c.index_mut-front.ensures.value in (
      polled.owed.calls,
      polled.owed.makes,
      record {
        front = was;
        job = c.poll-step.new.self;
        renews = record {
          at = c.index_mut-front.ensures.value;
          updates = Updates-with_value jobs c.args.key renewed c.requires.there;
          len = omega (arith, full, sum_by-set one jobs.slots c.args.key (Some renewed) None within);
          capacity = refl;
        };
        polled = record {
          owed = subst (λ told. g.J.Task.meaning.polls was.job (g.J.Task.meaning.made was.job) polled.owed.calls c.poll-step.result told) (sym c.told-told.ensures) polled.owed.owed;
          answered = polled.answers;
          task = polled.same;
          later = polled.later;
          ready = polled.ready;
          ended = polled.done;
        };
      },
    )

pub returns-clause-tells : goal.returns-clause-tells
returns-clause-tells g c = c.start.ensures c.spent-spent.result c.spent-spent.new.self c.spent-spent.ensures
