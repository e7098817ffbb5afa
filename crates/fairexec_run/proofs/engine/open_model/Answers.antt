use Rattle.fairexec_run.proofs.OpeningLemmas.{fresh_may_make}
use Rattle.fairexec_run.proofs.engine.open_model.Goals as goal

pub create_queues-requires-clause-may : goal.create_queues-requires-clause-may
create_queues-requires-clause-may c = fresh_may_make _ _ _ _ c.args.queues.now c.in_ok-model.model c.in_ok-model.ensures.ok c.requires.few

pub returns-clause-ok : goal.returns-clause-ok
returns-clause-ok c = record {
  empty = c.in_ok-model.model;
  fresh = c.in_ok-model.ensures.ok;
  made = c.in_ok-create_queues.ensures.ok;
  may = c.in_ok-create_queues.ensures.after;
}
