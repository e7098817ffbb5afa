use Rattle.run_worker.proofs.Names.{ap, IsVacant, refl, subst, sym, ◌∙◌}
use Rattle.run_worker.proofs.worker.Worker.of.Goals as goal

pub returns-clause-begins : goal.returns-clause-begins
returns-clause-begins g c = record {
  ending = ap (λ served. served.ending) c.of.ensures.served ∙ c.requires.ending;
  timers = subst IsVacant (sym c.of.ensures.timers) c.requires.vacant;
  last = ap (λ watch. watch.last) c.of.ensures.watch;
  taken = ap (λ watch. watch.taken) c.of.ensures.watch;
  turns = c.of.ensures.turns;
  idle = refl;
}
