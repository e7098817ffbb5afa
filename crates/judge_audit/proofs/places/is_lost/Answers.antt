use Rattle.judge_audit.proofs.Names.{arith}
use Rattle.judge_audit.proofs.places.is_lost.Goals as goal

pub returns-then-actor-cores : goal.returns-then-actor-cores
returns-then-actor-cores c = record {
  kept = λ kept within. c.has_lost.ensures.kept kept;
  only = λ ended. c.has_lost.ensures.only (ended (omega (arith, c.if-actor-cores.true, c.cores.ensures.value)));
}
