use Rattle.judge_audit.proofs.Names.{both_ways, false, get_or, refl, replicate, sym, true≢false}
use Rattle.judge_audit.proofs.CloseSteps.{none_there}
use Rattle.judge_audit.proofs.closes.Closes.new.Goals as goal

pub returns : goal.returns
returns c = record {
  queues = λ queue kept. refl;
  gates = λ sender kept. refl;
  queues_closed = λ queue closed. absurd (both_ways (get_or (replicate 256 false) queue false) (none_there 256 queue) closed);
  gates_shut = λ sender shut. absurd (both_ways (get_or (replicate 256 false) sender false) (none_there 256 sender) shut);
  core_open = λ kept. refl;
  core_closed = λ closed. absurd (true≢false (sym closed));
  returning = λ kept. refl;
  handing_back = λ closed. absurd (true≢false (sym closed));
}
