use Rattle.std.proofs.Common.{◌+◌, replicate, arith}
use Rattle.std.proofs.lemmas.List.{get_or-replicate}
use Rattle.judge_audit.specs.Winners.{last_key, no_key}
use Rattle.judge_audit.proofs.Winners.{all_even}
use Rattle.judge_audit.proofs.least.Least.new.Goals as goal

pub returns-clause-tree : goal.returns-clause-tree
returns-clause-tree c = all_even last_key (record { nodes = replicate 512 last_key }) (λ node within. get_or-replicate 512 node last_key no_key within)

pub returns-clause-last : goal.returns-clause-last
returns-clause-last c = λ queue few. get_or-replicate 512 (256 + queue) last_key no_key (omega arith)
