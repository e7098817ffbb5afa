use Rattle.std.proofs.Common.{◌+◌, ◌<◌, length, sym, subst, arith}
use Rattle.std.proofs.lemmas.List.{get_or_default}
use Rattle.base_words.specs.declared.names.Key.{Key}
use Rattle.judge_audit.specs.Winners.{AtMost, IsAmong, key_of, no_key}
use Rattle.judge_audit.proofs.Winners.{top_wins, among_queues}
use Rattle.judge_audit.proofs.least.Least.least.Goals as goal

pub returns-clause-least : goal.returns-clause-least
returns-clause-least c =
    λ tree queue few.
    let within : 1 < length c.args.self.now.nodes = omega arith in
    subst (λ (key : Key). AtMost key (key_of c.args.self.now queue))
    (sym (get_or_default c.args.self.now.nodes 1 c.index-self-1.result no_key within))
    (top_wins c.args.self.now tree (256 + queue) (256 + queue) (omega arith) (omega arith) (omega arith))

pub returns-clause-among : goal.returns-clause-among
returns-clause-among c =
    λ tree.
    let within : 1 < length c.args.self.now.nodes = omega arith in
    subst (λ (key : Key). IsAmong c.args.self.now key) (sym (get_or_default c.args.self.now.nodes 1 c.index-self-1.result no_key within))
    (among_queues c.args.self.now tree 511 1 (omega arith) (omega arith) (omega arith))
