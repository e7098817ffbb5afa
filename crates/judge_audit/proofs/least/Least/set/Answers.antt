use Rattle.std.proofs.Common.{◌<◌, length, arith, get_or-set_same, get_or-set_other}
use Rattle.judge_audit.specs.Winners.{no_key}
use Rattle.judge_audit.proofs.Winners.{at_leaf, one_up, whole_tree}
use Rattle.judge_audit.proofs.least.Least.set.Goals as goal

pub loop-node-init : goal.loop-node-init
loop-node-init c =
    let within : c.place_of-node.result < length c.args.self.now.nodes = omega arith in
    at_leaf c.args.self.now _ c.args.queue (record { vr = c.args.vr; queue = c.args.queue }) c.place_of-node.result c.requires
    c.place_of-node.ensures.value c.place_of-node.ensures.few
    (get_or-set_same c.args.self.now.nodes c.place_of-node.result (record { vr = c.args.vr; queue = c.args.queue }) no_key within)
    (
    λ other apart.
    get_or-set_other c.args.self.now.nodes c.place_of-node.result other (record { vr = c.args.vr; queue = c.args.queue }) no_key apart
    )

pub loop-node-preserved : goal.loop-node-preserved
loop-node-preserved c =
    one_up c.args.self.now c.loop-node.self c.refresh.new.self c.args.queue (record { vr = c.args.vr; queue = c.args.queue }) c.loop-node.node
    (omega (arith, c.place_of-node.ensures.value, c.place_of-node.ensures.few)) c.loop-node-test.true c.loop-node.invariant
    c.refresh.ensures.wins c.refresh.ensures.others

pub returns : goal.returns
returns c = record {
  tree =
      whole_tree c.args.self.now c.loop-node.self c.args.queue (record { vr = c.args.vr; queue = c.args.queue }) c.loop-node.node c.loop-node.invariant
      (omega (arith, c.loop-node-test.false));
  this = c.loop-node.invariant.this;
  others = c.loop-node.invariant.others;
}
