use Rattle.std.proofs.Common.{◌∙◌, arith}
use Rattle.actor_caller.proofs.InARow.{look_grows, looks_of, no_look, none_told, one_look}
use Rattle.actor_caller.proofs.caller.Caller.collects_soon.Goals as goal

pub loop-init : goal.loop-init
loop-init g c = record { looks = no_look c.args.self.now; none = omega arith }

pub loop-preserved : goal.loop-preserved
loop-preserved g c = record {
  looks = looks_of c.args.self.now c.collect_all.new.self (one_look c.args.self.now c.loop.self c.collect_all.new.self c.loop.invariant.looks c.collect_all.ensures.collects);
  none = none_told _ _ _ c.if-collect_all.false c.collect_all.ensures.told (look_grows _ _ c.collect_all.ensures.collects) ∙ c.loop.invariant.none;
}

pub returns-then-collect_all-clause-looks : goal.returns-then-collect_all-clause-looks
returns-then-collect_all-clause-looks g c = one_look c.args.self.now c.loop.self c.collect_all.new.self c.loop.invariant.looks c.collect_all.ensures.collects
