use Rattle.std.proofs.Common.{ap, ◌∙◌, arith}
use Rattle.base_words.specs.Outstanding.{outstanding_count}
use Rattle.actor_caller.proofs.Sent.{one_more_core}
use Rattle.actor_caller.proofs.caller.Caller.outstanding.Goals as goal

pub outstanding-requires : goal.outstanding-requires
outstanding-requires g c = omega (arith, c.loop-core-test.true, c.self.invariant.1.cores_are)

pub loop-core-preserved : goal.loop-core-preserved
loop-core-preserved g c = record {
  counted = one_more_core c.args.self.now.desk.journal.notes c.loop-core.core c.loop-core.count c.outstanding.result c.loop-core.invariant.counted
      (c.outstanding.ensures ∙ ap (λ view. outstanding_count c.loop-core.core view.desk.journal.notes) c.self.view_is);
  few = omega (arith, c.loop-core.invariant.few, c.outstanding.type_inv);
}
