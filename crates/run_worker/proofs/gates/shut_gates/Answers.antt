use Rattle.run_worker.proofs.Names.{arith, refl}
use Rattle.run_worker.proofs.Gated.{shuts_none, shuts_more}
use Rattle.run_worker.proofs.Telling.{tells_true, tells_false}
use Rattle.run_worker.proofs.gates.shut_gates.Goals.{then-shut_unless, else-shut_unless}
use Rattle.run_worker.proofs.gates.shut_gates.Goals as goal

pub loop-sender-init : goal.loop-sender-init
loop-sender-init g c = record { first = shuts_none c.args.spared c.args.seat.now; tells = refl; linked = c.requires.linked; end = omega (arith, c.requires.cores) }

pub loop-sender-preserved : goal.loop-sender-preserved
loop-sender-preserved g c = record {
  first = shuts_more _ _ _ _ _ c.loop-sender.invariant.first c.shut_unless.ensures.leaves;
  tells = elim c.if-shut_unless.branch [
    | then-shut_unless w ↦ rw w.some-is (tells_true _ c.loop-sender.seat.recorded.journal.notes _ c.loop-sender.invariant.first.stays.grows (rw w.if-shut_unless.true at c.shut_unless.ensures.tells))
    | else-shut_unless w ↦ rw w.some-is (tells_false _ _ c.loop-sender.seat.recorded.journal.notes _ c.loop-sender.invariant.tells (rw w.if-shut_unless.false at c.shut_unless.ensures.tells))
  ];
  linked = c.shut_unless.ensures.linked;
  end = c.loop-sender.invariant.end;
}
