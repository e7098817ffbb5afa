use Rattle.judge_audit.proofs.Names.{arith, refl}
use Rattle.judge_audit.proofs.BrokenRules.{placed_order}
use Rattle.judge_audit.proofs.KeptRules.{one_before}
use Rattle.judge_audit.proofs.judge.from_order.Goals as goal

pub returns-in-Some : goal.returns-in-Some
returns-in-Some c =
    rw c.fault.ensures
    (
    record {
      some = omega arith;
      few = omega arith;
      before = one_before c.args.assembly.now 2 refl c.requires.starts;
      place = placed_order c.args.assembly.now 2 c.in-Some.place.actor c.in-Some.place.line refl c.in-Some.ensures.named;
    }
    )
