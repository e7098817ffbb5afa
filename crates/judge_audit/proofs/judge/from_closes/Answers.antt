use Rattle.judge_audit.proofs.Names.{arith, refl}
use Rattle.judge_audit.proofs.BrokenRules.{placed_closes}
use Rattle.judge_audit.proofs.KeptRules.{two_before}
use Rattle.judge_audit.proofs.judge.from_closes.Goals as goal

pub returns-in-Some : goal.returns-in-Some
returns-in-Some c =
    rw c.fault.ensures
    (
    record {
      some = omega arith;
      few = omega arith;
      before = two_before c.args.assembly.now 3 refl c.requires.starts c.requires.order;
      place = placed_closes c.args.assembly.now 3 c.in-Some.place.actor c.in-Some.place.line refl c.in-Some.ensures.named;
    }
    )
