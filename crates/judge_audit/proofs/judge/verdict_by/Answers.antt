use Rattle.judge_audit.proofs.Names.{arith, refl}
use Rattle.judge_audit.proofs.BrokenRules.{placed_starts}
use Rattle.judge_audit.proofs.KeptRules.{none_before}
use Rattle.judge_audit.proofs.judge.verdict_by.Goals as goal

pub returns-in-Some : goal.returns-in-Some
returns-in-Some c =
    rw c.fault.ensures
    (
    record {
      some = omega arith;
      few = omega arith;
      before = none_before c.args.assembly.now 1 refl;
      place = placed_starts c.args.assembly.now 1 c.in-Some.place.actor c.in-Some.place.line refl c.in-Some.ensures.named;
    }
    )
