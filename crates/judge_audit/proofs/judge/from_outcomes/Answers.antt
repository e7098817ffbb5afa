use Rattle.judge_audit.proofs.Names.{arith, refl}
use Rattle.judge_audit.proofs.BrokenRules.{placed_outcomes}
use Rattle.judge_audit.proofs.KeptRules.{three_before}
use Rattle.judge_audit.proofs.judge.from_outcomes.Goals as goal

pub returns-in-Some : goal.returns-in-Some
returns-in-Some c =
    rw c.fault.ensures
    (
    record {
      some = omega arith;
      few = omega arith;
      before = three_before c.args.assembly.now 4 refl c.requires.starts c.requires.order c.requires.closes;
      place = placed_outcomes c.args.assembly.now 4 c.in-Some.place.actor c.in-Some.place.line refl c.in-Some.ensures.named;
    }
    )
