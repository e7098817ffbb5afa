use Rattle.judge_audit.proofs.Names.{arith, refl}
use Rattle.judge_audit.proofs.BrokenRules.{placed_picks}
use Rattle.judge_audit.proofs.KeptRules.{four_before}
use Rattle.judge_audit.proofs.judge.from_picks.Goals as goal

pub returns-in-Some : goal.returns-in-Some
returns-in-Some c =
    rw c.fault.ensures
    (
    record {
      some = omega arith;
      few = omega arith;
      before = four_before c.args.assembly.now 5 refl c.requires.starts c.requires.order c.requires.closes c.requires.outcomes;
      place = placed_picks c.args.assembly.now 5 c.in-Some.place.actor c.in-Some.place.line refl c.in-Some.ensures.named;
    }
    )

pub returns-in-None : goal.returns-in-None
returns-in-None c = record {
  starts = c.requires.starts;
  order = c.requires.order;
  closes = c.requires.closes;
  outcomes = c.requires.outcomes;
  picks = c.picks_place.ensures.kept c.in-None.is;
}
