use Rattle.std.proofs.Common.{refl}
use Rattle.fairview_report.proofs.WalkLemmas.{told_none}
use Rattle.fairview_report.proofs.walks.WalksNoteTaker.begin.Goals as goal

pub returns : goal.returns
returns g c =
    λ walked. record {
      same_cores = refl;
      same_burst = refl;
      before = told_none g.W.CoreWalk.tells c.args.self.now.burst c.args.burst c.args.self.now.each.items walked.before;
      known = c.start.ensures;
    }
