use Rattle.std.proofs.Common.{subst}
use Rattle.run_team.specs.Works.{Together}
use Rattle.run_team.proofs.Accounts.{all_kept}
use Rattle.run_team.proofs.team.Team.join.Goals as goal

pub returns : goal.returns
returns g c =
    rw (← c.self.view_is)
    (all_kept g.W.Promised.keeps c.self.inside.given.value.items c.self.inside.seats.items c.end_all.result.items c.self.invariant.seated c.end_all.ensures)
