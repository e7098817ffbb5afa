use Rattle.std.proofs.Common.{sym, subst}
use Rattle.link_ends.specs.Fits.{Fits}
use Rattle.actor_desk.specs.Desks.{AreEndsOf}
use Rattle.actor_desk.proofs.Cores.{AreEndsOf-fresh}
use Rattle.actor_desk.proofs.desk.Desk.begin.Goals as goal

pub returns : goal.returns
returns g c =
    subst (λ d. AreEndsOf (Fits g.J.Task.meaning) g.O.OutEnd.out g.O.OutEnd.credited d c.args.ends.now) (sym c.requires.fresh)
    (AreEndsOf-fresh (Fits g.J.Task.meaning) g.O.OutEnd.out g.O.OutEnd.credited c.args.self.now.actor c.args.cores c.args.cap c.args.ends.now c.requires.unused)
