use Rattle.actor_core.proofs.Names.{ap, opened_desk}
use Rattle.actor_core.proofs.Opened.{recorded-opened}
use Rattle.actor_core.proofs.recorded.Recorded.open_burst.Goals as goal

pub invariant_of-result : goal.invariant_of-result
invariant_of-result g c =
    rw (c.in_ok-core.ensures, c.in_ok-said.ensures.opened, c.new.ensures) (
      recorded-opened g.J.Task.meaning c.args.core c.args.cores c.args.cap c.args.room c.args.burst c.requires,
      ap (λ at. opened_desk at c.args.cores c.args.cap c.args.room c.args.burst) c.core.view_is,
    )

pub returns-clause-sound : goal.returns-clause-sound
returns-clause-sound g c =
    rw (c.in_ok-core.ensures, c.in_ok-said.ensures.opened, c.new.ensures)
    (recorded-opened g.J.Task.meaning c.args.core c.args.cores c.args.cap c.args.room c.args.burst c.requires)
