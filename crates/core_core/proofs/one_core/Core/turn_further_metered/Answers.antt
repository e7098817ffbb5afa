use Rattle.core_core.proofs.FurtherTurn.{FollowsWhole-further}
use Rattle.core_core.proofs.one_core.Core.turn_further_metered.Goals as goal

pub returns-clause-whole : goal.returns-clause-whole
returns-clause-whole g c =
    let next = c.args.next.now in
    let polled = c.poll_further in
    let turns = polled.ensures.turns in (
      turns.0,
      turns.1,
      (
        turns.2.0,
        turns.2.1,
        FollowsWhole-further g.J.Task.meaning c.args.self.now polled.new.self turns.2.0
            turns.0 polled.result.0 polled.result.1 next.queue next.vr next.name next.started next.woken c.requires.ahead turns.2.2,
      ),
    )
