use Rattle.core_core.proofs.Names.{sym, waiting_of, ◌∙◌}
use Rattle.core_core.proofs.Turned.{TurnsWhole-first, some_front}
use Rattle.core_core.proofs.one_core.Core.turn_metered.Goals as goal

pub turn_first-requires : goal.turn_first-requires
turn_first-requires g c = record { ahead = c.requires.ahead; single = sym c.has_bursts.ensures ∙ c.if-has_bursts.false }

pub returns-clause-whole : goal.returns-clause-whole
returns-clause-whole g c =
    let next = c.args.next.now in
    let turned = c.turn_first in
    let turns = turned.ensures.turns in (
      turns.0,
      turns.1,
      (
        turns.2.0,
        turns.2.1,
        TurnsWhole-first g.J.Task.meaning c.args.self.now turned.new.self turns.2.0
            turns.0 turned.result.0 turned.result.1 next.queue next.vr next.name next.started next.woken c.requires.ahead turns.2.2,
      ),
    )

pub turn_opening-requires : goal.turn_opening-requires
turn_opening-requires g c =
    let is_ahead = c.requires.ahead in
    let front = is_ahead.front in
    let next = c.args.next.now in
    record {
      free = is_ahead.next.free;
      no_turn = is_ahead.next.no_turn;
      bursts = sym c.has_bursts.ensures ∙ c.if-has_bursts.true;
      turns = is_ahead.left;
      work = (next.queue, some_front (waiting_of next.queue c.args.self.now.queues) (next.name, record { started = next.started; woken = next.woken }, front.0) front.1 front.2);
    }

pub returns-then-has_bursts-clause-whole : goal.returns-then-has_bursts-clause-whole
returns-then-has_bursts-clause-whole g c =
    let next = c.args.next.now in
    let turned = c.turn_opening in
    let turns = turned.ensures.turns in (
      turns.0,
      turns.1,
      (
        turns.2.0,
        turns.2.1,
        TurnsWhole-first g.J.Task.meaning c.args.self.now turned.new.self turns.2.0
            turns.0 turned.result.0 turned.result.1 next.queue next.vr next.name next.started next.woken c.requires.ahead turns.2.2,
      ),
    )

pub returns-clause-bounded : goal.returns-clause-bounded
returns-clause-bounded g c = c.turn_first.ensures.bounded

pub returns-then-has_bursts-clause-bounded : goal.returns-then-has_bursts-clause-bounded
returns-then-has_bursts-clause-bounded g c = c.turn_opening.ensures.bounded
