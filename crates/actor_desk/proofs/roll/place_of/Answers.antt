use Rattle.std.proofs.Common.{sym}
use Rattle.actor_desk.proofs.RollEnds.{guessed}
use Rattle.actor_desk.proofs.roll.place_of.Goals as goal

pub search-requires-clause-below : goal.search-requires-clause-below
search-requires-clause-below g c =
    guessed c.args.lines.now c.requires c.args.number c.saturating_sub-guess.result c.in_ok-last.field-0.now (sym c.in_ok-last.ensures.value) c.if-last-number.false c.saturating_sub-guess.ensures
