use Rattle.std.proofs.lemmas.Bool.{both_ways}
use Rattle.judge_audit.proofs.picks.is_in_turn.Goals as goal

pub returns-then-fits_pick : goal.returns-then-fits_pick
returns-then-fits_pick c = record {
  right = λ before knows facts yes.
      let pick = c.fits_pick.ensures.right c.args.burst before knows facts c.if-fits_pick.true in
      (pick.0, pick.1, c.fits_turn.ensures.right before knows facts yes);
  only = λ before knows facts below pick follows in_turn. c.fits_turn.ensures.only before knows facts in_turn;
}

pub returns-else-fits_pick-clause-only : goal.returns-else-fits_pick-clause-only
returns-else-fits_pick-clause-only c =
    λ before knows facts below pick follows in_turn.
    absurd (both_ways c.fits_pick.result c.if-fits_pick.false (c.fits_pick.ensures.only c.args.burst before knows facts below pick follows))
