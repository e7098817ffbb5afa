use Rattle.std.proofs.lemmas.Bool.{both_ways}
use Rattle.judge_audit.proofs.picks.fits_pick.Goals as goal

pub returns-then-right_if_pick : goal.returns-then-right_if_pick
returns-then-right_if_pick c = record {
  right = λ burst before knows facts yes. (c.right_if_pick.ensures.right burst before knows c.if-right_if_pick.true, c.is_followed.ensures.right burst before knows facts yes);
  only = λ burst before knows facts below pick follows. c.is_followed.ensures.only burst before knows facts follows;
}

pub returns-else-right_if_pick-clause-only : goal.returns-else-right_if_pick-clause-only
returns-else-right_if_pick-clause-only c =
    λ burst before knows facts below pick follows.
    absurd (both_ways c.right_if_pick.result c.if-right_if_pick.false (c.right_if_pick.ensures.only burst before knows below pick))
