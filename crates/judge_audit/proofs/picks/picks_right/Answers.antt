use Rattle.std.proofs.lemmas.Bool.{both_ways}
use Rattle.judge_audit.proofs.PickSteps.{awake, fits_parks, settles}
use Rattle.judge_audit.proofs.RightPicks.{fits}
use Rattle.judge_audit.proofs.picks.picks_right.Goals as goal

pub returns-then-is_in_turn-clause-right : goal.returns-then-is_in_turn-clause-right
returns-then-is_in_turn-clause-right c =
    λ before knows facts yes.
    let turn = c.is_in_turn.ensures.right before knows facts c.if-is_in_turn.true in
    let fits = c.is_settled.ensures.right before facts yes in (
      record {
        right = turn.0;
        turn = turn.1.turn;
        followed = turn.1.followed;
        settles = settles c.args.turns.now.out before knows.out c.args.note.now fits.0 fits.1;
        awake = awake c.args.burst before c.args.note.now fits.1;
        in_turn = turn.2;
      },
      fits.0,
    )

pub returns-then-is_in_turn-clause-only : goal.returns-then-is_in_turn-clause-only
returns-then-is_in_turn-clause-only c =
    λ before knows facts below each right.
    c.is_settled.ensures.only before facts (fits c.args.burst c.args.turns.now.out before knows.out each c.args.note.now right)
    (fits_parks c.args.burst before c.args.note.now right)

pub returns-else-is_in_turn-clause-only : goal.returns-else-is_in_turn-clause-only
returns-else-is_in_turn-clause-only c =
    λ before knows facts below each right.
    absurd
    (
    both_ways c.is_in_turn.result c.if-is_in_turn.false
    (c.is_in_turn.ensures.only before knows facts below right.right (record { turn = right.turn; followed = right.followed }) right.in_turn)
    )
