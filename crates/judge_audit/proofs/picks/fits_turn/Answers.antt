use Rattle.std.proofs.Common.{refl, sym}
use Rattle.judge_audit.proofs.OpenTurns.{ends, fits_ending, fits_further, further}
use Rattle.judge_audit.proofs.picks.fits_turn.Goals as goal

pub returns-in-Start-clause-right : goal.returns-in-Start-clause-right
returns-in-Start-clause-right c =
    λ before knows.
    rw c.in-Start.is
    (
    λ facts yes.
    further c.args.burst before c.in-Start.field-0 c.args.fact.now.queue (sym (facts.told _ refl).queue) c.args.turns.now.out knows.out c.args.turns.now.turn
    knows.turn (c.fits_poll.ensures.right yes)
    )

pub returns-in-Start-clause-only : goal.returns-in-Start-clause-only
returns-in-Start-clause-only c =
    λ before knows.
    rw c.in-Start.is
    (
    λ facts in_turn.
    c.fits_poll.ensures.only
    (
    fits_further c.args.burst before c.in-Start.field-0 c.args.fact.now.queue (sym (facts.told _ refl).queue) c.args.turns.now.out knows.out
    c.args.turns.now.turn knows.turn in_turn
    )
    )

pub returns-in-Resume-clause-right : goal.returns-in-Resume-clause-right
returns-in-Resume-clause-right c =
    λ before knows.
    rw c.in-Resume.is
    (
    λ facts yes.
    further c.args.burst before c.in-Resume.field-0 c.args.fact.now.queue (sym (facts.told _ refl).queue) c.args.turns.now.out knows.out c.args.turns.now.turn
    knows.turn (c.fits_poll-in-Resume.ensures.right yes)
    )

pub returns-in-Resume-clause-only : goal.returns-in-Resume-clause-only
returns-in-Resume-clause-only c =
    λ before knows.
    rw c.in-Resume.is
    (
    λ facts in_turn.
    c.fits_poll-in-Resume.ensures.only
    (
    fits_further c.args.burst before c.in-Resume.field-0 c.args.fact.now.queue (sym (facts.told _ refl).queue) c.args.turns.now.out knows.out
    c.args.turns.now.turn knows.turn in_turn
    )
    )

pub returns-in-Turned-clause-right : goal.returns-in-Turned-clause-right
returns-in-Turned-clause-right c =
    λ before knows.
    rw c.in-Turned.is
    (
    λ facts yes.
    ends c.args.burst before c.args.turns.now.out knows.out c.in-Turned.queue c.in-Turned.time c.args.turns.now.turn knows.turn (c.fits_end.ensures.right yes)
    )

pub returns-in-Turned-clause-only : goal.returns-in-Turned-clause-only
returns-in-Turned-clause-only c =
    λ before knows.
    rw c.in-Turned.is
    (
    λ facts in_turn.
    c.fits_end.ensures.only
    (fits_ending c.args.burst before c.args.turns.now.out knows.out c.in-Turned.queue c.in-Turned.time c.args.turns.now.turn knows.turn in_turn)
    )
