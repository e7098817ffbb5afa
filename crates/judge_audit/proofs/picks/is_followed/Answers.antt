use Rattle.std.proofs.Common.{refl, sym, ◌∙◌, ap}
use Rattle.std.specs.Prelude.{is_some}
use Rattle.judge_audit.proofs.OpenTurns.{answers, fits_answer}
use Rattle.judge_audit.proofs.picks.is_followed.Goals as goal

pub returns-in-Start-clause-right : goal.returns-in-Start-clause-right
returns-in-Start-clause-right c =
    λ burst before knows.
    rw c.in-Start.is
    (
    λ facts yes.
    let of =
    answers burst before c.in-Start.field-0 c.args.fact.now.queue (sym (facts.told _ refl).queue) c.args.turns.now.picked knows.picked
    c.args.turns.now.turn knows.turn (c.answers_pick.ensures.right yes) in
    record { turn = of.0; followed = of.1 }
    )

pub returns-in-Start-clause-only : goal.returns-in-Start-clause-only
returns-in-Start-clause-only c =
    λ burst before knows.
    rw c.in-Start.is
    (
    λ facts follows.
    c.answers_pick.ensures.only
    (
    fits_answer burst before c.in-Start.field-0 c.args.fact.now.queue (sym (facts.told _ refl).queue) c.args.turns.now.picked knows.picked
    c.args.turns.now.turn knows.turn follows.turn follows.followed
    )
    )

pub returns-in-Resume-clause-right : goal.returns-in-Resume-clause-right
returns-in-Resume-clause-right c =
    λ burst before knows.
    rw c.in-Resume.is
    (
    λ facts yes.
    let of =
    answers burst before c.in-Resume.field-0 c.args.fact.now.queue (sym (facts.told _ refl).queue) c.args.turns.now.picked knows.picked
    c.args.turns.now.turn knows.turn (c.answers_pick-in-Resume.ensures.right yes) in
    record { turn = of.0; followed = of.1 }
    )

pub returns-in-Resume-clause-only : goal.returns-in-Resume-clause-only
returns-in-Resume-clause-only c =
    λ burst before knows.
    rw c.in-Resume.is
    (
    λ facts follows.
    c.answers_pick-in-Resume.ensures.only
    (
    fits_answer burst before c.in-Resume.field-0 c.args.fact.now.queue (sym (facts.told _ refl).queue) c.args.turns.now.picked knows.picked
    c.args.turns.now.turn knows.turn follows.turn follows.followed
    )
    )

pub returns-in-Returned-clause-right : goal.returns-in-Returned-clause-right
returns-in-Returned-clause-right c =
    λ burst before knows.
    rw c.in-Returned.is
    (
    λ facts yes.
    let of = c.is_of_pick.ensures.right yes in
    record { turn = ap is_some knows.picked ∙ of.0; followed = knows.picked ∙ (of.1 ∙ (facts.told _ refl).queue) }
    )

pub returns-in-Returned-clause-only : goal.returns-in-Returned-clause-only
returns-in-Returned-clause-only c =
    λ burst before knows.
    rw c.in-Returned.is
    (
    λ facts follows.
    c.is_of_pick.ensures.only (ap is_some (sym knows.picked) ∙ follows.turn) (sym knows.picked ∙ (follows.followed ∙ sym (facts.told _ refl).queue))
    )
