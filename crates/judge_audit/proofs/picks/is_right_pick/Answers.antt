use Rattle.std.proofs.Common.{ap, ◌∙◌}
use Rattle.std.proofs.lemmas.Bool.{both_ways}
use Rattle.judge_audit.specs.Picks.{out_list}
use Rattle.judge_audit.proofs.OpenTurns.{none_known, none_open}
use Rattle.judge_audit.proofs.PickSteps.{right_pick}
use Rattle.judge_audit.proofs.RightPicks.{none_out, stands_at, stands_first}
use Rattle.judge_audit.proofs.WaitingSteps.{idle_known, least_known}
use Rattle.judge_audit.proofs.picks.is_right_pick.Goals as goal

pub returns-then-not-has_few-clause-only : goal.returns-then-not-has_few-clause-only
returns-then-not-has_few-clause-only c = λ burst before knows below right. absurd (both_ways c.has_few.result c.if-not-has_few.true c.has_few.ensures.always)

pub returns-then-may_pick-clause-right : goal.returns-then-may_pick-clause-right
returns-then-may_pick-clause-right c =
    λ burst before knows yes.
    let may = c.may_pick.ensures.right c.if-may_pick.true in
    let stands = least_known burst c.args.turns.now.accounts c.args.turns.now.least before knows.accounts knows.waiting c.has_few.ensures.few in
    right_pick burst before c.args.turns.now.accounts c.args.turns.now.least c.args.queue c.args.runtime knows.accounts c.has_few.ensures.few stands
    (knows.out ∙ ap out_list may.0.0) (none_known burst c.args.turns.now.turn before knows.turn may.0.1) may.1.jobs may.1.at may.1.below (c.is_least.ensures.right knows.tree yes)

pub returns-then-may_pick-clause-only : goal.returns-then-may_pick-clause-only
returns-then-may_pick-clause-only c =
    λ burst before knows below right.
    let stands = least_known burst c.args.turns.now.accounts c.args.turns.now.least before knows.accounts knows.waiting c.has_few.ensures.few in
    let rests = idle_known burst c.args.turns.now.accounts c.args.turns.now.least before knows.accounts knows.waiting in
    c.is_least.ensures.only knows.tree (stands_first burst c.args.turns.now.least c.args.queue c.args.runtime before stands rests below right)

pub returns-else-may_pick-clause-only : goal.returns-else-may_pick-clause-only
returns-else-may_pick-clause-only c =
    λ burst before knows below right.
    absurd
    (
    both_ways c.may_pick.result c.if-may_pick.false
    (
    c.may_pick.ensures.only (none_out c.args.turns.now.out before knows.out right.eligible.nobody_out)
    (none_open burst c.args.turns.now.turn before knows.turn right.eligible.no_turn)
    (stands_at burst c.args.turns.now.accounts c.args.queue c.args.runtime before knows.accounts below right)
    )
    )
