use Rattle.std.proofs.Common.{[], ◌∷◌, ◌++◌, ap}
use Rattle.actor_caller.proofs.HandedOn.{held_passed, passes_here}
use Rattle.actor_caller.proofs.caller.Caller.pass_on.Goals as goal

pub invariant_of-self : goal.invariant_of-self
invariant_of-self g c =
    let did = c.pass_on-answer.ensures in (
      c.self.invariant.0,
      held_passed g.S.Sink.has g.S.Sink.refused _ c.pass_on-answer.new.self did.rest _ _ _ _ _ c.self.invariant.1 did.seated c.pass_on-answer.result c.is_err-self-inside.ensures.value did.passes,
    )

pub returns : goal.returns
returns g c =
    let did = c.pass_on-answer.ensures in
    let marks = ap (λ mark. (g.H.Beside.team c.self.inside.house).marks ++ mark ∷ []) did.marked in
    passes_here g.S.Sink.has g.S.Sink.refused _ c.pass_on-answer.new.self did.rest _ c.pass_on-answer.new.sink c.is_err-self-inside.result _ _ c.pass_on-answer.result c.is_err-self-inside.ensures.value did.passes did.asked marks c.args.self.now c.self.view_is
