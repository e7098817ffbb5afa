use Rattle.actor_core.proofs.Names.{sym, subst, arith, IsOut, OwesSettled}
use Rattle.actor_core.proofs.SettledPolls.{task_out, settled_did}
use Rattle.actor_core.proofs.SettledEnds.{owes_settled}
use Rattle.actor_core.proofs.QuietSteps.{view_of, quiet_invariant, seen_so, quiet_now, quiet_noted, ins_step}
use Rattle.actor_core.proofs.recorded.Recorded.settle_out.Goals as goal

pub write-requires : goal.write-requires
write-requires g c =
    let out = c.settle-settled.ensures.settles in
    let its_job = subst (λ who. IsOut who c.args.ran.before) out.1 (subst (λ view. IsOut view.core.out c.args.ran.before) (sym c.self.view_is) c.requires.out) in
    let did = settled_did g.met.J.Task.laws (view_of c.self.inside.core c.self.inside.took.items c.self.inside.said) c.self.invariant.0 out.0 out.1 c.settle-settled.new.self c.args.ran its_job c.requires.polled c.args.spent c.settle-settled.result.0 c.settle-settled.result.1.items out.2 in
    assumption (quiet_noted c.self.inside.core c.self.inside.took.items c.self.inside.said c.self.invariant c.as_slice.ensures.value did c.self.view_is (omega (arith, c.requires.room)))

pub invariant_of-self : goal.invariant_of-self
invariant_of-self g c =
    let out = c.settle-settled.ensures.settles in
    let its_job = subst (λ who. IsOut who c.args.ran.before) out.1 (subst (λ view. IsOut view.core.out c.args.ran.before) (sym c.self.view_is) c.requires.out) in
    let did = settled_did g.met.J.Task.laws (view_of c.self.inside.core c.self.inside.took.items c.self.inside.said) c.self.invariant.0 out.0 out.1 c.settle-settled.new.self c.args.ran its_job c.requires.polled c.args.spent c.settle-settled.result.0 c.settle-settled.result.1.items out.2 in
    quiet_invariant c.self.inside.core c.self.inside.took.items c.self.inside.said c.self.invariant c.as_slice.ensures.value did c.write.ensures

pub returns : goal.returns
returns g c =
    let out = c.settle-settled.ensures.settles in
    let its_job = subst (λ who. IsOut who c.args.ran.before) out.1 (subst (λ view. IsOut view.core.out c.args.ran.before) (sym c.self.view_is) c.requires.out) in
    let did = settled_did g.met.J.Task.laws (view_of c.self.inside.core c.self.inside.took.items c.self.inside.said) c.self.invariant.0 out.0 out.1 c.settle-settled.new.self c.args.ran its_job c.requires.polled c.args.spent c.settle-settled.result.0 c.settle-settled.result.1.items out.2 in
    let now = quiet_now c.self.inside.core c.self.inside.took.items c.self.inside.said c.self.invariant c.as_slice.ensures.value did c.write.ensures c.self.view_is in
    let owes = seen_so c.self.inside.core c.self.inside.took.items c.self.inside.said c.self.invariant c.as_slice.ensures.value did c.write.ensures c.self.view_is (λ old new. OwesSettled old c.settle-settled.result.0 new)
    (owes_settled (view_of c.self.inside.core c.self.inside.took.items c.self.inside.said) _ out.0 out.1 c.settle-settled.result.0 (λ sender. ins_step (view_of c.self.inside.core c.self.inside.took.items c.self.inside.said) c.self.invariant.0 _ _ did.step sender tt)) in
    assumption now

pub settle-settled-requires : goal.settle-settled-requires
settle-settled-requires g c =
    (omega arith, task_out g.met.J.Task.laws c.self.inside.core.out c.args.ran.before (subst (λ view. IsOut view.core.out c.args.ran.before) (sym c.self.view_is) c.requires.out))
