use Rattle.actor_core.proofs.Names.{ℕ, arith}
use Rattle.actor_core.proofs.CoreCalls.{closed_did}
use Rattle.actor_core.proofs.QuietSteps.{view_of, quiet_invariant, quiet_now, quiet_noted}
use Rattle.actor_core.proofs.recorded.Recorded.close.Goals as goal

pub write-requires : goal.write-requires
write-requires g c =
    let did = closed_did (view_of c.self.inside.core c.self.inside.took.items c.self.inside.said) c.self.invariant.0 c.args.mode c.close-closed.result.0 c.close-closed.new.self c.close-closed.result.1.items c.close-closed.ensures.closes in
    assumption (quiet_noted c.self.inside.core c.self.inside.took.items c.self.inside.said c.self.invariant c.as_slice.ensures.value did c.self.view_is (omega (arith, c.requires)))

pub invariant_of-self : goal.invariant_of-self
invariant_of-self g c =
    let did = closed_did (view_of c.self.inside.core c.self.inside.took.items c.self.inside.said) c.self.invariant.0 c.args.mode c.close-closed.result.0 c.close-closed.new.self c.close-closed.result.1.items c.close-closed.ensures.closes in
    quiet_invariant c.self.inside.core c.self.inside.took.items c.self.inside.said c.self.invariant c.as_slice.ensures.value did c.write.ensures

pub returns : goal.returns
returns g c =
    let did = closed_did (view_of c.self.inside.core c.self.inside.took.items c.self.inside.said) c.self.invariant.0 c.args.mode c.close-closed.result.0 c.close-closed.new.self c.close-closed.result.1.items c.close-closed.ensures.closes in
    let now = quiet_now c.self.inside.core c.self.inside.took.items c.self.inside.said c.self.invariant c.as_slice.ensures.value did c.write.ensures c.self.view_is in
    assumption (now, λ (sender : ℕ). now.ins sender tt)
