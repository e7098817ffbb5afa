use Rattle.actor_core.proofs.Names.{ℕ, arith}
use Rattle.actor_core.proofs.Followed.{followed_did}
use Rattle.actor_core.proofs.QuietSteps.{view_of, quiet_invariant, quiet_now, quiet_noted}
use Rattle.actor_core.proofs.recorded.Recorded.follow.Goals as goal

pub write-requires : goal.write-requires
write-requires g c =
    let did = followed_did (view_of c.self.inside.core c.self.inside.took.items c.self.inside.said) c.self.invariant.0 c.follow-followed.new.self c.follow-followed.result.0 c.follow-followed.result.1.items c.follow-followed.ensures.follows in
    assumption (quiet_noted c.self.inside.core c.self.inside.took.items c.self.inside.said c.self.invariant c.as_slice.ensures.value did c.self.view_is (omega (arith, c.requires.room)))

pub invariant_of-self : goal.invariant_of-self
invariant_of-self g c =
    let did = followed_did (view_of c.self.inside.core c.self.inside.took.items c.self.inside.said) c.self.invariant.0 c.follow-followed.new.self c.follow-followed.result.0 c.follow-followed.result.1.items c.follow-followed.ensures.follows in
    quiet_invariant c.self.inside.core c.self.inside.took.items c.self.inside.said c.self.invariant c.as_slice.ensures.value did c.write.ensures

pub returns : goal.returns
returns g c =
    let did = followed_did (view_of c.self.inside.core c.self.inside.took.items c.self.inside.said) c.self.invariant.0 c.follow-followed.new.self c.follow-followed.result.0 c.follow-followed.result.1.items c.follow-followed.ensures.follows in
    let now = quiet_now c.self.inside.core c.self.inside.took.items c.self.inside.said c.self.invariant c.as_slice.ensures.value did c.write.ensures c.self.view_is in
    assumption (now, λ (sender : ℕ). now.ins sender tt, c.follow-followed.ensures)
