use Rattle.actor_core.proofs.Names.{ℕ, arith, subst, Err, Ok, Picks, TellsAhead, IsBack}
use Rattle.core_core.specs.declared.turn.Ahead.TheVariants as tells
use Rattle.actor_core.proofs.Ahead.{is_back, left_ahead, none_picked, picked_did}
use Rattle.actor_core.proofs.QuietSteps.{view_of, quiet_invariant, quiet_now, quiet_noted}
use Rattle.actor_core.proofs.recorded.Recorded.pick.Goals as goal

pub write-requires : goal.write-requires
write-requires g c =
    let left = left_ahead (view_of c.self.inside.core c.self.inside.took.items c.self.inside.said) c.self.invariant.0 c.in_default.field-0 c.in_default.ensures in
    let did = picked_did (view_of c.self.inside.core c.self.inside.took.items c.self.inside.said) c.self.invariant.0 left c.pick-picked.new.self c.pick-picked.result.0 c.pick-picked.result.1.items c.pick-picked.ensures.picks in
    assumption (quiet_noted c.self.inside.core c.self.inside.took.items c.self.inside.said c.self.invariant c.as_slice.ensures.value did c.self.view_is (omega (arith, c.requires.room)))

pub invariant_of-self : goal.invariant_of-self
invariant_of-self g c =
    let left = left_ahead (view_of c.self.inside.core c.self.inside.took.items c.self.inside.said) c.self.invariant.0 c.in_default.field-0 c.in_default.ensures in
    let did = picked_did (view_of c.self.inside.core c.self.inside.took.items c.self.inside.said) c.self.invariant.0 left c.pick-picked.new.self c.pick-picked.result.0 c.pick-picked.result.1.items c.pick-picked.ensures.picks in
    quiet_invariant c.self.inside.core c.self.inside.took.items c.self.inside.said c.self.invariant c.as_slice.ensures.value did c.write.ensures

pub returns : goal.returns
returns g c =
    let left = left_ahead (view_of c.self.inside.core c.self.inside.took.items c.self.inside.said) c.self.invariant.0 c.in_default.field-0 c.in_default.ensures in
    let did = picked_did (view_of c.self.inside.core c.self.inside.took.items c.self.inside.said) c.self.invariant.0 left c.pick-picked.new.self c.pick-picked.result.0 c.pick-picked.result.1.items c.pick-picked.ensures.picks in
    let now = quiet_now c.self.inside.core c.self.inside.took.items c.self.inside.said c.self.invariant c.as_slice.ensures.value did c.write.ensures c.self.view_is in
    let back : TellsAhead c.args.self.now.core (Ok tells.Back) → IsBack c.pick-picked.result.0 =
    rw (← c.self.view_is) (λ told. is_back c.self.inside.core c.pick-picked.new.self told c.pick-picked.result.0 c.pick-picked.result.1.items c.pick-picked.ensures.picks) in
    assumption (now, λ (sender : ℕ). now.ins sender tt, c.pick-picked.ensures)

pub returns-in-Err-clause-picks : goal.returns-in-Err-clause-picks
returns-in-Err-clause-picks g c =
    subst (λ view. Picks g.J.Task.meaning view (Err c.in-Err.error) view) c.self.view_is
    (none_picked (view_of c.self.inside.core c.self.inside.took.items c.self.inside.said) c.self.invariant.0 c.in-Err.error c.in-Err.ensures)
