use Rattle.actor_core.proofs.Names.{ℕ, sym, ◌∙◌, subst, arith, InRange, IsOpening}
use Rattle.actor_core.proofs.Kept.{opening_is_open}
use Rattle.actor_core.proofs.CoreCalls.{created_did}
use Rattle.actor_core.proofs.QuietSteps.{view_of, quiet_invariant, quiet_now, quiet_noted}
use Rattle.actor_core.proofs.recorded.Recorded.create.Goals as goal

pub create-created-requires : goal.create-created-requires
create-created-requires g c =
    let kept = c.self.invariant.0.kept in
    (omega arith, kept.agrees.closing.mode ∙ opening_is_open c.self.inside.said.journal.notes (subst (λ view. IsOpening view.journal.notes) (sym c.self.view_is) c.requires.opening))

pub write-requires : goal.write-requires
write-requires g c =
    let opening = subst (λ view. IsOpening view.journal.notes) (sym c.self.view_is) c.requires.opening in
    let in_range : InRange c.args.shares = omega (arith, c.get-in_range.ensures) in
    let did = created_did (view_of c.self.inside.core c.self.inside.took.items c.self.inside.said) c.self.invariant.0 opening c.args.shares in_range c.create-created.new.self c.create-created.result.0 c.create-created.result.1.items c.create-created.ensures.creates in
    assumption (quiet_noted c.self.inside.core c.self.inside.took.items c.self.inside.said c.self.invariant c.as_slice.ensures.value did c.self.view_is (omega (arith, c.requires.room)))

pub invariant_of-self : goal.invariant_of-self
invariant_of-self g c =
    let opening = subst (λ view. IsOpening view.journal.notes) (sym c.self.view_is) c.requires.opening in
    let in_range : InRange c.args.shares = omega (arith, c.get-in_range.ensures) in
    let did = created_did (view_of c.self.inside.core c.self.inside.took.items c.self.inside.said) c.self.invariant.0 opening c.args.shares in_range c.create-created.new.self c.create-created.result.0 c.create-created.result.1.items c.create-created.ensures.creates in
    quiet_invariant c.self.inside.core c.self.inside.took.items c.self.inside.said c.self.invariant c.as_slice.ensures.value did c.write.ensures

pub returns : goal.returns
returns g c =
    let opening = subst (λ view. IsOpening view.journal.notes) (sym c.self.view_is) c.requires.opening in
    let in_range : InRange c.args.shares = omega (arith, c.get-in_range.ensures) in
    let did = created_did (view_of c.self.inside.core c.self.inside.took.items c.self.inside.said) c.self.invariant.0 opening c.args.shares in_range c.create-created.new.self c.create-created.result.0 c.create-created.result.1.items c.create-created.ensures.creates in
    let now = quiet_now c.self.inside.core c.self.inside.took.items c.self.inside.said c.self.invariant c.as_slice.ensures.value did c.write.ensures c.self.view_is in
    assumption (now, λ (sender : ℕ). now.ins sender tt)
