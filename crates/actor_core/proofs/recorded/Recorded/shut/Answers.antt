use Rattle.actor_core.proofs.Names.{arith, IsInOf}
use Rattle.actor_core.proofs.CoreCalls.{core_asks, beside_shut, shut_did}
use Rattle.actor_core.proofs.QuietSteps.{view_of, quiet_invariant, seen_so, quiet_now, quiet_noted}
use Rattle.actor_core.proofs.recorded.Recorded.shut.Goals as goal

pub gate_shut-told-requires : goal.gate_shut-told-requires
gate_shut-told-requires g c =
    (omega arith, core_asks (view_of c.self.inside.core c.self.inside.took.items c.self.inside.said) _ c.self.view_is c.args.from c.shut-count.result _ _ c.requires.beside c.shut-count.ensures.shuts c.shut-count.ensures.sound c.requires.closed c.requires.untold c.self.invariant.0)

pub write-requires : goal.write-requires
write-requires g c =
    let did = shut_did (view_of c.self.inside.core c.self.inside.took.items c.self.inside.said)
    _ c.self.view_is c.args.from c.shut-count.result _ _ c.requires.beside c.shut-count.ensures.shuts c.shut-count.ensures.sound c.requires.closed c.requires.untold
    c.gate_shut-told.new.self c.gate_shut-told.result.items c.gate_shut-told.ensures.shuts c.self.invariant.0 in
    assumption (quiet_noted c.self.inside.core c.self.inside.took.items c.self.inside.said c.self.invariant c.as_slice.ensures.value did c.self.view_is (omega (arith, c.requires.room)))

pub invariant_of-self : goal.invariant_of-self
invariant_of-self g c =
    let did = shut_did (view_of c.self.inside.core c.self.inside.took.items c.self.inside.said)
    _ c.self.view_is c.args.from c.shut-count.result _ _ c.requires.beside c.shut-count.ensures.shuts c.shut-count.ensures.sound c.requires.closed c.requires.untold
    c.gate_shut-told.new.self c.gate_shut-told.result.items c.gate_shut-told.ensures.shuts c.self.invariant.0 in
    quiet_invariant c.self.inside.core c.self.inside.took.items c.self.inside.said c.self.invariant c.as_slice.ensures.value did c.write.ensures

pub returns : goal.returns
returns g c =
    let did = shut_did (view_of c.self.inside.core c.self.inside.took.items c.self.inside.said)
    _ c.self.view_is c.args.from c.shut-count.result _ _ c.requires.beside c.shut-count.ensures.shuts c.shut-count.ensures.sound c.requires.closed c.requires.untold
    c.gate_shut-told.new.self c.gate_shut-told.result.items c.gate_shut-told.ensures.shuts c.self.invariant.0 in
    let now = quiet_now c.self.inside.core c.self.inside.took.items c.self.inside.said c.self.invariant c.as_slice.ensures.value did c.write.ensures c.self.view_is in
    let beside = seen_so c.self.inside.core c.self.inside.took.items c.self.inside.said c.self.invariant c.as_slice.ensures.value did c.write.ensures c.self.view_is (λ old new. IsInOf c.args.from new (g.I.InEnd.inward c.shut-count.new.self))
    (beside_shut (view_of c.self.inside.core c.self.inside.took.items c.self.inside.said)
    _ c.self.view_is c.args.from c.shut-count.result _ _ c.requires.beside c.shut-count.ensures.shuts c.shut-count.ensures.sound c.requires.closed c.requires.untold
    c.gate_shut-told.new.self c.gate_shut-told.result.items c.gate_shut-told.ensures.shuts) in
    assumption (now, c.shut-count.ensures)
