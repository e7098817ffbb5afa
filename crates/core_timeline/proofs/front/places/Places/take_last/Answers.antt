use Rattle.std.proofs.Common.{◌-◌, arith}
use Rattle.core_timeline.proofs.FrontSteps.{keys-last}
use Rattle.core_timeline.proofs.front.places.Places.take_last.Goals as goal

pub returns-clause-keys : goal.returns-clause-keys
returns-clause-keys g c =
    let old = c.args.self.now in
    let taken = c.take-node.ensures in
    rw (taken.vrs, taken.nodes) (keys-last old.vrs.items old.nodes.items old.begin (old.end - 1) old.end _ c.take-node.result c.requires.front (omega (arith, c.requires.some)) (omega arith) taken.here taken.vr)
