use Rattle.core_timeline.proofs.FrontEnds.{front-pop}
use Rattle.core_timeline.proofs.FrontSteps.{keys-first}
use Rattle.core_timeline.proofs.front.places.Places.take_first.Goals as goal

pub returns-then-first-self-clause-keys : goal.returns-then-first-self-clause-keys
returns-then-first-self-clause-keys g c =
    let old = c.args.self.now in
    let taken = c.take-node.ensures in
    rw (taken.vrs, taken.nodes) (keys-first old.vrs.items old.nodes.items old.begin old.end _ c.take-node.result c.requires.front c.requires.some taken.here taken.vr)

pub returns-clause-front : goal.returns-clause-front
returns-clause-front g c =
    let old = c.args.self.now in
    let taken = c.take-node.ensures in
    rw (taken.vrs, taken.nodes, taken.end) (front-pop old.vrs.items old.nodes.items old.begin old.end c.requires.front c.requires.some)

pub returns-clause-keys : goal.returns-clause-keys
returns-clause-keys g c =
    let old = c.args.self.now in
    let taken = c.take-node.ensures in
    rw (taken.vrs, taken.nodes) (keys-first old.vrs.items old.nodes.items old.begin old.end _ c.take-node.result c.requires.front c.requires.some taken.here taken.vr)
