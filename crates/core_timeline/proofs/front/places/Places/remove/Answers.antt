use Rattle.std.proofs.Common.{◌-◌, sym, ◌∙◌, arith}
use Rattle.core_timeline.specs.Front.{front_keys}
use Rattle.core_timeline.proofs.FrontPlaces.{front-take}
use Rattle.core_timeline.proofs.FrontSearch.{IsFound, found, removed-absent}
use Rattle.core_timeline.proofs.front.places.Places.remove.Given.{Over}
use Rattle.core_timeline.proofs.front.places.Places.remove.Goals as goal
use Rattle.core_timeline.proofs.front.places.Places.remove.Goals.{After-take-node}

taken-out : (g : Over) (c : After-take-node g) → IsFound c.args.key.now c.take-node.result.value (front_keys c.args.self.now.vrs.items c.args.self.now.nodes.items) (front_keys c.take-node.new.self.vrs.items c.take-node.new.self.nodes.items)
taken-out g c =
    let old = c.args.self.now in
    let taken = c.take-node.ensures in
    rw (taken.vrs, taken.nodes) (found c.args.key.now old.vrs.items old.nodes.items old.begin c.in_ok-at.at old.end c.take-node.result c.requires.front c.in_ok-at.ensures.to_end taken.here c.in_ok-at.ensures.here c.requires.rising)

pub returns-in_err-at-clause-keys : goal.returns-in_err-at-clause-keys
returns-in_err-at-clause-keys g c = sym (removed-absent c.args.key.now _ c.in_err-at.ensures.nowhere)

pub close_gap-requires : goal.close_gap-requires
close_gap-requires g c =
    let old = c.args.self.now in
    let taken = c.take-node.ensures in
    let low = c.in_ok-at.ensures.from_begin in
    let high = c.in_ok-at.ensures.to_end in
    let gap = front-take old.vrs.items old.nodes.items old.begin c.in_ok-at.at (old.end - 1) old.end c.requires.front low (omega arith) (omega arith) in
    record { gap = rw (taken.vrs, taken.nodes, taken.begin, taken.end) gap; some = omega arith }

pub returns-clause-found : goal.returns-clause-found
returns-clause-found g c = sym (taken-out g (goal.at.returns-clause-found g c).After-take-node).has

pub returns-clause-keys : goal.returns-clause-keys
returns-clause-keys g c = c.close_gap.ensures.keys ∙ (taken-out g (goal.at.returns-clause-keys g c).After-take-node).rest

pub returns-clause-same_queue : goal.returns-clause-same_queue
returns-clause-same_queue g c = (taken-out g (goal.at.returns-clause-same_queue g c).After-take-node).queue
