use Rattle.core_timeline.proofs.FrontEnds.{keys-push}
use Rattle.core_timeline.proofs.front.places.Places.push.Goals as goal

pub returns-clause-keys : goal.returns-clause-keys
returns-clause-keys g c =
    let old = c.make_room.new.self in
    rw (c.put.ensures.vrs, c.put.ensures.nodes) (keys-push old.vrs.items old.nodes.items old.begin old.end c.args.vr c.args.node _ c.make_room.ensures.gap c.make_room.ensures.keys)
