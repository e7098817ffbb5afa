use Rattle.core_timeline.proofs.FrontEnds.{front-some}
use Rattle.core_timeline.proofs.front.Front.take_last.Goals as goal

pub take_last-requires : goal.take_last-requires
take_last-requires g c =
    let places = c.self.inside.places in
    record { front = c.self.invariant; some = front-some places.vrs.items places.nodes.items places.begin places.end _ c.self.invariant c.self.view_is c.requires }
