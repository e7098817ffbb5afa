use Rattle.std.proofs.Common.{refl}
use Rattle.core_timeline.proofs.FrontEnds.{front-few}
use Rattle.core_timeline.proofs.front.places.Places.make_room.Goals as goal

pub returns-then-self-eq-PLACES-clause-few : goal.returns-then-self-eq-PLACES-clause-few
returns-then-self-eq-PLACES-clause-few g c =
    let new = c.compact.new.self in
    front-few new.vrs.items new.nodes.items new.begin new.end _ c.compact.ensures.front c.compact.ensures.keys c.requires.room

pub returns-else-self-eq-PLACES-clause-few : goal.returns-else-self-eq-PLACES-clause-few
returns-else-self-eq-PLACES-clause-few g c =
    let old = c.args.self.now in
    front-few old.vrs.items old.nodes.items old.begin old.end _ c.requires.front refl c.requires.room
