use Rattle.std.proofs.Common.{length, sym, ap, ◌∙◌}
use Rattle.core_timeline.proofs.FrontEnds.{front-len}
use Rattle.core_timeline.proofs.front.Front.len.Goals as goal

pub returns-clause-value : goal.returns-clause-value
returns-clause-value g c =
    let places = c.self.inside.places in
    sym (ap length (sym c.self.view_is) ∙ front-len places.vrs.items places.nodes.items places.begin places.end c.self.invariant)
