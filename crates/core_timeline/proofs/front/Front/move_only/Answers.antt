use Rattle.std.proofs.Common.{length, ap, List, ◌∙◌, arith}
use Rattle.base_words.specs.declared.names.Key.{Key}
use Rattle.core_timeline.proofs.FrontEnds.{front-len, keys-only}
use Rattle.core_timeline.proofs.front.Front.move_only.Goals as goal

pub index_mut-requires : goal.index_mut-requires
index_mut-requires g c =
    let places = c.self.inside.places in
    let len = front-len places.vrs.items places.nodes.items places.begin places.end c.self.invariant in
    let same = ap (λ (keys : List Key). length keys) c.self.view_is in
    omega (arith, c.requires, len, same, c.self.invariant.vrs_long, c.self.invariant.within)

pub returns : goal.returns
returns g c =
    let places = c.self.inside.places in
    λ key is. keys-only places.vrs.items places.nodes.items places.begin places.end c.args.vr key c.self.invariant (c.self.view_is ∙ is)
