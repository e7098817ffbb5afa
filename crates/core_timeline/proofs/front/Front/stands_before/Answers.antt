use Rattle.std.proofs.Common.{◌-◌, arith}
use Rattle.core_timeline.proofs.FrontEnds.{front-some, last-before}
use Rattle.core_timeline.proofs.front.Front.stands_before.Goals as goal

pub overflow_sub-self-inside : goal.overflow_sub-self-inside
overflow_sub-self-inside g c =
    let places = c.self.inside.places in
    let some = front-some places.vrs.items places.nodes.items places.begin places.end _ c.self.invariant c.self.view_is c.requires in
    omega arith

pub is_before-requires : goal.is_before-requires
is_before-requires g c =
    let places = c.self.inside.places in
    let front = c.self.invariant in
    let some = front-some places.vrs.items places.nodes.items places.begin places.end _ front c.self.view_is c.requires in
    record { vrs = front.vrs_long; nodes = front.nodes_long; within = omega (arith, front.within); taken = front.taken (places.end - 1) (omega arith) (omega arith) }

pub returns : goal.returns
returns g c =
    let places = c.self.inside.places in
    last-before places.vrs.items places.nodes.items places.begin places.end _ _ _ c.self.invariant c.requires c.self.view_is c.is_before.ensures
