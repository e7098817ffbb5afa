use Rattle.std.proofs.Common.{◌+◌, ◌-◌, ◌≤◌, refl, ap, arith}
use Rattle.core_timeline.specs.Front.{front_keys}
use Rattle.core_timeline.specs.Nodes.{key_of}
use Rattle.core_timeline.proofs.FrontPlaces.{gap-put}
use Rattle.core_timeline.proofs.FrontSteps.{moving-start, moving-on, moving-done}
use Rattle.core_timeline.proofs.front.places.Places.insert.Goals as goal

pub loop-queue-init : goal.loop-queue-init
loop-queue-init g c =
    let room = c.make_room.new.self in
    (moving-start _ room.vrs.items room.nodes.items room.begin room.end _ c.make_room.ensures.gap refl, refl, refl)

pub loop-queue-preserved : goal.loop-queue-preserved
loop-queue-preserved g c =
    let old = c.loop-queue.self in
    let before = c.goes_before.ensures.before c.loop-queue-test.true in
    let some = before.0 in
    let step = moving-on _ _ old.vrs.items old.nodes.items old.begin c.loop-queue.at (c.loop-queue.at - 1) old.end (omega arith) c.loop-queue.invariant.0 (omega arith) before.1 in
    rw (c.shift.ensures.vrs, c.shift.ensures.nodes, c.shift.ensures.begin, c.shift.ensures.end) (step, c.loop-queue.invariant.1, c.loop-queue.invariant.2)

pub returns-clause-keys : goal.returns-clause-keys
returns-clause-keys g c =
    let old = c.loop-queue.self in
    let room = c.make_room.new.self in
    let is = ap (key_of c.args.vr) c.deref.ensures in
    let here = c.goes_before.ensures.here c.loop-queue-test.false in
    rw (c.put.ensures.vrs, c.put.ensures.nodes) (moving-done (front_keys room.vrs.items room.nodes.items) _ _ old.vrs.items old.nodes.items old.begin c.loop-queue.at old.end c.args.vr c.args.node is c.make_room.ensures.keys c.loop-queue.invariant.0 c.requires.rising here)

pub returns-clause-front : goal.returns-clause-front
returns-clause-front g c =
    let old = c.loop-queue.self in
    let few : old.end + 1 ≤ old.begin + 32 = omega (arith, c.make_room.ensures.few) in
    rw (c.put.ensures.vrs, c.put.ensures.nodes, c.put.ensures.begin, c.put.ensures.end) (gap-put old.vrs.items old.nodes.items old.begin c.loop-queue.at old.end (old.end + 1) c.args.vr c.args.node c.loop-queue.invariant.0.gap c.requires.loose refl few)
