use Rattle.std.proofs.Common.{◌-◌, ◌∙◌, refl, arith}
use Rattle.core_timeline.proofs.FrontCompact.{compact-start, compact-next, compact-end}
use Rattle.core_timeline.proofs.front.places.Places.compact.Goals as goal

pub loop-at-init : goal.loop-at-init
loop-at-init g c =
    let old = c.args.self.now in
    (compact-start old.vrs.items old.nodes.items old.begin old.end (old.end - old.begin) c.requires.front (omega (arith, c.requires.front.forward)), refl)

pub loop-at-preserved : goal.loop-at-preserved
loop-at-preserved g c =
    let old = c.loop-at.self in
    let step = compact-next old.vrs.items old.nodes.items c.args.self.now.begin c.loop-at.at _ _ c.loop-at.invariant.0 c.requires.moved (omega arith) (omega (arith, c.requires.front.forward, c.requires.front.within)) refl in
    rw (c.shift.ensures.vrs, c.shift.ensures.nodes) (step.0, step.1 ∙ c.loop-at.invariant.1)

pub returns-clause-front : goal.returns-clause-front
returns-clause-front g c =
    let new = c.loop-at.self in
    compact-end new.vrs.items new.nodes.items _ c.loop-at.at _ c.loop-at.invariant.0 (omega arith) (omega (arith, c.requires.front.few))

pub returns-clause-keys : goal.returns-clause-keys
returns-clause-keys g c = c.loop-at.invariant.1
