use Rattle.std.proofs.Common.{◌+◌, refl, arith}
use Rattle.core_timeline.specs.Rising.{same_key}
use Rattle.core_timeline.proofs.FrontSearch.{any-start, any-next, any-end, each-true}
use Rattle.core_timeline.proofs.front.places.Places.find.Goals as goal

pub loop-at-init : goal.loop-at-init
loop-at-init g c =
    let now = c.args.self.now in
    any-start (same_key c.args.key.now) now.vrs.items now.nodes.items now.begin now.end c.requires.front

pub loop-at-preserved : goal.loop-at-preserved
loop-at-preserved g c =
    let now = c.args.self.now in
    any-next (same_key c.args.key.now) now.vrs.items now.nodes.items now.begin c.loop-at.at (c.loop-at.at + 1) now.end c.is_key.result c.requires.front (omega arith) (omega arith) refl c.is_key.ensures c.if-is_key.false c.loop-at.invariant

pub returns-then-is_key-clause-here : goal.returns-then-is_key-clause-here
returns-then-is_key-clause-here g c = each-true c.is_key.result (same_key c.args.key.now) _ c.is_key.ensures c.if-is_key.true

pub returns-clause-nowhere : goal.returns-clause-nowhere
returns-clause-nowhere g c =
    let now = c.args.self.now in
    any-end (same_key c.args.key.now) now.vrs.items now.nodes.items now.begin c.loop-at.at now.end c.requires.front (omega arith) (omega arith) c.loop-at.invariant
