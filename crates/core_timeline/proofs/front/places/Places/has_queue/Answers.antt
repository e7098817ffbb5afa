use Rattle.std.proofs.Common.{◌+◌, ◌==◌, refl, sym, arith}
use Rattle.core_timeline.proofs.FrontSearch.{any-start, any-next, any-end, any-found}
use Rattle.core_timeline.proofs.front.places.Places.has_queue.Goals as goal

pub loop-at-init : goal.loop-at-init
loop-at-init g c =
    let now = c.args.self.now in
    any-start (λ key. key.queue == c.args.queue) now.vrs.items now.nodes.items now.begin now.end c.requires.front

pub loop-at-preserved : goal.loop-at-preserved
loop-at-preserved g c =
    let now = c.args.self.now in
    any-next (λ key. key.queue == c.args.queue) now.vrs.items now.nodes.items now.begin c.loop-at.at (c.loop-at.at + 1) now.end c.is_of.result c.requires.front (omega arith) (omega arith) refl c.is_of.ensures c.if-is_of.false c.loop-at.invariant

pub returns-then-is_of : goal.returns-then-is_of
returns-then-is_of g c =
    let now = c.args.self.now in
    sym (any-found (λ key. key.queue == c.args.queue) now.vrs.items now.nodes.items now.begin c.loop-at.at now.end c.is_of.result c.requires.front (omega arith) (omega arith) c.is_of.ensures c.if-is_of.true)

pub returns : goal.returns
returns g c =
    let now = c.args.self.now in
    sym (any-end (λ key. key.queue == c.args.queue) now.vrs.items now.nodes.items now.begin c.loop-at.at now.end c.requires.front (omega arith) (omega arith) c.loop-at.invariant)
