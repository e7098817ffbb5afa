use Rattle.std.proofs.Common.{◌≤◌, refl, ◌∙◌, arith}
use Rattle.actor_desk.proofs.Gathered.{CollectsMany-none, CollectsMany-low, CollectsMany-next, CollectsAll-end}
use Rattle.actor_desk.proofs.lane.Lane.collect.Goals as goal

pub loop-count-init : goal.loop-count-init
loop-count-init g c = record { lane = c.requires; untouched = refl; many = CollectsMany-none c.args.self.now (g.O.OutEnd.out c.args.end.now) (g.O.OutEnd.credited c.args.end.now) }

pub overflow_add-count : goal.overflow_add-count
overflow_add-count g c =
    let low : c.loop-count.count ≤ (g.O.OutEnd.out c.loop-count.end).got =
    CollectsMany-low c.args.self.now c.loop-count.self (g.O.OutEnd.out c.args.end.now) (g.O.OutEnd.out c.loop-count.end)
    (g.O.OutEnd.credited c.args.end.now) (g.O.OutEnd.credited c.loop-count.end) c.loop-count.count c.loop-count.invariant.many in
    omega (arith, c.loop-count.invariant.lane.sound.within, c.loop-count.invariant.lane.sound.numbered)

pub loop-count-preserved : goal.loop-count-preserved
loop-count-preserved g c = record {
  lane = c.loop-count-test.ensures.lane;
  untouched = c.loop-count-test.ensures.untouched ∙ c.loop-count.invariant.untouched;
  many = CollectsMany-next _ c.args.self.now _ _ (g.O.OutEnd.out c.args.end.now) _ _ (g.O.OutEnd.credited c.args.end.now) _ _ c.loop-count.invariant.lane c.collect_one.ensures.lane c.loop-count.count c.loop-count.invariant.many
      c.collect_one.result c.loop-count-test.true c.collect_one.ensures.collects.0 c.collect_one.ensures.collects.1 c.collect_one.ensures.collects.2;
}

pub returns-clause-collects : goal.returns-clause-collects
returns-clause-collects g c =
    CollectsAll-end _ c.args.self.now _ _ (g.O.OutEnd.out c.args.end.now) _ _ (g.O.OutEnd.credited c.args.end.now) _ _ c.loop-count.invariant.lane c.loop-count.count c.loop-count.invariant.many
    c.collect_one.result c.loop-count-test.false c.collect_one.ensures.collects.0 c.collect_one.ensures.collects.1 c.collect_one.ensures.collects.2
