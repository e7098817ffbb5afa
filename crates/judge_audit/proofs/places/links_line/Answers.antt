use Rattle.judge_audit.proofs.Names.{arith, CollectionsOff, DeliveriesOff, ◌+◌}
use Rattle.judge_audit.proofs.LeastLines.{both_least}
use Rattle.judge_audit.proofs.LinksOff.{core_links, outside_links}
use Rattle.judge_audit.proofs.places.links_line.Goals as goal

pub returns-then-actor-cores : goal.returns-then-actor-cores
returns-then-actor-cores c = record {
  kept =
      λ none.
      let both = c.first_line.ensures.kept none in (λ within. c.deliveries_line.ensures.kept both.0, c.collections_line-collections.ensures.kept both.1);
  only =
      λ deliveries collections.
      c.first_line.ensures.only (c.deliveries_line.ensures.only (deliveries (omega (arith, c.if-actor-cores.true, c.cores.ensures.value))))
      (c.collections_line-collections.ensures.only collections);
  least =
      rw c.first_line.ensures.value
      (
      core_links c.args.assembly.now c.args.actor (omega (arith, c.if-actor-cores.true, c.cores.ensures.value)) _
      (
      both_least (DeliveriesOff c.args.assembly.now c.args.actor (c.args.assembly.now.cores + 1))
      (CollectionsOff c.args.assembly.now c.args.actor c.args.assembly.now.cores) c.deliveries_line.result c.collections_line-collections.result
      c.deliveries_line.ensures.least c.collections_line-collections.ensures.least
      )
      );
}

pub returns-else-actor-cores : goal.returns-else-actor-cores
returns-else-actor-cores c = record {
  kept =
      λ none. (λ within. absurd (omega (arith, within, c.if-actor-cores.false, c.cores.ensures.value)), c.collections_line-collections.ensures.kept none);
  only = λ deliveries collections. c.collections_line-collections.ensures.only collections;
  least =
      outside_links c.args.assembly.now c.args.actor (λ within. absurd (omega (arith, within, c.if-actor-cores.false, c.cores.ensures.value))) _
      c.collections_line-collections.ensures.least;
}
