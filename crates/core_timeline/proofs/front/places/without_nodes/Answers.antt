use Rattle.std.proofs.Common.{◌+◌, None, ap, length, ◌∙◌}
use Rattle.std.specs.Prelude.{slice_index_or}
use Rattle.std.proofs.lemmas.List.{length-append}
use Rattle.core_timeline.proofs.FrontCompact.{free-push, free-all}
use Rattle.core_timeline.proofs.front.places.without_nodes.Goals as goal

pub loop-preserved : goal.loop-preserved
loop-preserved g c = record {
  count = ap length c.push_reserved.ensures.items ∙ (length-append c.loop.nodes.items _ ∙ ap (λ k. k + 1) c.loop.invariant.count);
  free = rw c.push_reserved.ensures.items (free-push c.loop.nodes.items _ c.loop.invariant.count c.loop.invariant.free);
  capacity = c.push_reserved.ensures.capacity ∙ c.loop.invariant.capacity;
}

pub returns-clause-free : goal.returns-clause-free
returns-clause-free g c =
    let nodes = c.loop.nodes.items in
    λ k. ap (λ places. slice_index_or places k None) c.sealed.ensures.items ∙ free-all nodes _ c.loop.invariant.count c.loop.invariant.free k
