use Rattle.std.proofs.Common.{◌≡◌, ◌++◌, length}
use Rattle.std.specs.Vec.Iter.{into_iter_items, into_iter_len}
use Rattle.link_ring.proofs.opening.seal_all.Given as goal

abbrev pub invariant-loop-ends : goal.invariant-loop-ends
invariant-loop-ends g l = record {
  split : l.dealt.items ++ into_iter_items l.ends-iterator ≡ l.fn.all.items;
  count : into_iter_len l.ends-iterator ≡ length (into_iter_items l.ends-iterator);
}
