-- Of the sources some were read, and so many are left.
use Rattle.std.proofs.Common.{◌≤◌, length, vec_capacity}
use Rattle.std.specs.Vec.Iter.{into_iter_items, into_iter_len}
use Rattle.judge_parts.proofs.Fronts.{AreReadOf}
use Rattle.judge_parts.proofs.front.front_of_parts.Given as goal

abbrev pub invariant-loop-source : goal.invariant-loop-source
invariant-loop-source g l = record {
  reserved : length l.fn.sources.items ≤ vec_capacity l.journals;
  made : AreReadOf g.S.Source.remaining l.fn.sources.items (into_iter_items l.source-iterator) (into_iter_len l.source-iterator) l.journals.items;
}
