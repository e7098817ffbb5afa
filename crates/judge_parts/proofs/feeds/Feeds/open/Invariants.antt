-- Of the sources some were opened, and so many are left.
use Rattle.std.proofs.Common.{◌≤◌, length, vec_capacity}
use Rattle.std.specs.Vec.Iter.{into_iter_items, into_iter_len}
use Rattle.judge_parts.proofs.Fresh.{AreOpened}
use Rattle.judge_parts.proofs.feeds.Feeds.open.Given as goal

abbrev pub invariant-loop-source : goal.invariant-loop-source
invariant-loop-source g l = record {
  reserved : length l.fn.sources.items ≤ vec_capacity l.feeds;
  made : AreOpened l.fn.sources.items (into_iter_items l.source-iterator) (into_iter_len l.source-iterator) l.opened.items l.feeds.items;
}
