-- A handle may go to another thread: what it holds names no thread.
use denote.Param.Send.{IsSend, sendable}
use Rattle.std.proofs.Crossing.{crosses}
use Rattle.core_timeline.proofs.tree.Tree.TheLaws.TheKnot as tree
use Rattle.fairexec_c.specs.contracts.handle.Handle.{the_row}
use Rattle.fairexec_c.proofs.Handling.{alone, goes}

core : IsSend alone.of
core = search (crosses, tree.crosses, sendable) depth 60 fits 20000

pub send : IsSend the_row
send = goes alone core
