use Rattle.link_board.proofs.Names.{rules}
use Rattle.link_board.proofs.Fresh.{fresh_pushed}
use Rattle.link_board.proofs.opening.row_of.Goals as goal

pub cells-preserved : goal.cells-preserved
cells-preserved g c = let i = c.cells.invariant in (
  search rules,
  search rules,
  search rules,
  fresh_pushed c.cells.row.cells c.push.new.self.cells c.cells.index c.args.word c.in_ok-link.link.ptr c.bytes_of.result c.bytes_of.ensures c.push.ensures.2 i.3,
)
