use Rattle.link_board.proofs.Names.{AreFresh, ◌+◌, ◌≡◌}
use Rattle.link_board.proofs.opening.row_of.Given as goal

abbrev pub invariant-cells : goal.invariant-cells
invariant-cells g l = (l.row.heap ≡ l.initial.row.heap) × (l.row.at ≡ l.initial.row.at) × (l.row.left + l.index ≡ l.len) × AreFresh l.row.cells l.index l.word
