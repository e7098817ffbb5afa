use Rattle.link_board.proofs.Names.{arith, Fits, HasReadyJob, rules}
use Rattle.link_board.proofs.SenderSteps.{probes}
use Rattle.link_board.proofs.sender.is_open.Goals as goal

pub load-requires : goal.load-requires
load-requires g c = let is = c.requires.sender in (
  search rules,
  search rules,
  c.args.board.now.placed.0,
  omega arith,
  probes (Fits g.J.Task.meaning) (HasReadyJob g.J.Task.meaning) _ _ _ is.sends is.alone _ c.args.board.now.keyed.0,
)
