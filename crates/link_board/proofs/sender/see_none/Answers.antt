use Rattle.link_board.proofs.Names.{arith, Fits, HasReadyJob, rules}
use Rattle.link_board.proofs.SenderSees.{gathers}
use Rattle.link_board.proofs.sender.see_none.Goals as goal

pub load-word-requires : goal.load-word-requires
load-word-requires g c = let is = c.requires.sender in (
  search rules,
  search rules,
  c.args.board.now.placed.0,
  omega arith,
  gathers (Fits g.J.Task.meaning) (HasReadyJob g.J.Task.meaning) _ _ _ is.sends is.alone _ c.args.board.now.keyed.0,
)
