use Rattle.link_board.proofs.Names.{Fits, HasReadyJob}
use Rattle.link_board.proofs.Lent.{place-small, place-told}
use Rattle.link_board.proofs.Starting.{enters}
use Rattle.link_board.proofs.receiver.shows_order.Goals as goal

pub load_new_seat-word-requires : goal.load_new_seat-word-requires
load_new_seat-word-requires g c = (
  c.args.board.now.placed.1,
  place-small c.args.board.now.gap c.args.board.now.lines.key.capacity c.args.index c.args.place c.args.board.now.spaced.1 c.requires.some c.requires.few c.requires.place,
  enters (Fits g.J.Task.meaning) (HasReadyJob g.J.Task.meaning) c.args.board.now.lines.key _ _ c.args.index c.args.board.now.keyed.1 c.requires.some
      (place-told _ _ c.args.board.now.spaced.0 c.requires.place),
)
