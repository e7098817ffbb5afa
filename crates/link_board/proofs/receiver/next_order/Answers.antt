use Rattle.link_board.proofs.Names.{arith, Fits, HasReadyJob, None, refl, rules, with_taken, ◌+◌}
use Rattle.link_board.proofs.Filled.{homes_receiver}
use Rattle.link_board.proofs.Lent.{place-small, place-told, order_out, filled_is}
use Rattle.link_board.proofs.ReceiverSteps.{lifts_order}
use Rattle.link_board.proofs.receiver.next_order.Goals as goal

pub load-requires : goal.load-requires
load-requires g c = let is = c.requires.receiver in let inward = c.args.seat.now.me.view.inward in (
  search rules,
  search rules,
  c.args.board.now.placed.1,
  place-small c.args.board.now.gap inward.capacity inward.taken c.args.place c.args.board.now.spaced.1 (omega (arith, is.behind, c.requires.room)) is.small c.requires.place,
  lifts_order (Fits g.J.Task.meaning) (HasReadyJob g.J.Task.meaning) _ _ _ is.takes is.alone _ c.args.place c.args.board.now.keyed.1 is.rests.away c.requires.room (place-told _ _ c.args.board.now.spaced.0 c.requires.place),
)

pub load-word-requires : goal.load-word-requires
load-word-requires g c =
    let is = c.requires.receiver in let old = c.args.seat.now.me in let inward = old.view.inward in let lent = c.load.ensures.3.more c.if-load-ne0.false in
    let now = filled_is (with_taken old.view lent.seen (inward.taken + 1)) old.spare c.args.board.now.cells.ptr c.args.place c.load.new.seat.me c.take_out.new.seat.me _ _ None lent.lifted c.take_out.ensures.slot.1 refl in (
      search rules,
      search rules,
      c.args.board.now.placed.1,
      place-small c.args.board.now.gap inward.capacity inward.taken c.args.place c.args.board.now.spaced.1 (omega (arith, is.behind, c.requires.room)) is.small c.requires.place,
      homes_receiver (Fits g.J.Task.meaning) (HasReadyJob g.J.Task.meaning) _ _ (with_taken old.view lent.seen (inward.taken + 1)) old.spare c.take_out.new.seat.me _ _ c.args.board.now.keyed.1 inward.taken now is.takes is.alone
          is.behind (omega arith) (place-told _ _ c.args.board.now.spaced.0 c.requires.place),
    )

pub take_out-requires : goal.take_out-requires
take_out-requires g c =
    let old = c.args.seat.now.me in let lent = c.load.ensures.3.more c.if-load-ne0.false in
    (search rules, c.args.board.now.placed.1, order_out (with_taken old.view lent.seen (old.view.inward.taken + 1)) old.spare c.args.board.now.cells.ptr c.args.place c.load.new.seat.me lent.order lent.lifted)
