use Rattle.link_board.proofs.Names.{arith, Fits, HasReadyJob, length, None, of_order, refl, rules, with_closed, ◌∙◌}
use Rattle.link_board.proofs.Filled.{accepts_filled, homes_sender}
use Rattle.link_board.proofs.Lent.{place-small, place-told, order_out, filled_is, missed_is}
use Rattle.link_board.proofs.SenderSteps.{lends_order}
use Rattle.link_board.proofs.sender.offer.Goals as goal

pub load-word-requires : goal.load-word-requires
load-word-requires g c = let is = c.requires.sender in (
  search rules,
  search rules,
  c.args.board.now.placed.1,
  place-small c.args.board.now.gap c.args.seat.now.me.view.out.capacity (length c.args.seat.now.me.view.out.sent) c.args.place c.args.board.now.spaced.1 (omega (arith, is.behind, c.requires.room)) is.small c.requires.place,
  lends_order (Fits g.J.Task.meaning) (HasReadyJob g.J.Task.meaning) _ _ _ is.sends is.alone _ _ c.args.board.now.keyed.1 is.rests.away c.requires.room (place-told _ _ c.args.board.now.spaced.0 c.requires.place),
)

pub compare_exchange-requires : goal.compare_exchange-requires
compare_exchange-requires g c =
    let is = c.requires.sender in let old = c.args.seat.now.me in let lent = c.load-word.ensures.3.clear (omega arith) in
    let now = filled_is old.view old.spare c.args.board.now.cells.ptr c.args.place c.load-word.new.seat.me c.exchange.new.seat.me _ _ (of_order c.args.order) lent.1 c.exchange.ensures.slot.1 (c.of-held.ensures ∙ c.hold_order.ensures) in (
      search rules,
      search rules,
      c.args.board.now.placed.1,
      place-small c.args.board.now.gap old.view.out.capacity (length old.view.out.sent) c.args.place c.args.board.now.spaced.1 (omega (arith, is.behind, c.requires.room)) is.small c.requires.place,
      accepts_filled (Fits g.J.Task.meaning) (HasReadyJob g.J.Task.meaning) _ _ old.view old.spare c.exchange.new.seat.me _ _ c.args.board.now.keyed.1 c.args.order c.load-word.result now is.sends is.alone c.requires.room (place-told _ _ c.args.board.now.spaced.0 c.requires.place)
          lent.0 c.requires.number c.requires.ready,
    )

pub load-word-requires-2 : goal.load-word-requires-2
load-word-requires-2 g c =
    let is = c.requires.sender in let old = c.args.seat.now.me in let lent = c.load-word.ensures.3.clear (omega arith) in
    let now = filled_is old.view old.spare c.args.board.now.cells.ptr c.args.place c.load-word.new.seat.me c.exchange.new.seat.me _ _ (of_order c.args.order) lent.1 c.exchange.ensures.slot.1 (c.of-held.ensures ∙ c.hold_order.ensures) in
    let missed = missed_is old.view old.spare c.args.board.now.cells.ptr c.args.place c.exchange.new.seat.me c.compare_exchange.new.seat.me _ now (c.compare_exchange.ensures.3.miss c.if-compare_exchange-word.false) in
    let last = filled_is (with_closed old.view) old.spare c.args.board.now.cells.ptr c.args.place c.compare_exchange.new.seat.me c.take_out.new.seat.me _ _ None missed c.take_out.ensures.slot.1 refl in (
      search rules,
      search rules,
      c.args.board.now.placed.1,
      place-small c.args.board.now.gap old.view.out.capacity (length old.view.out.sent) c.args.place c.args.board.now.spaced.1 (omega (arith, is.behind, c.requires.room)) is.small c.requires.place,
      homes_sender (Fits g.J.Task.meaning) (HasReadyJob g.J.Task.meaning) _ _ (with_closed old.view) old.spare c.take_out.new.seat.me _ _ c.args.board.now.keyed.1 (length old.view.out.sent) last is.sends is.alone
          (omega arith) c.requires.room (place-told _ _ c.args.board.now.spaced.0 c.requires.place),
    )

pub take_out-requires : goal.take_out-requires
take_out-requires g c =
    let old = c.args.seat.now.me in let lent = c.load-word.ensures.3.clear (omega arith) in
    let now = filled_is old.view old.spare c.args.board.now.cells.ptr c.args.place c.load-word.new.seat.me c.exchange.new.seat.me _ _ (of_order c.args.order) lent.1 c.exchange.ensures.slot.1 (c.of-held.ensures ∙ c.hold_order.ensures) in
    let missed = missed_is old.view old.spare c.args.board.now.cells.ptr c.args.place c.exchange.new.seat.me c.compare_exchange.new.seat.me _ now (c.compare_exchange.ensures.3.miss c.if-compare_exchange-word.false) in
    (search rules, c.args.board.now.placed.1, order_out (with_closed old.view) old.spare c.args.board.now.cells.ptr c.args.place c.compare_exchange.new.seat.me c.args.order missed)
