use Rattle.link_board.proofs.Names.{arith, Fits, HasReadyJob, length, None, of_outcome, rules, ◌∙◌}
use Rattle.link_board.proofs.Filled.{gives_filled}
use Rattle.link_board.proofs.Lent.{place-small, place-told, given-word, hand_of, filled_is}
use Rattle.link_board.proofs.ReceiverSteps.{lends_back}
use Rattle.link_board.proofs.Rests.{IsReceiver-gave, view-gave}
use Rattle.link_board.proofs.receiver.give.Goals as goal

pub load-word-requires : goal.load-word-requires
load-word-requires g c = let is = c.requires.receiver in let inward = c.args.seat.now.me.view.inward in (
  search rules,
  search rules,
  c.args.board.now.placed.1,
  place-small c.args.board.now.gap inward.capacity (length inward.given) c.args.place c.args.board.now.spaced.1 (omega (arith, is.few, c.requires.owed)) is.small c.requires.place,
  lends_back (Fits g.J.Task.meaning) (HasReadyJob g.J.Task.meaning) _ _ _ is.takes is.alone _ c.args.place c.args.board.now.keyed.1 is.rests.away c.requires.owed (place-told _ _ c.args.board.now.spaced.0 c.requires.place),
)

pub store-requires : goal.store-requires
store-requires g c =
    let is = c.requires.receiver in let old = c.args.seat.now.me in let inward = old.view.inward in
    let now = filled_is old.view old.spare c.args.board.now.cells.ptr c.args.place c.load-word.new.seat.me c.exchange.new.seat.me _ _ (of_outcome c.args.outcome) c.load-word.ensures.3 c.exchange.ensures.slot.1 (c.of-held.ensures ∙ c.hold_outcome.ensures) in (
      search rules,
      search rules,
      c.args.board.now.placed.1,
      place-small c.args.board.now.gap inward.capacity (length inward.given) c.args.place c.args.board.now.spaced.1 (omega (arith, is.few, c.requires.owed)) is.small c.requires.place,
      gives_filled (Fits g.J.Task.meaning) (HasReadyJob g.J.Task.meaning) _ _ old.view old.spare c.exchange.new.seat.me _ _ c.args.board.now.keyed.1 c.args.number c.args.outcome c.given_word-marked.result now is.takes is.alone
          c.requires.owed (place-told _ _ c.args.board.now.spaced.0 c.requires.place) (given-word c.given_word-marked.result c.args.number c.args.shut inward.shut c.given_word-marked.ensures c.requires.shut) c.requires.may,
    )

pub exchange-requires : goal.exchange-requires
exchange-requires g c =
    let old = c.args.seat.now.me in
    (search rules, c.args.board.now.placed.1, (None, hand_of old.view old.spare c.args.board.now.cells.ptr c.args.place c.load-word.new.seat.me None c.load-word.ensures.3))

pub returns-clause-receiver : goal.returns-clause-receiver
returns-clause-receiver g c =
    let is = c.requires.receiver in let old = c.args.seat.now.me in let inward = old.view.inward in
    let now = filled_is old.view old.spare c.args.board.now.cells.ptr c.args.place c.load-word.new.seat.me c.exchange.new.seat.me _ _ (of_outcome c.args.outcome) c.load-word.ensures.3 c.exchange.ensures.slot.1 (c.of-held.ensures ∙ c.hold_outcome.ensures) in
    IsReceiver-gave old is c.exchange.new.seat.me c.store.new.seat.me c.args.board.now.cells.ptr c.args.place c.args.number c.given_word-marked.result c.args.outcome c.requires.owed now
    (given-word c.given_word-marked.result c.args.number c.args.shut inward.shut c.given_word-marked.ensures c.requires.shut) c.store.ensures.3

pub returns-clause-gave : goal.returns-clause-gave
returns-clause-gave g c =
    let is = c.requires.receiver in let old = c.args.seat.now.me in let inward = old.view.inward in
    let now = filled_is old.view old.spare c.args.board.now.cells.ptr c.args.place c.load-word.new.seat.me c.exchange.new.seat.me _ _ (of_outcome c.args.outcome) c.load-word.ensures.3 c.exchange.ensures.slot.1 (c.of-held.ensures ∙ c.hold_outcome.ensures) in
    view-gave old is c.exchange.new.seat.me c.store.new.seat.me c.args.board.now.cells.ptr c.args.place c.args.number c.given_word-marked.result c.args.outcome c.requires.owed now
    (given-word c.given_word-marked.result c.args.number c.args.shut inward.shut c.given_word-marked.ensures c.requires.shut) c.store.ensures.3
