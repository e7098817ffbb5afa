use Rattle.link_board.proofs.Names.{arith, Fits, HasReadyJob, rules}
use Rattle.link_board.proofs.Lent.{place-small, place-told}
use Rattle.link_board.proofs.Watching.{looks_after, marks_after}
use Rattle.link_board.proofs.receiver.mark_next.Goals as goal

pub load-word-requires : goal.load-word-requires
load-word-requires g c = let i = c.looks.invariant in let is = c.requires.receiver in (
  search rules,
  search rules,
  c.args.board.now.placed.1,
  place-small c.args.board.now.gap c.args.capacity c.looks.seen _ c.args.board.now.spaced.1 (omega arith) (omega (arith, is.small, c.requires.capacity)) c.place_at-place.ensures,
  looks_after (Fits g.J.Task.meaning) (HasReadyJob g.J.Task.meaning) _ _ c.args.seat.now.me c.looks.seat.me is i.2 _ _ c.looks.seen c.args.given c.args.capacity c.args.board.now.keyed.1 i.3
      (place-told _ _ c.args.board.now.spaced.0 c.place_at-place.ensures) i.4 c.requires.given c.requires.capacity (omega arith),
)

pub compare_exchange-requires : goal.compare_exchange-requires
compare_exchange-requires g c = let i = c.looks.invariant in let is = c.requires.receiver in let none = c.load-word.ensures.3.none c.if-word-ne0.true in (
  search rules,
  search rules,
  c.args.board.now.placed.1,
  place-small c.args.board.now.gap c.args.capacity c.looks.seen _ c.args.board.now.spaced.1 (omega arith) (omega (arith, is.small, c.requires.capacity)) c.place_at-place.ensures,
  marks_after (Fits g.J.Task.meaning) (HasReadyJob g.J.Task.meaning) _ _ c.args.seat.now.me c.looks.seat.me is i.2 _ _ c.looks.seen c.args.given c.args.capacity c.args.board.now.keyed.1 i.3
      (place-told _ _ c.args.board.now.spaced.0 c.place_at-place.ensures) i.4 c.requires.given c.requires.capacity (omega arith) c.load-word.new.seat.me _ _ none.2 none.0 (omega arith),
)
