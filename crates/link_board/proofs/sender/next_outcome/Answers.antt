use Rattle.link_board.proofs.Names.{arith, Fits, HasReadyJob, None, refl, rules, SeesOutcomes, subst, sym, with_got, ◌+◌, ◌∙◌}
use Rattle.link_board.proofs.Filled.{homes_sender}
use Rattle.link_board.proofs.Lent.{place-small, place-told, outcome_out, filled_is, homed_is}
use Rattle.link_board.proofs.Numbers.{place-again}
use Rattle.link_board.proofs.SenderSees.{lifts_outcome}
use Rattle.link_board.proofs.sender.next_outcome.Goals as goal

pub load-word-requires : goal.load-word-requires
load-word-requires g c = let is = c.requires.sender in let out = c.args.seat.now.me.view.out in (
  search rules,
  search rules,
  c.args.board.now.placed.1,
  place-small c.args.board.now.gap out.capacity out.got c.args.place c.args.board.now.spaced.1 (omega (arith, is.few, c.requires.waits)) is.small c.requires.place,
  lifts_outcome (Fits g.J.Task.meaning) (HasReadyJob g.J.Task.meaning) _ _ _ is.sends is.alone _ c.args.place c.args.board.now.keyed.1 is.rests.away is.got_all c.requires.waits (place-told _ _ c.args.board.now.spaced.0 c.requires.place),
)

pub load-word-requires-2 : goal.load-word-requires-2
load-word-requires-2 g c =
    let is = c.requires.sender in let old = c.args.seat.now.me in let out = old.view.out in let lent = c.load-word.ensures.3.more c.if-word-eq0.false in
    let now = filled_is (with_got old.view lent.seen (out.got + 1)) old.spare c.args.board.now.cells.ptr c.args.place c.load-word.new.seat.me c.take_out.new.seat.me _ _ None lent.lifted c.take_out.ensures.slot.1 refl in (
      search rules,
      search rules,
      c.args.board.now.placed.1,
      place-small c.args.board.now.gap out.capacity out.got c.args.place c.args.board.now.spaced.1 (omega (arith, is.few, c.requires.waits)) is.small c.requires.place,
      homes_sender (Fits g.J.Task.meaning) (HasReadyJob g.J.Task.meaning) _ _ (with_got old.view lent.seen (out.got + 1)) old.spare c.take_out.new.seat.me _ _ c.args.board.now.keyed.1 (out.got + out.capacity) now is.sends is.alone
          is.few (omega arith) (place-told _ _ c.args.board.now.spaced.0 c.requires.place ∙ sym (place-again c.args.board.now.lines.key.gap out.capacity out.got)),
    )

pub take_out-requires : goal.take_out-requires
take_out-requires g c =
    let old = c.args.seat.now.me in let lent = c.load-word.ensures.3.more c.if-word-eq0.false in
    (search rules, c.args.board.now.placed.1, outcome_out (with_got old.view lent.seen (old.view.out.got + 1)) old.spare c.args.board.now.cells.ptr c.args.place c.load-word.new.seat.me lent.outcome lent.lifted)

pub returns-then-word-eq0-clause-sees : goal.returns-then-word-eq0-clause-sees
returns-then-word-eq0-clause-sees g c = let same = c.load-word.ensures.3.zero c.if-word-eq0.true in
    subst (λ m. SeesOutcomes (Fits g.J.Task.meaning) c.args.seat.now.me.view.out m.view.out.seen) (sym same.1) same.0

pub returns-clause-sees : goal.returns-clause-sees
returns-clause-sees g c =
    let old = c.args.seat.now.me in let out = old.view.out in let lent = c.load-word.ensures.3.more c.if-word-eq0.false in
    let now = filled_is (with_got old.view lent.seen (out.got + 1)) old.spare c.args.board.now.cells.ptr c.args.place c.load-word.new.seat.me c.take_out.new.seat.me _ _ None lent.lifted c.take_out.ensures.slot.1 refl in
    let last = homed_is (with_got old.view lent.seen (out.got + 1)) old.spare c.args.board.now.cells.ptr c.args.place c.take_out.new.seat.me c.load-word-2.new.seat.me c.load-word-2.result now c.load-word-2.ensures.3 in
    subst (λ m. SeesOutcomes (Fits g.J.Task.meaning) out m.view.out.seen) (sym last) lent.sees
