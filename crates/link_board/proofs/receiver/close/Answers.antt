use Rattle.link_board.proofs.Names.{ap, arith, Fits, HasReadyJob, length, rules, sym, ◌∙◌}
use Rattle.link_board.proofs.Watching.{seals_after, sealed}
use Rattle.link_board.proofs.receiver.close.Goals as goal

pub store-requires : goal.store-requires
store-requires g c = (
  search rules,
  search rules,
  c.args.board.now.placed.0,
  omega arith,
  seals_after (Fits g.J.Task.meaning) (HasReadyJob g.J.Task.meaning) _ _ c.args.seat.now.me c.mark_next-all.new.seat.me c.requires.receiver c.mark_next-all.ensures.watches _ c.args.board.now.keyed.0 c.mark_next-all.ensures.ends,
)

pub returns-clause-receiver : goal.returns-clause-receiver
returns-clause-receiver g c =
    (sealed (HasReadyJob g.J.Task.meaning) c.args.seat.now.me c.mark_next-all.new.seat.me c.store.new.seat.me c.mark_next-all.ensures.watches c.requires.receiver c.requires.clear c.store.ensures.3).0

pub returns-clause-sees : goal.returns-clause-sees
returns-clause-sees g c =
    (sealed (HasReadyJob g.J.Task.meaning) c.args.seat.now.me c.mark_next-all.new.seat.me c.store.new.seat.me c.mark_next-all.ensures.watches c.requires.receiver c.requires.clear c.store.ensures.3).1

pub returns-clause-shut : goal.returns-clause-shut
returns-clause-shut g c =
    (sealed (HasReadyJob g.J.Task.meaning) c.args.seat.now.me c.mark_next-all.new.seat.me c.store.new.seat.me c.mark_next-all.ensures.watches c.requires.receiver c.requires.clear c.store.ensures.3).2

pub returns-clause-value : goal.returns-clause-value
returns-clause-value g c =
    c.mark_next-all.ensures.value ∙ ap (λ z. length z)
    (sym (sealed (HasReadyJob g.J.Task.meaning) c.args.seat.now.me c.mark_next-all.new.seat.me c.store.new.seat.me c.mark_next-all.ensures.watches c.requires.receiver c.requires.clear c.store.ensures.3).3)
