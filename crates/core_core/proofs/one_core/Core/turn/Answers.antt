use Rattle.core_core.proofs.Names.{pick_notes, settle_notes, settled_of, subst, TurnsWhole, ℕ}
use Rattle.core_core.proofs.one_core.Core.turn.Goals as goal

pub returns-clause-whole : goal.returns-clause-whole
returns-clause-whole g c =
    let next = c.args.next.now in
    let turned = c.turn_metered in
    let whole = turned.ensures.whole in (
      whole.0,
      whole.1,
      subst (λ (spent : ℕ). TurnsWhole g.J.Task.meaning c.args.self.now spent whole.0 next.name next.queue next.started
          (pick_notes next.queue next.vr next.name next.started) (settled_of turned.result.0 next.woken)
          (settle_notes next.name turned.result.1 turned.result.0 next.woken) turned.new.self) whole.2.1 whole.2.2,
    )
