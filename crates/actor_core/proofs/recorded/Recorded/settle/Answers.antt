use Rattle.actor_core.proofs.Names.{subst, Gives}
use Rattle.actor_core.proofs.SettledEnds.{settled_given, others_settled}
use Rattle.actor_core.proofs.recorded.Recorded.settle.Goals as goal

pub give_if-requires : goal.give_if-requires
give_if-requires g c =
    let settled = c.settle_out-settled.ensures in
    rw (c.outcome_done.ensures) (settled_given c.args.self.now c.settle_out-settled.new.self c.args.ran c.args.spent c.settle_out-settled.result settled.settles settled.owes settled.sound c.args.name c.requires.named (g.I.InEnd.inward c.args.end.now) c.requires.beside).0

pub returns : goal.returns
returns g c =
    let settled = c.settle_out-settled.ensures in
    let gives = subst (λ outcome. Gives (g.I.InEnd.inward c.args.end.now) c.args.name.number outcome (g.I.InEnd.inward c.give_if.new.end)) c.outcome_done.ensures c.give_if.ensures.gives in
    let beside = (settled_given c.args.self.now c.settle_out-settled.new.self c.args.ran c.args.spent c.settle_out-settled.result settled.settles settled.owes settled.sound
    c.args.name c.requires.named (g.I.InEnd.inward c.args.end.now) c.requires.beside).1 (g.I.InEnd.inward c.give_if.new.end) gives in
    let others = others_settled c.args.self.now c.settle_out-settled.new.self c.args.ran c.args.spent c.settle_out-settled.result settled.settles settled.owes settled.sound c.args.name c.requires.named in
    assumption (settled, c.give_if.ensures)
