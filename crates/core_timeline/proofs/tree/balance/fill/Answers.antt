use Rattle.core_timeline.proofs.tree.balance.fill.Goals as goal

pub returns : goal.returns
returns g c = c.replace.ensures.after
