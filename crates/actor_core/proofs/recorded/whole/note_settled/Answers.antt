use Rattle.actor_core.proofs.Names.{◌∙◌, ap, desk_with, reverse}
use Rattle.actor_core.proofs.NotedTurns.{one_settled}
use Rattle.actor_core.proofs.recorded.whole.note_settled.Goals as goal

pub write-requires : goal.write-requires
write-requires g c =
    let room = one_settled c.args.said.now c.args.next.now.name c.args.time c.args.step.now c.args.next.now.woken c.requires.room in
    rw c.settled_notes-told.ensures (assumption (room, c.requires))

pub returns-clause-noted : goal.returns-clause-noted
returns-clause-noted g c = c.write.ensures ∙ ap (λ notes. desk_with (reverse notes) c.args.said.now) c.settled_notes-told.ensures
