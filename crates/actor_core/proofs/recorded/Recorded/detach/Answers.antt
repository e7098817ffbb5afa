use Rattle.actor_core.proofs.Names.{DetachesTicket, Fits, ◌∙◌, ap, desk_of}
use Rattle.actor_desk.specs.Tickets.{StaysBeside}
use Rattle.actor_core.proofs.SentNotes.{has_said, detached_silent, said_so}
use Rattle.actor_core.proofs.recorded.Recorded.detach.Goals as goal

pub detach-requires : goal.detach-requires
detach-requires g c = rw (c.self.invariant.1 ∙ ap desk_of c.self.view_is) (assumption c.requires)

pub invariant_of-self : goal.invariant_of-self
invariant_of-self g c =
    let silent = detached_silent c.self.inside.said c.detach.new.self c.args.ticket c.detach.result c.detach.ensures.detaches in
    let now = has_said c.self.inside.core c.self.inside.took.items c.self.inside.said c.self.invariant c.self.view_is c.detach.ensures.stays.rest c.detach.ensures.stays.written silent in
    (now.sound, now.is_its)

pub returns : goal.returns
returns g c =
    let silent = detached_silent c.self.inside.said c.detach.new.self c.args.ticket c.detach.result c.detach.ensures.detaches in
    let now = has_said c.self.inside.core c.self.inside.took.items c.self.inside.said c.self.invariant c.self.view_is c.detach.ensures.stays.rest c.detach.ensures.stays.written silent in
    assumption (
      said_so c.self.inside.core c.self.inside.took.items c.self.inside.said c.self.invariant c.self.view_is now.is_its (λ old new. DetachesTicket c.args.ticket old c.detach.result new) c.detach.ensures.detaches,
      said_so c.self.inside.core c.self.inside.took.items c.self.inside.said c.self.invariant c.self.view_is now.is_its (λ old new. StaysBeside (Fits g.J.Task.meaning) c.args.ticket.to old new (g.O.OutEnd.out c.detach.new.end) (g.O.OutEnd.credited c.detach.new.end)) c.detach.ensures.stays,
      now,
      c.detach.ensures,
    )
