use Rattle.actor_core.proofs.Names.{Fits, Submits, ◌∙◌, ap, desk_of}
use Rattle.actor_desk.specs.Tickets.{StaysBeside}
use Rattle.actor_core.proofs.SentNotes.{has_said, submitted_silent, said_so}
use Rattle.actor_core.proofs.recorded.Recorded.submit.Goals as goal

pub submit-requires : goal.submit-requires
submit-requires g c = rw (c.self.invariant.1 ∙ ap desk_of c.self.view_is) (assumption c.requires)

pub invariant_of-self : goal.invariant_of-self
invariant_of-self g c =
    let silent = submitted_silent c.self.inside.said c.submit.new.self c.args.to c.args.order c.submit.result c.submit.ensures.submits in
    let now = has_said c.self.inside.core c.self.inside.took.items c.self.inside.said c.self.invariant c.self.view_is c.submit.ensures.stays.rest c.submit.ensures.stays.written silent in
    (now.sound, now.is_its)

pub returns : goal.returns
returns g c =
    let silent = submitted_silent c.self.inside.said c.submit.new.self c.args.to c.args.order c.submit.result c.submit.ensures.submits in
    let now = has_said c.self.inside.core c.self.inside.took.items c.self.inside.said c.self.invariant c.self.view_is c.submit.ensures.stays.rest c.submit.ensures.stays.written silent in
    assumption (
      said_so c.self.inside.core c.self.inside.took.items c.self.inside.said c.self.invariant c.self.view_is now.is_its (λ old new. Submits c.args.to c.args.order old c.submit.result new) c.submit.ensures.submits,
      said_so c.self.inside.core c.self.inside.took.items c.self.inside.said c.self.invariant c.self.view_is now.is_its (λ old new. StaysBeside (Fits g.J.Task.meaning) c.args.to old new (g.O.OutEnd.out c.submit.new.end) (g.O.OutEnd.credited c.submit.new.end)) c.submit.ensures.stays,
      now,
      c.submit.ensures,
    )
