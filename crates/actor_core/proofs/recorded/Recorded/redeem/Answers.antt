use Rattle.actor_core.proofs.Names.{Fits, RedeemsTicket, ◌∙◌, ap, desk_of}
use Rattle.actor_desk.specs.Tickets.{StaysBeside}
use Rattle.actor_core.proofs.SentNotes.{has_said, redeemed_silent, said_so}
use Rattle.actor_core.proofs.recorded.Recorded.redeem.Goals as goal

pub redeem-requires : goal.redeem-requires
redeem-requires g c = rw (c.self.invariant.1 ∙ ap desk_of c.self.view_is) (assumption c.requires)

pub invariant_of-self : goal.invariant_of-self
invariant_of-self g c =
    let silent = redeemed_silent c.self.inside.said c.redeem.new.self c.args.ticket c.redeem.result c.redeem.ensures.redeems in
    let now = has_said c.self.inside.core c.self.inside.took.items c.self.inside.said c.self.invariant c.self.view_is c.redeem.ensures.stays.rest c.redeem.ensures.stays.written silent in
    (now.sound, now.is_its)

pub returns : goal.returns
returns g c =
    let silent = redeemed_silent c.self.inside.said c.redeem.new.self c.args.ticket c.redeem.result c.redeem.ensures.redeems in
    let now = has_said c.self.inside.core c.self.inside.took.items c.self.inside.said c.self.invariant c.self.view_is c.redeem.ensures.stays.rest c.redeem.ensures.stays.written silent in
    assumption (
      said_so c.self.inside.core c.self.inside.took.items c.self.inside.said c.self.invariant c.self.view_is now.is_its (λ old new. RedeemsTicket c.args.ticket old c.redeem.result new) c.redeem.ensures.redeems,
      said_so c.self.inside.core c.self.inside.took.items c.self.inside.said c.self.invariant c.self.view_is now.is_its (λ old new. StaysBeside (Fits g.J.Task.meaning) c.args.ticket.to old new (g.O.OutEnd.out c.redeem.new.end) (g.O.OutEnd.credited c.redeem.new.end)) c.redeem.ensures.stays,
      now,
      c.redeem.ensures,
    )
