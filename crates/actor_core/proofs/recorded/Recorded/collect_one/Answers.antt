use Rattle.actor_core.proofs.Names.{Fits, booked, ◌∙◌, ◌≡◌, ap, desk_of}
use Rattle.actor_desk.specs.Tickets.{GetsNext, StaysBeside}
use Rattle.actor_core.proofs.SentNotes.{has_said, next_silent, said_so}
use Rattle.actor_core.proofs.recorded.Recorded.collect_one.Goals as goal

pub collect_one-requires : goal.collect_one-requires
collect_one-requires g c = rw (c.self.invariant.1 ∙ ap desk_of c.self.view_is) (assumption c.requires)

pub invariant_of-self : goal.invariant_of-self
invariant_of-self g c =
    let silent = next_silent c.self.inside.said c.collect_one.new.self c.args.core (g.O.OutEnd.out c.args.end.now) (g.O.OutEnd.out c.collect_one.new.end) c.collect_one.result c.collect_one.ensures.gets in
    let now = has_said c.self.inside.core c.self.inside.took.items c.self.inside.said c.self.invariant c.self.view_is c.collect_one.ensures.stays.rest c.collect_one.ensures.stays.written silent in
    (now.sound, now.is_its)

pub returns : goal.returns
returns g c =
    let silent = next_silent c.self.inside.said c.collect_one.new.self c.args.core (g.O.OutEnd.out c.args.end.now) (g.O.OutEnd.out c.collect_one.new.end) c.collect_one.result c.collect_one.ensures.gets in
    let now = has_said c.self.inside.core c.self.inside.took.items c.self.inside.said c.self.invariant c.self.view_is c.collect_one.ensures.stays.rest c.collect_one.ensures.stays.written silent in
    assumption (
      said_so c.self.inside.core c.self.inside.took.items c.self.inside.said c.self.invariant c.self.view_is now.is_its (λ old new. GetsNext c.args.core old new (g.O.OutEnd.out c.args.end.now) (g.O.OutEnd.out c.collect_one.new.end) c.collect_one.result) c.collect_one.ensures.gets,
      said_so c.self.inside.core c.self.inside.took.items c.self.inside.said c.self.invariant c.self.view_is now.is_its (λ old new. booked new ≡ booked old) c.collect_one.ensures.books,
      said_so c.self.inside.core c.self.inside.took.items c.self.inside.said c.self.invariant c.self.view_is now.is_its (λ old new. StaysBeside (Fits g.J.Task.meaning) c.args.core old new (g.O.OutEnd.out c.collect_one.new.end) (g.O.OutEnd.credited c.collect_one.new.end)) c.collect_one.ensures.stays,
      now,
      c.collect_one.ensures,
    )
