use Rattle.actor_core.proofs.Names.{CollectsFrom, Fits, booked, ◌∙◌, ◌+◌, ◌≡◌, ◌≤◌, ap, desk_of, length}
use Rattle.actor_desk.specs.Tickets.{StaysBeside}
use Rattle.actor_core.proofs.SentNotes.{has_said, collected_silent, said_so}
use Rattle.actor_core.proofs.recorded.Recorded.collect_from.Goals as goal

pub collect_from-requires : goal.collect_from-requires
collect_from-requires g c = rw (c.self.invariant.1 ∙ ap desk_of c.self.view_is) (assumption c.requires)

pub invariant_of-self : goal.invariant_of-self
invariant_of-self g c =
    let silent = collected_silent c.self.inside.said c.collect_from.new.self c.args.core c.collect_from.result c.collect_from.ensures.collects in
    let now = has_said c.self.inside.core c.self.inside.took.items c.self.inside.said c.self.invariant c.self.view_is c.collect_from.ensures.stays.rest c.collect_from.ensures.stays.written silent in
    (now.sound, now.is_its)

pub returns : goal.returns
returns g c =
    let silent = collected_silent c.self.inside.said c.collect_from.new.self c.args.core c.collect_from.result c.collect_from.ensures.collects in
    let now = has_said c.self.inside.core c.self.inside.took.items c.self.inside.said c.self.invariant c.self.view_is c.collect_from.ensures.stays.rest c.collect_from.ensures.stays.written silent in
    assumption (
      said_so c.self.inside.core c.self.inside.took.items c.self.inside.said c.self.invariant c.self.view_is now.is_its (λ old new. CollectsFrom c.args.core old c.collect_from.result new) c.collect_from.ensures.collects,
      said_so c.self.inside.core c.self.inside.took.items c.self.inside.said c.self.invariant c.self.view_is now.is_its (λ old new. booked new ≡ booked old) c.collect_from.ensures.books,
      said_so c.self.inside.core c.self.inside.took.items c.self.inside.said c.self.invariant c.self.view_is now.is_its (λ old new. length new.journal.notes ≤ length old.journal.notes + old.cap) c.collect_from.ensures.few,
      said_so c.self.inside.core c.self.inside.took.items c.self.inside.said c.self.invariant c.self.view_is now.is_its
          (λ old new. StaysBeside (Fits g.J.Task.meaning) c.args.core old new (g.O.OutEnd.out c.collect_from.new.end) (g.O.OutEnd.credited c.collect_from.new.end)) c.collect_from.ensures.stays,
      now,
      c.collect_from.ensures,
    )
