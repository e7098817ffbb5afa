use Rattle.std.proofs.Common.{◌≡◌, ◌+◌, ap, true, ◌∙◌, arith}
use Rattle.actor_desk.specs.Held.{at, count_of}
use Rattle.actor_desk.specs.declared.entry.Mark.TheVariants.{Waits, Holds}
use Rattle.actor_desk.proofs.Kept.{not_both, waits-there, room-kept, became}
use Rattle.actor_desk.proofs.KeptOutcomes.{Becomes-kept, AreKept-kept}
use Rattle.actor_desk.proofs.shelf.Shelf.keep.Goals as goal

pub insert_reserved-key-requires : goal.insert_reserved-key-requires
insert_reserved-key-requires g c = room-kept _ _ c.self.invariant.0 c.args.number (waits-there _ _ c.self.invariant.0 c.args.number (ap (λ s. at s.entries c.args.number) c.self.view_is ∙ c.requires.waits)) c.self.invariant.1

pub returns-clause-becomes : goal.returns-clause-becomes
returns-clause-becomes g c =
    let there = waits-there _ _ c.self.invariant.0 c.args.number (ap (λ s. at s.entries c.args.number) c.self.view_is ∙ c.requires.waits) in
    rw (← c.self.view_is) (Becomes-kept c.self.inside.kept c.insert_reserved-key.new.self c.self.inside.held.entries c.swap.new.self.entries c.args.number c.insert_reserved-key.result c.args.outcome c.self.invariant.0
    c.insert_reserved-key.ensures.was_vacant c.insert_reserved-key.ensures.updates (became _ _ c.args.number _ Waits there _ c.in-Some.ensures.becomes))

pub invariant_of-self : goal.invariant_of-self
invariant_of-self g c =
    let i = c.self.inside in
    let there = waits-there i.kept i.held.entries c.self.invariant.0 c.args.number (ap (λ s. at s.entries c.args.number) c.self.view_is ∙ c.requires.waits) in
    let becomes = became i.held.entries c.swap.new.self.entries c.args.number _ Waits there (Holds c.insert_reserved-key.result) c.in-Some.ensures.becomes in
    let same : 1 + count_of c.swap.new.self.entries ≡ 1 + count_of i.held.entries = becomes.tallies (λ mark. true) in (
      AreKept-kept i.kept c.insert_reserved-key.new.self i.held.entries c.swap.new.self.entries c.args.number c.insert_reserved-key.result c.args.outcome c.self.invariant.0
          c.insert_reserved-key.ensures.was_vacant c.insert_reserved-key.ensures.updates becomes c.insert_reserved-key.ensures.len,
      omega (arith, c.self.invariant.1, c.insert_reserved-key.ensures.capacity),
      omega (arith, c.swap.ensures.room, c.self.invariant.2, c.insert_reserved-key.ensures.capacity),
      omega (arith, c.self.invariant.3, c.insert_reserved-key.ensures.capacity),
    )

pub unreachable-requires : goal.unreachable-requires
unreachable-requires g c = not_both _ _ (waits-there _ _ c.self.invariant.0 c.args.number (ap (λ s. at s.entries c.args.number) c.self.view_is ∙ c.requires.waits)) c.in_default.ensures.none
