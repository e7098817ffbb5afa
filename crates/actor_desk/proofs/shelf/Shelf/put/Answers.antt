use Rattle.std.proofs.Common.{◌+◌, ◌≡◌, ◌<◌, true, sym, subst, arith}
use Rattle.actor_desk.specs.Held.{count_of}
use Rattle.actor_desk.specs.Kept.{shown}
use Rattle.actor_desk.specs.Rolls.{IsAbove}
use Rattle.actor_desk.proofs.Kept.{above-there, count-shown, Adds-shown, AreKept-added}
use Rattle.actor_desk.proofs.shelf.Shelf.put.Goals as goal

pub add-requires-clause-above : goal.add-requires-clause-above
add-requires-clause-above g c = above-there _ _ c.self.invariant.0 c.args.number (subst (λ s. IsAbove s.entries c.args.number) (sym c.self.view_is) c.requires.above)

pub add-requires-clause-room : goal.add-requires-clause-room
add-requires-clause-room g c =
    let i = c.self.inside in
    let low : count_of (shown i.kept i.held.entries) < i.held.room = subst (λ s. count_of s.entries < s.room) (sym c.self.view_is) c.requires.room in
    omega (arith, count-shown i.kept i.held.entries c.self.invariant.0)

pub returns-clause-adds : goal.returns-clause-adds
returns-clause-adds g c = rw (← c.self.view_is) (Adds-shown c.self.inside.kept _ _ c.args.number c.add.ensures.adds)

pub invariant_of-self : goal.invariant_of-self
invariant_of-self g c =
    let i = c.self.inside in
    let low : count_of (shown i.kept i.held.entries) < i.held.room = subst (λ s. count_of s.entries < s.room) (sym c.self.view_is) c.requires.room in
    let more : count_of c.add.new.self.entries ≡ 1 + count_of i.held.entries = c.add.ensures.adds.tallies (λ mark. true) in (
      AreKept-added i.kept i.held.entries c.add.new.self.entries c.args.number c.self.invariant.0 c.add.ensures.adds,
      omega (arith, count-shown i.kept i.held.entries c.self.invariant.0, c.self.invariant.2),
      omega (arith, c.add.ensures.room, c.self.invariant.2),
      c.self.invariant.3,
    )
