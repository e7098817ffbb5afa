use Rattle.std.proofs.Common.{◌≡◌, ◌+◌, ap, ◌∙◌, arith, true}
use Rattle.actor_desk.specs.Held.{at, count_of}
use Rattle.actor_desk.specs.declared.entry.Mark.TheVariants.{Waits, LetGo}
use Rattle.actor_desk.proofs.Kept.{not_both, waits-there, became, Becomes-shown, AreKept-let_go}
use Rattle.actor_desk.proofs.shelf.Shelf.let_go.Goals as goal

pub returns-clause-becomes : goal.returns-clause-becomes
returns-clause-becomes g c = rw (← c.self.view_is) (Becomes-shown c.self.inside.kept _ _ c.args.number (became _ _ c.args.number _ Waits (waits-there _ _ c.self.invariant.0 c.args.number (ap (λ s. at s.entries c.args.number) c.self.view_is ∙ c.requires.waits)) LetGo c.in-Some.ensures.becomes))

pub invariant_of-self : goal.invariant_of-self
invariant_of-self g c =
    let i = c.self.inside in
    let there = waits-there i.kept i.held.entries c.self.invariant.0 c.args.number (ap (λ s. at s.entries c.args.number) c.self.view_is ∙ c.requires.waits) in
    let becomes = became i.held.entries c.swap.new.self.entries c.args.number _ Waits there LetGo c.in-Some.ensures.becomes in
    let same : 1 + count_of c.swap.new.self.entries ≡ 1 + count_of i.held.entries = becomes.tallies (λ mark. true) in
    (AreKept-let_go i.kept i.held.entries c.swap.new.self.entries c.args.number c.self.invariant.0 becomes, omega (arith, c.self.invariant.1), omega (arith, c.swap.ensures.room, c.self.invariant.2), c.self.invariant.3)

pub unreachable-requires : goal.unreachable-requires
unreachable-requires g c = not_both _ _ (waits-there _ _ c.self.invariant.0 c.args.number (ap (λ s. at s.entries c.args.number) c.self.view_is ∙ c.requires.waits)) c.in_default.ensures.none
