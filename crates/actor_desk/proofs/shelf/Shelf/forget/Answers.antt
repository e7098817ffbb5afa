use Rattle.std.proofs.Common.{◌≡◌, ◌+◌, true, ap, ◌∙◌, arith}
use Rattle.actor_desk.specs.Held.{at, count_of}
use Rattle.actor_desk.specs.declared.entry.Mark.TheVariants.{LetGo}
use Rattle.actor_desk.proofs.Kept.{not_both, let_go-there, taken_out, Removes-shown, AreKept-forgotten}
use Rattle.actor_desk.proofs.shelf.Shelf.forget.Goals as goal

pub returns-clause-removes : goal.returns-clause-removes
returns-clause-removes g c = rw (← c.self.view_is) (Removes-shown c.self.inside.kept _ _ c.args.number (taken_out _ _ c.args.number _ LetGo (let_go-there _ _ c.self.invariant.0 c.args.number (ap (λ s. at s.entries c.args.number) c.self.view_is ∙ c.requires.detached)) c.in-Some.ensures.removes))

pub unreachable-requires : goal.unreachable-requires
unreachable-requires g c = not_both _ _ (let_go-there _ _ c.self.invariant.0 c.args.number (ap (λ s. at s.entries c.args.number) c.self.view_is ∙ c.requires.detached)) c.in_default.ensures.none

pub invariant_of-self : goal.invariant_of-self
invariant_of-self g c =
    let i = c.self.inside in
    let there = let_go-there i.kept i.held.entries c.self.invariant.0 c.args.number (ap (λ s. at s.entries c.args.number) c.self.view_is ∙ c.requires.detached) in
    let removes = taken_out i.held.entries c.remove.new.self.entries c.args.number _ LetGo there c.in-Some.ensures.removes in
    let fewer : count_of i.held.entries ≡ 1 + count_of c.remove.new.self.entries = removes.tallies (λ mark. true) in
    (AreKept-forgotten i.kept i.held.entries c.remove.new.self.entries c.args.number c.self.invariant.0 removes, omega (arith, c.self.invariant.1), omega (arith, c.remove.ensures.room, c.self.invariant.2), c.self.invariant.3)
