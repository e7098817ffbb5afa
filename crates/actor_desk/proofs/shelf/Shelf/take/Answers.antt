use Rattle.std.proofs.Common.{sym, subst}
use Rattle.actor_desk.specs.Held.{Removes}
use Rattle.actor_desk.specs.Kept.{IsCollectedAt}
use Rattle.actor_desk.specs.declared.entry.Mark.TheVariants.{Holds}
use Rattle.actor_desk.proofs.Kept.{not_both, same_before, holds-there}
use Rattle.actor_desk.proofs.KeptOutcomes.{Removes-taken}
use Rattle.actor_desk.proofs.shelf.Shelf.take.Goals as goal

pub unreachable-requires : goal.unreachable-requires
unreachable-requires g c = not_both _ _ (holds-there _ _ c.self.invariant.0 c.args.number (subst (λ s. IsCollectedAt s.entries c.args.number) (sym c.self.view_is) c.requires)).1 c.in_default.ensures.none

pub unreachable-requires-in_default-mark : goal.unreachable-requires-in_default-mark
unreachable-requires-in_default-mark g c =
    let there = holds-there _ _ c.self.invariant.0 c.args.number (subst (λ s. IsCollectedAt s.entries c.args.number) (sym c.self.view_is) c.requires) in
    c.in_default-mark.not-Holds there.0 (same_before _ c.remove.new.self.entries c.args.number c.in-Some.mark (Holds there.0) there.1 c.in-Some.ensures.removes.was)

pub returns-clause-removes : goal.returns-clause-removes
returns-clause-removes g c =
    let removes = subst (λ m. Removes c.self.inside.held.entries c.remove.new.self.entries c.args.number m) c.in-Holds.is c.in-Some.ensures.removes in
    rw (← c.self.view_is) (Removes-taken c.self.inside.kept _ _ _ c.args.number c.in-Holds.key c.remove-2.result c.self.invariant.0 c.remove-2.ensures.value c.remove-2.ensures.updates removes)
