use Rattle.std.proofs.Common.{◌+◌, ◌∙◌, ap, sym, subst}
use Rattle.link_ends.specs.Calls.{MayGive}
use Rattle.link_ends.specs.Fits.{Fits}
use Rattle.link_board.specs.Cells.{place_of}
use Rattle.link_ring.proofs.InLaws.{IsInward-awaits, IsInward-given}
use Rattle.link_ring.proofs.ring_in.RingInInEnd.give.Goals as goal

pub give-requires-clause-owed : goal.give-requires-clause-owed
give-requires-clause-owed g c =
    let may = subst (λ v. MayGive (Fits g.J.Task.meaning) v.inward c.args.number c.args.outcome) (sym c.self.view_is) c.requires in
    IsInward-awaits c.self.inside c.self.invariant (Fits g.J.Task.meaning) c.args.number c.args.outcome may

pub invariant_of-self : goal.invariant_of-self
invariant_of-self g c =
    let may = subst (λ v. MayGive (Fits g.J.Task.meaning) v.inward c.args.number c.args.outcome) (sym c.self.view_is) c.requires in let step = c.give.ensures in
    IsInward-given c.self.inside c.self.invariant (record c.self.inside { seat = c.give.new.seat }) step.at step.receiver
    (Fits g.J.Task.meaning) c.args.number c.args.outcome _ may step.gave (c.next_place-self-inside.ensures ∙ ap (λ b. place_of b.gap b.lines.key.capacity (c.self.inside.given + 1)) c.deref-2.ensures)
