use Rattle.std.proofs.Common.{◌+◌, ◌∙◌, ap, subst}
use Rattle.base_jobs.specs.Ready.{HasReadyJob}
use Rattle.link_ends.specs.Ends.{AreNamed}
use Rattle.link_board.specs.Cells.{place_of}
use Rattle.link_ring.proofs.InLaws.{IsInward-taken}
use Rattle.link_ring.proofs.ring_in.RingInInEnd.take.Goals as goal

pub invariant_of-self-2 : goal.invariant_of-self-2
invariant_of-self-2 g c = let step = c.in_ok-order.ensures in
    IsInward-taken c.self.inside c.self.invariant (record c.self.inside { seat = c.next_order.new.seat }) step.at step.receiver
    (HasReadyJob g.J.Task.meaning) _ _ step.sees step.order step.last step.took c.if-self.false (c.next_place-self-inside.ensures ∙ ap (λ b. place_of b.gap b.lines.key.capacity (c.self.inside.taken + 1)) c.deref-2.ensures)

pub returns-clause-named : goal.returns-clause-named
returns-clause-named g c = subst (λ v. AreNamed v.inward.base v.inward.taken v.inward.given) c.self.view_is c.self.invariant.sound.named

pub returns-clause-sound : goal.returns-clause-sound
returns-clause-sound g c = let step = c.in_ok-order.ensures in
    (IsInward-taken c.self.inside c.self.invariant (record c.self.inside { seat = c.next_order.new.seat }) step.at step.receiver
    (HasReadyJob g.J.Task.meaning) _ _ step.sees step.order step.last step.took c.if-self.false (c.next_place-self-inside.ensures ∙ ap (λ b. place_of b.gap b.lines.key.capacity (c.self.inside.taken + 1)) c.deref-2.ensures)).sound
