use Rattle.model_world.proofs.Words.{◌≡◌, sym, ◌∙◌, ap, arith}
use Rattle.model_world.proofs.Sending.{outside_notes, outside_room, outside_whole}
use Rattle.model_world.proofs.model.World.journal.Goals as goal

pub returns-else-actor-self : goal.returns-else-actor-self
returns-else-actor-self g c =
    let is_last : c.actor.inside.0 ≡ c.self.inside.cores = omega (arith, c.actor.view_is, c.requires, ap (λ world. world.cores) c.self.view_is, c.if-actor-self.false) in
    let whole = ap (λ journal. journal.passed) c.journal-else-actor-self.ensures ∙ outside_whole c.self.invariant.1 c.actor.inside.0 is_last in
    let kept = c.kept-else-actor-self.ensures.whole whole ∙ c.journal-else-actor-self.ensures in
    record {
      notes = rw (← c.self.view_is, ← c.actor.view_is) (ap (λ journal. journal.notes) kept ∙ sym (outside_notes c.self.invariant.1 c.actor.inside.0 is_last));
      room = rw (← c.self.view_is) (ap (λ journal. journal.room) kept ∙ outside_room c.self.invariant.1 c.actor.inside.0 is_last);
    }
