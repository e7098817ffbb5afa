use Rattle.model_world.proofs.Words.{◌≡◌, ◌<◌, sym, ◌∙◌, ap, subst, arith, ◌↔◌, IsTrue, Unknown, RefusesTicket, journal_at}
use Rattle.model_world.proofs.Sending.{outside_desk, outside_notes}
use Rattle.model_world.proofs.model.World.knows.Goals as goal

pub returns-else-from-self : goal.returns-else-from-self
returns-else-from-self g c =
    let last : c.from.inside.0 ≡ c.self.inside.cores = omega (arith, c.if-from-self.false, c.from.view_is, c.requires, ap (λ world. world.cores) c.self.view_is) in
    let desk = sym (outside_desk c.self.invariant.1 c.from.inside.0 last) ∙ c.self.invariant.1.all_there.seats_are c.from.inside.0 (omega (arith, last)) in
    let number : c.self.inside.outside.actor ≡ c.args.from = ap (λ desk. desk.actor) desk ∙ c.from.view_is in
    let cores : c.self.inside.outside.cores ≡ c.args.self.now.cores = ap (λ desk. desk.cores) desk ∙ ap (λ world. world.cores) c.self.view_is in
    let notes : c.self.inside.outside.journal.notes ≡ journal_at c.args.from c.args.self.now =
    sym (outside_notes c.self.invariant.1 c.from.inside.0 last) ∙ (λ i. journal_at (c.from.view_is i) (c.self.view_is i)) in
    record {
      knows = subst (λ actor. IsTrue c.knows-else-from-self.result ↔ ((c.args.ticket.from ≡ actor) × (c.args.ticket.to < c.args.self.now.cores))) number
          (subst (λ count. IsTrue c.knows-else-from-self.result ↔ ((c.args.ticket.from ≡ c.self.inside.outside.actor) × (c.args.ticket.to < count))) cores c.knows-else-from-self.ensures.knows);
      unknown = λ no. subst (RefusesTicket c.args.ticket Unknown) notes (c.knows-else-from-self.ensures.unknown no);
    }
